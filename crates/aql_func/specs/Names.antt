-- The functions' names and arities (the chapter of the AQL manual on functions). A name is read in any
-- letter case of its ASCII letters. A call of a name that there isn't, or with a number of arguments that
-- its function doesn't take, is null.
use Rattle.std.specs.Prelude.{ℕ, List, [], ◌∷◌, Bool, true, ◌&&◌, codes, Option, Some, None, find, nat_le}
use Rattle.std.specs.Str.{str_eq_ignore_ascii_case}
use Rattle.aql_func.specs.declared.names.FuncName.{FuncName}
use Rattle.aql_func.specs.declared.names.FuncName.TheVariants.{IsNull, IsBool, IsNumber, IsString, IsArray, IsObject, Typename, ToBool, ToNumber, ToString, ToArray, NotNull, Abs, Min, Max, Sum, Range, Concat, ConcatSeparator, Length, Count, Substring, Left, Right, Contains, StartsWith, Split, Reverse, First, Last, Nth, Position, Push, Append, Unique, Sorted, SortedUnique, CountDistinct, Flatten, Slice, Intersection, Minus, Union, UnionDistinct, Attributes, Values, Has, Merge, Unset, Keep, ParseIdentifier}

-- a function's name, and the least and the greatest number of its arguments; `None` is no limit
pub record Signature : Type 0 where
  pub name : List ℕ
  pub least : ℕ
  pub most : Option ℕ

abbrev pub exactly : ℕ → List ℕ → Signature
exactly n name = record { name = name; least = n; most = Some n }

abbrev pub between : ℕ → ℕ → List ℕ → Signature
between least most name = record { name = name; least = least; most = Some most }

abbrev pub at_least : ℕ → List ℕ → Signature
at_least n name = record { name = name; least = n; most = None }

abbrev pub signature : FuncName → Signature
signature IsNull = exactly 1 (codes "IS_NULL")
signature IsBool = exactly 1 (codes "IS_BOOL")
signature IsNumber = exactly 1 (codes "IS_NUMBER")
signature IsString = exactly 1 (codes "IS_STRING")
signature IsArray = exactly 1 (codes "IS_ARRAY")
signature IsObject = exactly 1 (codes "IS_OBJECT")
signature Typename = exactly 1 (codes "TYPENAME")
signature ToBool = exactly 1 (codes "TO_BOOL")
signature ToNumber = exactly 1 (codes "TO_NUMBER")
signature ToString = exactly 1 (codes "TO_STRING")
signature ToArray = exactly 1 (codes "TO_ARRAY")
signature NotNull = at_least 1 (codes "NOT_NULL")
signature Abs = exactly 1 (codes "ABS")
signature Min = exactly 1 (codes "MIN")
signature Max = exactly 1 (codes "MAX")
signature Sum = exactly 1 (codes "SUM")
signature Range = exactly 2 (codes "RANGE")
signature Concat = at_least 1 (codes "CONCAT")
signature ConcatSeparator = at_least 2 (codes "CONCAT_SEPARATOR")
signature Length = exactly 1 (codes "LENGTH")
signature Count = exactly 1 (codes "COUNT")
signature Substring = between 2 3 (codes "SUBSTRING")
signature Left = exactly 2 (codes "LEFT")
signature Right = exactly 2 (codes "RIGHT")
signature Contains = exactly 2 (codes "CONTAINS")
signature StartsWith = exactly 2 (codes "STARTS_WITH")
signature Split = exactly 2 (codes "SPLIT")
signature Reverse = exactly 1 (codes "REVERSE")
signature First = exactly 1 (codes "FIRST")
signature Last = exactly 1 (codes "LAST")
signature Nth = exactly 2 (codes "NTH")
signature Position = exactly 2 (codes "POSITION")
signature Push = between 2 3 (codes "PUSH")
signature Append = between 2 3 (codes "APPEND")
signature Unique = exactly 1 (codes "UNIQUE")
signature Sorted = exactly 1 (codes "SORTED")
signature SortedUnique = exactly 1 (codes "SORTED_UNIQUE")
signature CountDistinct = exactly 1 (codes "COUNT_DISTINCT")
signature Flatten = between 1 2 (codes "FLATTEN")
signature Slice = between 2 3 (codes "SLICE")
signature Intersection = at_least 2 (codes "INTERSECTION")
signature Minus = at_least 2 (codes "MINUS")
signature Union = at_least 2 (codes "UNION")
signature UnionDistinct = at_least 2 (codes "UNION_DISTINCT")
signature Attributes = exactly 1 (codes "ATTRIBUTES")
signature Values = exactly 1 (codes "VALUES")
signature Has = exactly 2 (codes "HAS")
signature Merge = at_least 1 (codes "MERGE")
signature Unset = at_least 2 (codes "UNSET")
signature Keep = at_least 2 (codes "KEEP")
signature ParseIdentifier = exactly 1 (codes "PARSE_IDENTIFIER")

-- all functions
abbrev pub functions : List FuncName
functions =
    IsNull ∷ IsBool ∷ IsNumber ∷ IsString ∷ IsArray ∷ IsObject ∷ Typename ∷ ToBool ∷ ToNumber ∷
    ToString ∷ ToArray ∷ NotNull ∷ Abs ∷ Min ∷ Max ∷ Sum ∷ Range ∷ Concat ∷ ConcatSeparator ∷
    Length ∷ Count ∷ Substring ∷ Left ∷ Right ∷ Contains ∷ StartsWith ∷ Split ∷ Reverse ∷ First ∷
    Last ∷ Nth ∷ Position ∷ Push ∷ Append ∷ Unique ∷ Sorted ∷ SortedUnique ∷ CountDistinct ∷
    Flatten ∷ Slice ∷ Intersection ∷ Minus ∷ Union ∷ UnionDistinct ∷ Attributes ∷ Values ∷ Has ∷
    Merge ∷ Unset ∷ Keep ∷ ParseIdentifier ∷ []

abbrev pub is_named : List ℕ → FuncName → Bool
is_named name f = str_eq_ignore_ascii_case (signature f).name name

-- the function of a name, in any letter case
abbrev pub function_named : List ℕ → Option FuncName
function_named name = find (is_named name) functions

abbrev pub is_within : Option ℕ → ℕ → Bool
is_within None n = true
is_within (Some most) n = nat_le n most

-- whether the function takes this number of arguments
abbrev pub allows : FuncName → ℕ → Bool
allows f n = nat_le (signature f).least n && is_within (signature f).most n
