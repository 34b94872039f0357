-- The value of each function (the chapters of the AQL manual on functions), an equation for each number of
-- arguments. Numbers and texts are taken from an argument by conversion; where an array or an object is
-- wanted, everything else gives null.
use Rattle.std.specs.Prelude.{ℕ, pos, negsuc, List, [], ◌∷◌, Bool, cond, flat_map, map, length, take, drop, reverse, codes, None, Some, max as larger, false, chars, bytes_eq, unsigned_abs, is_some}
use Rattle.aql_value.specs.Datum.{Datum, null, boolean, number, text, array, object}
use Rattle.aql_value.specs.Contents.{list, record_of, elements, attributes, at_index, is_in}
use Rattle.aql_value.specs.Attributes.{attribute}
use Rattle.aql_value.specs.Convert.{number_or_null, to_number, to_text}
use Rattle.aql_value.specs.Truth.{truth}
use Rattle.aql_func.specs.declared.names.FuncName.{FuncName}
use Rattle.aql_func.specs.declared.names.FuncName.TheVariants.{IsNull, IsBool, IsNumber, IsString, IsArray, IsObject, Typename, ToBool, ToNumber, ToString, ToArray, NotNull, Abs, Min, Max, Sum, Range, Concat, ConcatSeparator, Length, Count, Substring, Left, Right, Contains, StartsWith, Split, Reverse, First, Last, Nth, Position, Push, Append, Unique, Sorted, SortedUnique, CountDistinct, Flatten, Slice, Intersection, Minus, Union, UnionDistinct, Attributes, Values, Has, Merge, Unset, Keep, ParseIdentifier}
use Rattle.aql_func.specs.Arguments.{argument, of_list, of_lists, of_object, elements_or_self, spread}
use Rattle.aql_func.specs.Texts.{by_characters, substring, occurs_in, begins_with, parts_of, join_by}
use Rattle.aql_func.specs.Lists.{sort_values, firsts, distinct, in_all, in_none, flatten, add_all, how_many, last_of, slice, nth}
use Rattle.aql_func.specs.Aggregates.{aggregate, count_distinct, sum, min, max, sorted_unique, without_null}
use Rattle.aql_func.specs.Objects.{merge, only_named, without_named, parse_identifier}
use Rattle.aql_func.specs.Operators.{range}

abbrev pub type_name : Datum → List ℕ
type_name null = codes "null"
type_name (boolean b) = codes "bool"
type_name (number z) = codes "number"
type_name (text s) = codes "string"
type_name (array ts) = codes "array"
type_name (object fs) = codes "object"

abbrev pub has_type : List ℕ → Datum → Datum
has_type name t = boolean (bytes_eq (type_name t) name)

abbrev pub to_array : Datum → Datum
to_array null = list []
to_array (object fs) = list (map (λ (f : List ℕ × Datum). f.1) (attributes (object fs)))
to_array t = list (elements_or_self t)

-- elements of an array, attributes of an object, characters of every other value's text; null and false have
-- the length 0, true has 1
abbrev pub length_of : Datum → Datum
length_of null = number (pos 0)
length_of (boolean b) = number (cond b (pos 1) (pos 0))
length_of (array ts) = number_or_null (pos (length (elements (array ts))))
length_of (object fs) = number_or_null (pos (length (attributes (object fs))))
length_of t = number_or_null (pos (length (chars (to_text t))))

abbrev pub reverse_value : Datum → Datum
reverse_value (array ts) = list (reverse (elements (array ts)))
reverse_value (text s) = text (by_characters reverse s)
reverse_value t = null

-- the texts of all that aren't null, joined
abbrev pub concatenate : List ℕ → List Datum → Datum
concatenate separator ts = text (join_by separator (map to_text (without_null ts)))

-- null counts as the empty array
abbrev pub or_empty : Datum → Datum
or_empty null = list []
or_empty t = t

-- `us` added to the elements of an array
abbrev pub append_to : Datum → Bool → List Datum → Datum
append_to t once us = of_list (or_empty t) (λ ts. list (add_all once ts us))

-- a depth is at least 1
abbrev pub depth_of : Datum → ℕ
depth_of t = larger 1 (how_many (to_number t))

-- the first of several lists, and the others
abbrev pub head : List (List Datum) → List Datum
head [] = []
head (ts ∷ others) = ts

-- the value of a function of these arguments, which have the manual's names; null for another number of them
abbrev pub call : FuncName → List Datum → Datum
call IsNull (value ∷ []) = has_type (codes "null") value
call IsBool (value ∷ []) = has_type (codes "bool") value
call IsNumber (value ∷ []) = has_type (codes "number") value
call IsString (value ∷ []) = has_type (codes "string") value
call IsArray (value ∷ []) = has_type (codes "array") value
call IsObject (value ∷ []) = has_type (codes "object") value
call Typename (value ∷ []) = text (type_name value)
call ToBool (value ∷ []) = boolean (truth value)
call ToNumber (value ∷ []) = number (to_number value)
call ToString (value ∷ []) = text (to_text value)
call ToArray (value ∷ []) = to_array value
call NotNull alternatives = argument (without_null alternatives) 0
call Abs (value ∷ []) = number_or_null (pos (unsigned_abs (to_number value)))
call Min (any_array ∷ []) = of_list any_array (aggregate min)
call Max (any_array ∷ []) = of_list any_array (aggregate max)
call Sum (any_array ∷ []) = of_list any_array (aggregate sum)
call Range (start ∷ stop ∷ []) = range (to_number start) (to_number stop)
call Concat values = concatenate [] (spread values)
call ConcatSeparator (separator ∷ values) = concatenate (to_text separator) (spread values)
call Length (value ∷ []) = length_of value
call Count (value ∷ []) = length_of value
call Substring (value ∷ offset ∷ []) = text (substring (to_number offset) None (to_text value))
call Substring (value ∷ offset ∷ count ∷ []) =
    text (substring (to_number offset) (Some count) (to_text value))
call Left (value ∷ n ∷ []) = text (by_characters (take (how_many (to_number n))) (to_text value))
call Right (value ∷ n ∷ []) = text (by_characters (last_of (how_many (to_number n))) (to_text value))
call Contains (value ∷ sought ∷ []) = boolean (occurs_in (to_text value) (to_text sought))
call StartsWith (value ∷ prefix ∷ []) = boolean (begins_with (to_text value) (to_text prefix))
call Split (value ∷ separator ∷ []) = list (map (λ s. text s) (parts_of (to_text separator) (to_text value)))
call Reverse (value ∷ []) = reverse_value value
call First (any_array ∷ []) = of_list any_array (λ ts. nth ts (pos 0))
call Last (any_array ∷ []) = of_list any_array (λ ts. at_index ts (negsuc 0))
call Nth (any_array ∷ place ∷ []) = of_list any_array (λ ts. nth ts (to_number place))
call Position (any_array ∷ sought ∷ []) = of_list any_array (λ ts. boolean (is_in ts sought))
call Push (any_array ∷ value ∷ []) = append_to any_array false (value ∷ [])
call Push (any_array ∷ value ∷ unique ∷ []) = append_to any_array (truth unique) (value ∷ [])
call Append (any_array ∷ values ∷ []) = append_to any_array false (elements_or_self values)
call Append (any_array ∷ values ∷ unique ∷ []) = append_to any_array (truth unique) (elements_or_self values)
call Unique (any_array ∷ []) = of_list any_array (λ ts. list (firsts ts))
call Sorted (any_array ∷ []) = of_list any_array (λ ts. list (sort_values ts))
call SortedUnique (any_array ∷ []) = of_list any_array (aggregate sorted_unique)
call CountDistinct (any_array ∷ []) = of_list any_array (aggregate count_distinct)
call Flatten (any_array ∷ []) = of_list any_array (λ ts. list (flatten 1 ts))
call Flatten (any_array ∷ depth ∷ []) = of_list any_array (λ ts. list (flatten (depth_of depth) ts))
call Slice (any_array ∷ start ∷ []) = of_list any_array (λ ts. list (slice (to_number start) None ts))
call Slice (any_array ∷ start ∷ count ∷ []) =
    of_list any_array (λ ts. list (slice (to_number start) (Some count) ts))
call Intersection arrays = of_lists arrays (λ lists. list (distinct (in_all (drop 1 lists) (head lists))))
call Minus arrays = of_lists arrays (λ lists. list (distinct (in_none (drop 1 lists) (head lists))))
call Union arrays = of_lists arrays (λ lists. list (flat_map (λ ts. ts) lists))
call UnionDistinct arrays = of_lists arrays (λ lists. list (distinct (flat_map (λ ts. ts) lists)))
call Attributes (document ∷ []) = of_object document (λ fs. list (map (λ (f : List ℕ × Datum). text f.0) fs))
call Values (document ∷ []) = of_object document (λ fs. list (map (λ (f : List ℕ × Datum). f.1) fs))
call Has (document ∷ name ∷ []) = of_object document (λ fs. boolean (is_some (attribute (to_text name) fs)))
call Merge documents = merge (spread documents)
call Unset (document ∷ names) = of_object document (λ fs. record_of (without_named names fs))
call Keep (document ∷ names) = of_object document (λ fs. record_of (only_named names fs))
call ParseIdentifier (value ∷ []) = parse_identifier value
call f args = null
