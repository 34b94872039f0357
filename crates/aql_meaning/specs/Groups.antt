-- COLLECT: the groups of rows with equal criteria, and the one row that each group gives (AQL's high-level
-- operations, COLLECT, with AGGREGATE, INTO and KEEP).
use Rattle.std.specs.Prelude.{ℕ, ◌≡◌, List, [], ◌∷◌, map, filter, reverse, ◌+◌, Option, Some, None, unwrap_or, option_map, IsPermutation}
use Rattle.std.specs.List.{AllZip}
use Rattle.aql_value.specs.Datum.{Datum, null}
use Rattle.aql_value.specs.Contents.{list, elements, same}
use Rattle.aql_func.specs.Lists.{distinct}
use Rattle.aql_func.specs.Aggregates.{aggregate, aggregate_named}
use Rattle.aql_func.specs.Arguments.{argument}
use Rattle.aql_tree.specs.declared.syntax.Ident.{Ident}
use Rattle.aql_tree.specs.declared.syntax.Ident.TheVariants.{Name, Num}
use Rattle.aql_meaning.specs.Row.{Row, bind, bind_all, value_at}
use Rattle.aql_meaning.specs.Expressions.{object_value}

-- a row as COLLECT sees it: its criteria, the argument of each aggregate, and what INTO takes of it
pub record GroupedRow : Type 0 where
  pub criteria : List Datum
  pub arguments : List Datum
  pub into_value : Datum

-- a grouped row as it is asked for: by its criteria, its arguments and what INTO takes
pub record IsGroupedRow (Criteria Arguments : List Datum → Type 0) (Taken : Datum → Type 0) (row : GroupedRow)
    : Type 0 where
  pub criteria : Criteria row.criteria
  pub arguments : Arguments row.arguments
  pub into_value : Taken row.into_value

-- the lists of criteria that some row has, each once, ascending as arrays; without criteria one group
abbrev pub groups : List Ident → List GroupedRow → List (List Datum)
groups [] grouped = [] ∷ []
groups (x ∷ xs) grouped = map elements (distinct (map (λ (row : GroupedRow). list row.criteria) grouped))

abbrev pub rows_of_group : List Datum → List GroupedRow → List GroupedRow
rows_of_group criteria grouped =
    filter (λ (row : GroupedRow). same (list criteria) (list row.criteria)) grouped

-- the aggregate of this name over the values of all rows of a group; null for a name that is none
abbrev pub aggregate_of : List ℕ → List Datum → Datum
aggregate_of name values = unwrap_or (option_map (λ kind. aggregate kind values) (aggregate_named name)) null

-- the aggregates in order, each over its arguments, from the place n of the arguments on
abbrev pub aggregate_values : List (List Datum → Datum) → ℕ → List GroupedRow → List Datum
aggregate_values [] n grouped = []
aggregate_values (f ∷ fs) n grouped =
    f (map (λ (row : GroupedRow). argument row.arguments n) grouped) ∷ aggregate_values fs (n + 1) grouped

-- the row of a group without its INTO variable: the start row's variables, the criteria and the aggregates
abbrev pub group_row : List Ident → List Ident → List (List Datum → Datum) → Row → List GroupedRow
    → List Datum
    → Row
group_row xs ys fs start grouped criteria =
    bind_all ys (aggregate_values fs 0 (rows_of_group criteria grouped)) (bind_all xs criteria start)

-- the row with the array of what INTO takes of the rows of the group, in any order
abbrev pub WithInto : Option Ident → List GroupedRow → Row → Row → Type 0
WithInto None grouped row out = out ≡ row
WithInto (Some x) grouped row out = (taken : List Datum)
    × IsPermutation (map (λ (from : GroupedRow). from.into_value) grouped) taken
    × (out ≡ bind x row (list taken))

-- COLLECT: a row for each group in turn; xs are the variables of the criteria, ys those of the aggregates fs
abbrev pub Collects : List Ident → List Ident → List (List Datum → Datum) → Option Ident
    → Row → List GroupedRow → List Row → Type 0
Collects xs ys fs into start grouped out = AllZip
    (λ criteria row.
    WithInto into (rows_of_group criteria grouped) (group_row xs ys fs start grouped criteria) row)
    (groups xs grouped) out

-- the variables that have a name
abbrev pub names_of : List Ident → List (List ℕ)
names_of [] = []
names_of (Name n ∷ xs) = n ∷ names_of xs
names_of (Num n ∷ xs) = names_of xs

-- what INTO takes without an expression: all variables, in the order in which they were set, or those that
-- KEEP names; `vars` has the last set first
abbrev pub into_names : List Ident → List (List ℕ) → List (List ℕ)
into_names vars [] = names_of (reverse vars)
into_names vars (name ∷ keep) = name ∷ keep

-- the object of these variables by their names
abbrev pub variables_object : List Ident → List (List ℕ) → Row → Datum
variables_object vars keep row =
    object_value (map (λ n. (n, value_at row (Name n))) (into_names vars keep))
