-- What a COLLECT in one step makes of rows, told by the rows themselves: which groups there are, the rows of
-- each, and the values of the aggregates over them.
use Rattle.std.proofs.Common.{◌≡◌, ◌∙◌, ℕ, zero, suc, ◌+◌, List, [], ◌∷◌, map, drop, refl, ap, ap₂, sym, subst, arith}
use Rattle.std.specs.Prelude.{filter, IsPermutation}
use Rattle.std.specs.List.{AllZip}
use Rattle.std.proofs.lemmas.Simd.{map-map}
use Rattle.aql_value.specs.Datum.{Datum, null}
use Rattle.aql_value.specs.Contents.{list, elements, same}
use Rattle.aql_func.specs.Arguments.{argument}
use Rattle.aql_func.specs.Lists.{distinct}
use Rattle.aql_tree.specs.declared.syntax.Ident.{Ident}
use Rattle.aql_tree.specs.Tree.{ExprTrees, MaybeExpr, AggregateTrees, no_aggregates, aggregate_then, IntoTree, no_into, into}
use Rattle.aql_meaning.specs.declared.grouping.Stage.TheVariants as stage
use Rattle.aql_meaning.specs.AtRows.{keys_of}
use Rattle.aql_meaning.specs.Groups.{GroupedRow, groups, rows_of_group, aggregate_of, aggregate_values, group_row, WithInto}
use Rattle.aql_meaning.specs.Row.{Row, bind, bind_all}
use Rattle.aql_meaning.specs.Stages.{arguments_at, taken_at, grouped_row_at, Grouped}
use Rattle.aql_meaning.specs.Value.{value_or}
use Rattle.aql_meaning.specs.Visible.{aggregate_vars, aggregate_functions, into_var}
use Rattle.aql_plan_laws.specs.laws.Lists.{map_equal, weaker}
use Rattle.aql_rewrite.specs.laws.Flat.{filter_map}

-- ---- in the words of the rows

abbrev pub argument_at : MaybeExpr → Row → Datum
argument_at e row = value_or e null row null

-- the criteria of each row as one array
abbrev pub criteria_of : ExprTrees → List Row → List Datum
criteria_of es rows = map (λ row. list (keys_of es row)) rows

abbrev pub groups_of : List Ident → ExprTrees → List Row → List (List Datum)
groups_of [] es rows = [] ∷ []
groups_of (x ∷ xs) es rows = map elements (distinct (criteria_of es rows))

-- the rows of a group
abbrev pub members : ExprTrees → List Row → List Datum → List Row
members es rows c = filter (λ row. same (list c) (list (keys_of es row))) rows

abbrev pub aggregated : AggregateTrees → List Row → List Datum
aggregated no_aggregates rows = []
aggregated (aggregate_then x name e rest) rows =
    aggregate_of name (map (argument_at e) rows) ∷ aggregated rest rows

-- the row of a group without its INTO variable, by its own rows
abbrev pub given_row : List Ident → AggregateTrees → Row → List Row → List Datum → Row
given_row xs gs start own c = bind_all (aggregate_vars gs) (aggregated gs own) (bind_all xs c start)

abbrev pub WithTaken : IntoTree → List Row → Row → Row → Type 0
WithTaken no_into own row out = out ≡ row
WithTaken (into x what keep) own row out = (taken : List Datum)
    × IsPermutation (map (taken_at (into x what keep)) own) taken × (out ≡ bind x row (list taken))

abbrev pub OfGroup : List Ident → ExprTrees → AggregateTrees → IntoTree → Row → List Row → List Datum → Row
    → Type 0
OfGroup xs es gs i start rows c out =
    WithTaken i (members es rows c) (given_row xs gs start (members es rows c) c) out

abbrev pub RowsGrouped : List Ident → ExprTrees → AggregateTrees → IntoTree → Row → List Row → List Row
    → Type 0
RowsGrouped xs es gs i start rows out = AllZip (OfGroup xs es gs i start rows) (groups_of xs es rows) out

-- ---- the same

first_argument : (args : List Datum) (n : ℕ) (v : Datum) (vs : List Datum) → drop n args ≡ v ∷ vs
    → (argument args n ≡ v) × (drop (suc n) args ≡ vs)
first_argument [] zero v vs h = cc
first_argument [] (suc n) v vs h = cc
first_argument (a ∷ args) zero v vs h =
    let k : a ≡ v = cc in let l : args ≡ vs = cc in (k, l)
first_argument (a ∷ args) (suc n) v vs h = first_argument args n v vs h

-- the arguments from the place n on
abbrev ArgumentsFrom : ℕ → AggregateTrees → GroupedRow → Row → Type 0
ArgumentsFrom n gs seen row = drop n seen.arguments ≡ arguments_at gs row

next : (n : ℕ) → suc n ≡ n + 1
next n = omega arith

aggregates_are : (gs : AggregateTrees) (n : ℕ) (grouped : List GroupedRow) (rows : List Row)
    → AllZip (ArgumentsFrom n gs) grouped rows
    → aggregate_values (aggregate_functions gs) n grouped ≡ aggregated gs rows
aggregates_are no_aggregates n grouped rows h = refl
aggregates_are (aggregate_then x name e rest) n grouped rows h =
    ap₂ (λ v vs. v ∷ vs)
    (ap (aggregate_of name) (map_equal (ArgumentsFrom n (aggregate_then x name e rest))
    (λ (seen : GroupedRow). argument seen.arguments n) (argument_at e)
    (λ seen row k. (first_argument seen.arguments n (argument_at e row) (arguments_at rest row) k).0)
    grouped rows h))
    (aggregates_are rest (n + 1) grouped rows
    (weaker (ArgumentsFrom n (aggregate_then x name e rest)) (ArgumentsFrom (n + 1) rest)
    (λ seen row k. subst (λ (m : ℕ). drop m seen.arguments ≡ arguments_at rest row) (next n)
    (first_argument seen.arguments n (argument_at e row) (arguments_at rest row) k).1)
    grouped rows h))

module _ (xs : List Ident) (es : ExprTrees) (gs : AggregateTrees) (i : IntoTree) where
  abbrev seen : Row → GroupedRow
  seen row = grouped_row_at stage.Whole xs es gs i row

  seen_arguments : (rows : List Row) → AllZip (ArgumentsFrom 0 gs) (map seen rows) rows
  seen_arguments [] = tt
  seen_arguments (row ∷ rows) = (refl, seen_arguments rows)

  groups_are : (ys : List Ident) (rows : List Row) → groups ys (map seen rows) ≡ groups_of ys es rows
  groups_are [] rows = refl
  groups_are (y ∷ ys) rows =
      ap (λ ks. map elements (distinct ks)) (map-map (λ (row : GroupedRow). list row.criteria) seen rows)

  members_are : (rows : List Row) (c : List Datum)
      → rows_of_group c (map seen rows) ≡ map seen (members es rows c)
  members_are rows c = filter_map (λ (row : GroupedRow). same (list c) (list row.criteria)) seen rows

  given_is : (start : Row) (rows : List Row) (c : List Datum)
      → group_row xs (aggregate_vars gs) (aggregate_functions gs) start (map seen rows) c
      ≡ given_row xs gs start (members es rows c) c
  given_is start rows c =
      ap (λ vs. bind_all (aggregate_vars gs) vs (bind_all xs c start))
      (ap (aggregate_values (aggregate_functions gs) 0) (members_are rows c)
      ∙ aggregates_are gs 0 (map seen (members es rows c)) (members es rows c)
      (seen_arguments (members es rows c)))

  taken_are : (rows : List Row) (c : List Datum)
      → map (λ (from : GroupedRow). from.into_value) (rows_of_group c (map seen rows))
      ≡ map (taken_at i) (members es rows c)
  taken_are rows c =
      ap (map (λ (from : GroupedRow). from.into_value)) (members_are rows c)
      ∙ map-map (λ (from : GroupedRow). from.into_value) seen (members es rows c)

into_to : (i : IntoTree) (grouped : List GroupedRow) (own : List Row) (row given out : Row)
    → map (λ (from : GroupedRow). from.into_value) grouped ≡ map (taken_at i) own → row ≡ given
    → WithInto (into_var i) grouped row out → WithTaken i own given out
into_to no_into grouped own row given out e f h = h ∙ f
into_to (into x what keep) grouped own row given out e f h = (
  h.0,
  subst (λ (vs : List Datum). IsPermutation vs h.0) e h.1,
  h.2 ∙ ap (λ (r : Row). bind x r (list h.0)) f,
)

into_from : (i : IntoTree) (grouped : List GroupedRow) (own : List Row) (row given out : Row)
    → map (λ (from : GroupedRow). from.into_value) grouped ≡ map (taken_at i) own → row ≡ given
    → WithTaken i own given out → WithInto (into_var i) grouped row out
into_from no_into grouped own row given out e f h = h ∙ sym f
into_from (into x what keep) grouped own row given out e f h = (
  h.0,
  subst (λ (vs : List Datum). IsPermutation vs h.0) (sym e) h.1,
  h.2 ∙ ap (λ (r : Row). bind x r (list h.0)) (sym f),
)

-- what the definition says of a group
abbrev Defined : List Ident → ExprTrees → AggregateTrees → IntoTree → Row → List Row → List Datum → Row
    → Type 0
Defined xs es gs i start rows c out =
    WithInto (into_var i) (rows_of_group c (map (grouped_row_at stage.Whole xs es gs i) rows))
    (group_row xs (aggregate_vars gs) (aggregate_functions gs) start
    (map (grouped_row_at stage.Whole xs es gs i) rows) c) out

module _ (xs : List Ident) (es : ExprTrees) (gs : AggregateTrees) (i : IntoTree) (start : Row)
    (rows out : List Row) where
  pub by_rows : Grouped xs es gs i stage.Whole start rows out → RowsGrouped xs es gs i start rows out
  by_rows h =
      weaker (Defined xs es gs i start rows) (OfGroup xs es gs i start rows)
      (λ c given k. into_to i (rows_of_group c (map (grouped_row_at stage.Whole xs es gs i) rows))
      (members es rows c) _ _ given (taken_are xs es gs i rows c) (given_is xs es gs i start rows c) k)
      (groups_of xs es rows) out
      (subst (λ (cs : List (List Datum)). AllZip (Defined xs es gs i start rows) cs out)
      (groups_are xs es gs i xs rows) h)

  pub as_defined : RowsGrouped xs es gs i start rows out → Grouped xs es gs i stage.Whole start rows out
  as_defined h =
      subst (λ (cs : List (List Datum)). AllZip (Defined xs es gs i start rows) cs out)
      (sym (groups_are xs es gs i xs rows))
      (weaker (OfGroup xs es gs i start rows) (Defined xs es gs i start rows)
      (λ c given k. into_from i (rows_of_group c (map (grouped_row_at stage.Whole xs es gs i) rows))
      (members es rows c) _ _ given (taken_are xs es gs i rows c) (given_is xs es gs i start rows c) k)
      (groups_of xs es rows) out h)
