-- The laws of joined states, each the contract of a function (the high-level operation COLLECT, AGGREGATE;
-- Cluster: grouping on shards).
use Rattle.std.specs.Prelude.{◌≡◌, ◌↔◌, List, [], ◌∷◌, ◌++◌, map, flat_map, length, Bool, true, not, ◌&&◌, IsPermutation}
use Rattle.std.specs.List.{list_any, AllZip, AllByRecursion}
use Rattle.aql_value.specs.Datum.{Datum, null}
use Rattle.aql_value.specs.WellFormed.{WellFormed}
use Rattle.aql_func.specs.Aggregates.{Aggregate, aggregate, state, join}
use Rattle.aql_tree.specs.declared.syntax.Ident.{Ident}
use Rattle.aql_tree.specs.Tree.{ExprTrees, AggregateTrees, no_into}
use Rattle.aql_meaning.specs.declared.grouping.Stage.TheVariants.{Whole, Partial, Final}
use Rattle.aql_meaning.specs.Row.{Row, same_ident}
use Rattle.aql_meaning.specs.Value.{values}
use Rattle.aql_meaning.specs.Visible.{aggregate_vars}
use Rattle.aql_meaning.specs.Stages.{Grouped}

-- all parts, one after another
abbrev pub all_of : {X : Type 0} → List (List X) → List X
all_of parts = flat_map (λ part. part) parts

-- the states of any parts of a list of members, joined, are the aggregate of the whole list: for every
-- aggregate and every cut into parts, empty ones among them
abbrev pub JoinedStatesAreAggregates : Type 0
JoinedStatesAreAggregates = (kind : Aggregate) (parts : List (List Datum))
    → join kind (map (state kind) parts) ≡ aggregate kind (all_of parts)

-- neither the order of the members counts nor that of the states
abbrev pub OrderIsFree : Type 0
OrderIsFree = (kind : Aggregate) (ts us : List Datum) → IsPermutation ts us
    → (aggregate kind ts ≡ aggregate kind us) × (join kind ts ≡ join kind us)

-- of members that values of the program stand for, the state is one too: its numbers have 64 bits
abbrev pub StatesAreValues : Type 0
StatesAreValues = (kind : Aggregate) (ts : List Datum) → AllByRecursion WellFormed ts
    → WellFormed (state kind ts)

-- no variable twice
abbrev pub are_distinct : List Ident → Bool
are_distinct [] = true
are_distinct (x ∷ xs) = not (list_any (same_ident x) xs) && are_distinct xs

-- what the first stage makes of a part of the rows, from a start row
abbrev pub HandsOn : List Ident → ExprTrees → AggregateTrees → List Row → List Row → Type 0
HandsOn xs es gs rows out = (start : Row) × Grouped xs es gs no_into Partial start rows out

-- a COLLECT without INTO in two stages is that COLLECT: however the rows lie in parts, and in whatever order
-- what these hand on comes to the second stage
abbrev pub TwoStagesAreOne : Type 0
TwoStagesAreOne = (xs : List Ident) (es : ExprTrees) (gs : AggregateTrees)
    → are_distinct (xs ++ aggregate_vars gs) ≡ true
    → ((row : Row) → length (values es null row) ≡ length xs)
    → (parts handed : List (List Row)) → AllZip (HandsOn xs es gs) parts handed
    → (rows : List Row) → IsPermutation (all_of parts) rows
    → (states : List Row) → IsPermutation (all_of handed) states
    → (start : Row) (out : List Row)
    → Grouped xs es gs no_into Final start states out ↔ Grouped xs es gs no_into Whole start rows out
