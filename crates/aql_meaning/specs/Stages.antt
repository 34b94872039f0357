-- COLLECT as one step or as two (the high-level operation COLLECT; Cluster: grouping on shards). In the first
-- of two each part of the rows is grouped by itself, and its rows have the criteria with a state of each
-- aggregate; the second joins the states of equal criteria.
use Rattle.std.specs.Prelude.{ℕ, List, [], ◌∷◌, map, Option, unwrap_or, option_map}
use Rattle.aql_value.specs.Datum.{Datum, null}
use Rattle.aql_func.specs.Aggregates.{state, join, aggregate_named}
use Rattle.aql_tree.specs.declared.syntax.Ident.{Ident}
use Rattle.aql_tree.specs.Tree.{ExprTrees, AggregateTrees, no_aggregates, aggregate_then, IntoTree, no_into, into}
use Rattle.aql_meaning.specs.declared.grouping.Stage.{Stage}
use Rattle.aql_meaning.specs.declared.grouping.Stage.TheVariants as stage
use Rattle.aql_meaning.specs.Row.{Row, value_at}
use Rattle.aql_meaning.specs.Value.{values, value_or}
use Rattle.aql_meaning.specs.Groups.{GroupedRow, Collects}
use Rattle.aql_meaning.specs.Visible.{aggregate_vars, functions_by, aggregate_functions, into_var}

-- the state of the aggregate of this name, and the aggregate of such states; null for a name that is none
abbrev pub state_of : List ℕ → List Datum → Datum
state_of name values = unwrap_or (option_map (λ kind. state kind values) (aggregate_named name)) null

abbrev pub joined_of : List ℕ → List Datum → Datum
joined_of name states = unwrap_or (option_map (λ kind. join kind states) (aggregate_named name)) null

-- what each aggregate makes of its arguments in a stage
abbrev pub stage_functions : Stage → AggregateTrees → List (List Datum → Datum)
stage_functions stage.Whole aggregates = aggregate_functions aggregates
stage_functions stage.Partial aggregates = functions_by state_of aggregates
stage_functions stage.Final aggregates = functions_by joined_of aggregates

-- the arguments of the aggregates at a row, null for one that has none
abbrev pub arguments_at : AggregateTrees → Row → List Datum
arguments_at no_aggregates row = []
arguments_at (aggregate_then x name e rest) row = value_or e null row null ∷ arguments_at rest row

-- what INTO takes of a row by its expression
abbrev pub taken_at : IntoTree → Row → Datum
taken_at no_into row = null
taken_at (into x what keep) row = value_or what null row null

-- a row as a stage sees it: the final one finds the criteria and the states under their variables
abbrev pub grouped_row_at : Stage → List Ident → ExprTrees → AggregateTrees → IntoTree → Row → GroupedRow
grouped_row_at stage.Final xs es aggregates i row = record {
  criteria = map (value_at row) xs;
  arguments = map (value_at row) (aggregate_vars aggregates);
  into_value = null;
}
grouped_row_at early xs es aggregates i row = record {
  criteria = values es null row;
  arguments = arguments_at aggregates row;
  into_value = taken_at i row;
}

-- what a COLLECT of a stage makes of rows, from the start row
abbrev pub Grouped : List Ident → ExprTrees → AggregateTrees → IntoTree → Stage
    → Row → List Row → List Row → Type 0
Grouped xs es aggregates i s start rows out =
    Collects xs (aggregate_vars aggregates) (stage_functions s aggregates) (into_var i) start
    (map (grouped_row_at s xs es aggregates i) rows) out
