-- What a COLLECT is set to, as the definitions see it: its stage, the variables and expressions of its
-- criteria, its aggregates and its INTO.
use Rattle.std.specs.Prelude.{◌≡◌, List, map, Bool, true, false, Option, Some, option_map}
use Rattle.aql_func.specs.Aggregates.{Aggregate, aggregate_named}
use Rattle.aql_tree.specs.declared.syntax.Ident.{Ident}
use Rattle.aql_tree.specs.declared.syntax.Ident.TheVariants.{Name, Num}
use Rattle.aql_tree.specs.declared.syntax.Let.{Let}
use Rattle.aql_tree.specs.declared.syntax.AggregateItem.{AggregateItem}
use Rattle.aql_tree.specs.declared.syntax.Into.{Into}
use Rattle.aql_tree.specs.Tree.{ExprTrees, AggregateTrees, IntoTree}
use Rattle.aql_tree.specs.View.{trees, let_part, aggregate_part, into_part, aggregates, into_tree}
use Rattle.aql_meaning.specs.declared.grouping.Stage.{Stage}
use Rattle.aql_meaning.specs.declared.grouping.Stage.TheVariants as stage
use Rattle.aql_meaning.specs.Row.{Row}
use Rattle.aql_meaning.specs.Groups.{GroupedRow}
use Rattle.aql_meaning.specs.Stages.{grouped_row_at}
use Rattle.aql_plan.specs.Plan.{Node, Collect}
use Rattle.aql_aggregate.specs.declared.staged.StagedKind.{StagedKind}
use Rattle.aql_aggregate.specs.Staged.{Staged, staged}

abbrev pub criteria_vars : List Let → List Ident
criteria_vars ls = map (λ l. l.0) (map let_part ls)

abbrev pub criteria_trees : List Let → ExprTrees
criteria_trees ls = trees (map (λ l. l.1) (map let_part ls))

abbrev pub aggregate_trees : List AggregateItem → AggregateTrees
aggregate_trees gs = aggregates (map aggregate_part gs)

abbrev pub into_of : Option Into → IntoTree
into_of i = into_tree (option_map into_part i)

-- the node: a stage of COLLECT
abbrev pub node_at : Stage → List Let → List AggregateItem → Option Into → Node
node_at s ls gs i = Collect (criteria_vars ls) (criteria_trees ls) (aggregate_trees gs) (into_of i) s

-- COLLECT as one step
abbrev pub node_of : List Let → List AggregateItem → Option Into → Node
node_of ls gs i = node_at stage.Whole ls gs i

-- a row of the input as the stage sees it
abbrev pub seen_by : Stage → List Let → List AggregateItem → Option Into → Row → GroupedRow
seen_by s ls gs i row =
    grouped_row_at s (criteria_vars ls) (criteria_trees ls) (aggregate_trees gs) (into_of i) row

-- whether a variable is a number
abbrev pub is_number : Ident → Bool
is_number (Num n) = true
is_number (Name name) = false

-- the aggregate of a name in a stage
abbrev pub in_stage : Stage → Option Aggregate → Option Staged
in_stage s kind = option_map (λ k. (s, k)) kind

-- the aggregates of these names in a stage, in order
abbrev pub AreKinds : Stage → List AggregateItem → List StagedKind → Type 0
AreKinds s gs kinds = map (λ k. Some (staged k)) kinds
    ≡ map (λ g. in_stage s (aggregate_named g.1)) (map aggregate_part gs)
