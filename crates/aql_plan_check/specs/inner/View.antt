-- The shapes that those of the program stand for.
use Rattle.std.specs.Prelude.{List, map}
use Rattle.aql_tree.specs.declared.syntax.Ident.TheVariants.{Num}
use Rattle.aql_tree.specs.declared.syntax.Let.{Let}
use Rattle.aql_tree.specs.declared.syntax.AggregateItem.{AggregateItem}
use Rattle.aql_tree.specs.Tree.{IntoTree}
use Rattle.aql_meaning.specs.declared.grouping.Stage.{Stage}
use Rattle.aql_plan.specs.Plan.{Node, Collect}
use Rattle.aql_tree.specs.View.{trees, let_part, aggregate_part, aggregates as aggregate_trees}
use Rattle.aql_plan.specs.Fits.{attribute_keys}
use Rattle.aql_plan.specs.View.{directions, key_trees}
use Rattle.aql_plan.specs.Shapes as spec
use Rattle.aql_plan_check.specs.declared.shapes.Order.{Order}
use Rattle.aql_plan_check.specs.declared.shapes.Order.TheVariants as order
use Rattle.aql_plan_check.specs.declared.shapes.States.{States}
use Rattle.aql_plan_check.specs.declared.shapes.Shape.{Shape}
use Rattle.aql_plan_check.specs.declared.shapes.Shape.TheVariants as shape

abbrev pub order_of : Order → spec.Order
order_of order.Unordered = spec.unordered
order_of (order.Keys keys) = spec.by_keys (directions keys.now) (key_trees keys.now)
order_of (order.Attributes var names descending) =
    spec.by_keys (map (λ name. descending) names.now) (attribute_keys (Num var) names.now)

abbrev pub states_of : States → spec.Shape
states_of s = spec.States (map (λ l. l.0) (map let_part s.groups.now))
    (trees (map (λ l. l.1) (map let_part s.groups.now)))
    (aggregate_trees (map aggregate_part s.aggregates.now))

abbrev pub all_states_of : States → spec.Shape
all_states_of s = spec.AllStates (map (λ l. l.0) (map let_part s.groups.now))
    (trees (map (λ l. l.1) (map let_part s.groups.now)))
    (aggregate_trees (map aggregate_part s.aggregates.now))

abbrev pub shape_of : Shape → spec.Shape
shape_of (shape.Rows one) = spec.Rows one
shape_of (shape.Foot coll one) = spec.Foot coll.0 one
shape_of (shape.Fragment o) = spec.Fragment (order_of o)
shape_of (shape.States s) = states_of s
shape_of (shape.AllStates s) = all_states_of s
shape_of (shape.SentFoot coll one) = spec.Sent (spec.Foot coll.0 one)
shape_of (shape.SentFragment o) = spec.Sent (spec.Fragment (order_of o))
shape_of (shape.SentStates s) = spec.Sent (states_of s)
shape_of shape.Result = spec.Result

-- the node that collects so
abbrev pub collect_of : List Let → List AggregateItem → IntoTree → Stage → Node
collect_of groups all i stage = Collect (map (λ l. l.0) (map let_part groups))
    (trees (map (λ l. l.1) (map let_part groups))) (aggregate_trees (map aggregate_part all)) i stage
