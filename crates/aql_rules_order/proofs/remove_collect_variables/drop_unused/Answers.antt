use Rattle.std.proofs.Common.{map, option_map, ap}
use Rattle.aql_tree.specs.View.{aggregate_part, into_part, into_tree}
use Rattle.aql_plan.specs.View.{node_tree}
use Rattle.aql_rules_order.specs.laws.VariablesDropped.{collect_made}
use Rattle.aql_rules_order.proofs.remove_collect_variables.drop_unused.Goals as goal

pub returns-in_ok-aggregates-in-Collect : goal.returns-in_ok-aggregates-in-Collect
returns-in_ok-aggregates-in-Collect c = collect_made _ _ _ (map aggregate_part c.in-Collect.aggregates) _
    (into_tree (option_map into_part c.in-Collect.into)) _ _ _ (ap node_tree c.in-Collect.is)
    (rw c.as_slice.ensures at c.in_ok-aggregates-in-Collect.ensures) c.drop_into.ensures
