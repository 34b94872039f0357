-- Each of the three lists of a Collect has numbers alone.
use Rattle.std.proofs.Common.{sym, subst, List, map, ◌++◌}
use Rattle.std.specs.Prelude.{option_map, option_to_list}
use Rattle.aql_value.specs.laws.Alls.{all_parts}
use Rattle.aql_tree.specs.declared.syntax.AggregateItem.{AggregateItem}
use Rattle.aql_tree.specs.View.{let_part, aggregate_part, aggregates as aggregate_trees, into_part, into_tree}
use Rattle.aql_meaning.specs.Visible.{aggregate_vars, into_var}
use Rattle.aql_plan.specs.declared.plan.Node.{Node}
use Rattle.aql_plan.specs.Needs.{sets}
use Rattle.aql_plan.specs.View.{node_tree}
use Rattle.aql_plan_check.specs.inner.Rows.{AreNumbers, IsNum}
use Rattle.aql_plan_check.proofs.rows.add_node_sets.Goals as goal

pub add_collected-requires-clause-all : goal.add_collected-requires-clause-all
add_collected-requires-clause-all c =
    let xs = map (λ l. l.0) (map let_part c.in-Collect.groups) in
    let ys = aggregate_vars (aggregate_trees (map aggregate_part c.in-Collect.aggregates)) in
    let zs = option_to_list (into_var (into_tree (option_map into_part c.in-Collect.into))) in
    let n = subst (λ (n : Node). AreNumbers (sets (node_tree n))) c.in-Collect.is c.requires.numbers in
    subst (λ (l : List AggregateItem). AreNumbers (aggregate_vars (aggregate_trees (map aggregate_part l))))
    (sym c.as_slice-in-Collect.ensures) (all_parts IsNum ys zs (all_parts IsNum xs (ys ++ zs) n).1).0

pub add_collected-requires-clause-into : goal.add_collected-requires-clause-into
add_collected-requires-clause-into c =
    let xs = map (λ l. l.0) (map let_part c.in-Collect.groups) in
    let ys = aggregate_vars (aggregate_trees (map aggregate_part c.in-Collect.aggregates)) in
    let zs = option_to_list (into_var (into_tree (option_map into_part c.in-Collect.into))) in
    let n = subst (λ (n : Node). AreNumbers (sets (node_tree n))) c.in-Collect.is c.requires.numbers in
    (all_parts IsNum ys zs (all_parts IsNum xs (ys ++ zs) n).1).1
