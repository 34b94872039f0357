-- Nodes with lists over other expressions.
use Rattle.std.proofs.Common.{◌∙◌, map, ap, option_map, refl}
use Rattle.aql_tree.specs.declared.syntax.Ident.TheVariants.{Num}
use Rattle.aql_tree.specs.View.{tree, key_part, let_part, aggregate_part, into_part}
use Rattle.aql_meaning.specs.View.{last_tree}
use Rattle.aql_plan.specs.View.{node_tree}
use Rattle.aql_rewrite.specs.ExprView.{option_over}
use Rattle.aql_rewrite.specs.NodeExprs.{over_last, after_last}
use Rattle.aql_rewrite.specs.inner.NodeViews.{aggregates_over, after_each_aggregate, into_over}
use Rattle.aql_rewrite.proofs.NodeForms.{sort_form, gather_form, distribute_form, index_form, collect_form}
use Rattle.aql_rewrite.proofs.exprs.set_exprs.Goals as goal

pub returns-in-Sort : goal.returns-in-Sort
returns-in-Sort c =
    sort_form (node_tree c.args.node.now) (map key_part c.in-Sort.keys) (map key_part c.set_keys.new.keys)
    c.in-Sort.limit (map tree c.args.queue.now.items) (ap node_tree c.in-Sort.is) c.set_keys.ensures

pub returns-in-Gather : goal.returns-in-Gather
returns-in-Gather c =
    gather_form (node_tree c.args.node.now) (map key_part c.in-Gather.order)
    (map key_part c.set_keys-in-Gather.new.keys) (map tree c.args.queue.now.items)
    (ap node_tree c.in-Gather.is) c.set_keys-in-Gather.ensures

pub returns-in-Distribute : goal.returns-in-Distribute
returns-in-Distribute c =
    distribute_form (node_tree c.args.node.now) c.in-Distribute.coll.0 (map tree c.in-Distribute.exprs)
    (map tree c.set_list-in-Distribute.new.list) (map tree c.args.queue.now.items)
    (ap node_tree c.in-Distribute.is) c.set_list-in-Distribute.ensures.exprs

pub returns-in-Index : goal.returns-in-Index
returns-in-Index c =
    index_form (node_tree c.args.node.now) (Num c.in-Index.var) c.in-Index.coll.0
    (option_map tree c.in-Index.filter) (option_map tree c.set_maybe-in-Index.new.expr) c.in-Index.attrs
    c.in-Index.attrs c.in-Index.shard c.in-Index.index (map tree c.in-Index.equal)
    (map tree c.set_list.new.list) (last_tree c.in-Index.last) (last_tree c.set_last.new.last)
    c.in-Index.ordered (map tree c.args.queue.now.items) (ap node_tree c.in-Index.is)
    c.set_list.ensures.exprs
    (c.set_last.ensures.expr ∙ ap (over_last (last_tree c.in-Index.last)) c.set_list.ensures.left)
    (c.set_maybe-in-Index.ensures.expr ∙ ap (option_over (option_map tree c.in-Index.filter))
    (c.set_last.ensures.left ∙ ap (after_last (last_tree c.in-Index.last)) c.set_list.ensures.left)) refl

pub returns-in-Collect : goal.returns-in-Collect
returns-in-Collect c =
    collect_form (node_tree c.args.node.now) (map let_part c.in-Collect.groups)
    (map let_part c.set_groups.new.groups) (map aggregate_part c.in-Collect.aggregates)
    (map aggregate_part c.set_aggregates.new.aggregates) (option_map into_part c.in-Collect.into)
    (option_map into_part c.set_into.new.into) c.in-Collect.stage (map tree c.args.queue.now.items)
    (ap node_tree c.in-Collect.is) c.set_groups.ensures.exprs
    (c.set_aggregates.ensures.exprs
    ∙ ap (aggregates_over (map aggregate_part c.in-Collect.aggregates)) c.set_groups.ensures.left)
    (c.set_into.ensures ∙ ap (into_over (option_map into_part c.in-Collect.into))
    (c.set_aggregates.ensures.left
    ∙ ap (after_each_aggregate (map aggregate_part c.in-Collect.aggregates)) c.set_groups.ensures.left))
