use Rattle.std.proofs.Common.{◌≡◌, ◌++◌, map, drop}
use Rattle.aql_tree.specs.declared.syntax.Ident.TheVariants.{Num}
use Rattle.aql_plan.specs.View.{maybe_tree}
use Rattle.aql_rewrite.specs.ExprView.{lent}
use Rattle.aql_rules_index.specs.Choice.{items_of}
use Rattle.aql_rules_index.specs.inner.Views.{item_tree}
use Rattle.aql_rules_cluster.specs.KeyItems.{filter_items}
use Rattle.aql_rules_cluster.proofs.key_items.add_filter_items.Given as goal

abbrev pub invariant-loop-part : goal.invariant-loop-part
invariant-loop-part l =
    map item_tree l.to.items ++ items_of (Num l.var) (map lent (drop l.part-index l.part-items))
    ≡ map item_tree l.fn.to.items ++ filter_items (Num l.var) (maybe_tree l.filter)
