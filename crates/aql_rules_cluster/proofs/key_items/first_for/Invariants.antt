use Rattle.std.proofs.Common.{map, drop}
use Rattle.aql_tree.specs.declared.syntax.Ident.TheVariants.{Num}
use Rattle.aql_rules_index.specs.inner.Views.{item_tree}
use Rattle.aql_rules_cluster.specs.KeyItems.{Wants}
use Rattle.aql_rules_cluster.proofs.KeysFound.{SameFirst}
use Rattle.aql_rules_cluster.proofs.key_items.first_for.Given as goal

abbrev pub invariant-loop-item : goal.invariant-loop-item
invariant-loop-item l = SameFirst (Wants l.wanted (Num l.var)) l.key
    (map item_tree (drop l.item-index l.items)) (map item_tree l.items)
