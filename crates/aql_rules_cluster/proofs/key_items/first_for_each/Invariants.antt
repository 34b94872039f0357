use Rattle.std.proofs.Common.{map, drop}
use Rattle.aql_tree.specs.View.{tree}
use Rattle.aql_tree.specs.declared.syntax.Ident.TheVariants.{Num}
use Rattle.aql_rules_index.specs.inner.Views.{item_tree}
use Rattle.aql_rules_cluster.specs.KeyItems.{Wants}
use Rattle.aql_rules_cluster.proofs.KeysFound.{SoFar}
use Rattle.aql_rules_cluster.proofs.key_items.first_for_each.Given as goal

abbrev pub invariant-loop-key : goal.invariant-loop-key
invariant-loop-key l = SoFar (Wants l.wanted (Num l.var)) (map item_tree l.items) l.keys
    (map tree l.exprs) (drop l.key-index l.keys)
