use Rattle.std.proofs.Common.{◌≡◌, ◌++◌, map, drop}
use Rattle.aql_tree.specs.declared.syntax.Ident.TheVariants.{Num}
use Rattle.aql_rewrite.specs.ExprView.{lent}
use Rattle.aql_rules_index.specs.Choice.{items_of}
use Rattle.aql_rules_index.specs.inner.Views.{item_tree}
use Rattle.aql_rules_index.proofs.items.items_of.Given as goal

abbrev pub invariant-loop-part : goal.invariant-loop-part
invariant-loop-part l =
    map item_tree l.items.items ++ items_of (Num l.var) (map lent (drop l.part-index l.parts))
    ≡ items_of (Num l.var) (map lent l.parts)
