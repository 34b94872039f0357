use Rattle.std.proofs.Common.{◌≡◌, ◌++◌, map, drop}
use Rattle.aql_tree.specs.View.{trees, key_part}
use Rattle.aql_rewrite.specs.Children.{list_children}
use Rattle.aql_rewrite.specs.ExprView.{lent}
use Rattle.aql_rewrite.proofs.exprs.add_keys.Given as goal

abbrev pub invariant-loop-key : goal.invariant-loop-key
invariant-loop-key l = map lent l.to.items
    ++ list_children (trees (map (λ k. k.0) (map key_part (drop l.key-index l.keys))))
    ≡ map lent l.initial.to.items ++ list_children (trees (map (λ k. k.0) (map key_part l.keys)))
