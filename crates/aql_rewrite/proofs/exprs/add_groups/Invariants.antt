use Rattle.std.proofs.Common.{◌≡◌, ◌++◌, map, drop}
use Rattle.aql_tree.specs.View.{trees, let_part}
use Rattle.aql_rewrite.specs.Children.{list_children}
use Rattle.aql_rewrite.specs.ExprView.{lent}
use Rattle.aql_rewrite.proofs.exprs.add_groups.Given as goal

abbrev pub invariant-loop-group : goal.invariant-loop-group
invariant-loop-group l = map lent l.to.items
    ++ list_children (trees (map (λ p. p.1) (map let_part (drop l.group-index l.groups))))
    ≡ map lent l.initial.to.items ++ list_children (trees (map (λ p. p.1) (map let_part l.groups)))
