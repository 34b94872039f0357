use Rattle.std.proofs.Common.{◌≡◌, ◌++◌, map, take}
use Rattle.aql_tree.specs.View.{tree}
use Rattle.aql_rewrite.specs.ExprView.{lent}
use Rattle.aql_rewrite.proofs.rebuilding.add_copies.Given as goal

abbrev pub invariant-loop-expr : goal.invariant-loop-expr
invariant-loop-expr l =
    map tree l.to.items ≡ map tree l.initial.to.items ++ map lent (take l.expr-index l.all)
