use Rattle.std.proofs.Common.{◌*◌, ◌+◌, map, take}
use Rattle.aql_tree.specs.View.{tree}
use Rattle.aql_rewrite.specs.Constant.{AreConstant}
use Rattle.aql_rewrite.specs.Size.{size, size_all}
use Rattle.aql_rewrite.specs.ExprView.{lent}
use Rattle.aql_rewrite.proofs.constants.+constant.Given as goal

abbrev pub decreases-is_closed : goal.decreases-is_closed
decreases-is_closed l = 2 * size (tree l.expr.now)

abbrev pub decreases-are_closed : goal.decreases-are_closed
decreases-are_closed l = 2 * size_all (map lent l.all.now) + 1

abbrev pub invariant-are_closed-loop-expr : goal.invariant-are_closed-loop-expr
invariant-are_closed-loop-expr l = AreConstant (map lent (take l.expr-index l.all))
