use Rattle.aql_tree.specs.View.{tree}
use Rattle.std.proofs.Common.{map}
use Rattle.aql_rewrite.specs.ExprView.{each_over}
use Rattle.aql_rewrite.specs.inner.NodeViews.{after_each}
use Rattle.aql_rewrite.proofs.InPlace.{Goes}
use Rattle.aql_rewrite.proofs.exprs.set_list.Given as goal

abbrev pub invariant-loop-expr : goal.invariant-loop-expr
invariant-loop-expr l = Goes tree each_over after_each l.fn.list (map tree l.fn.queue.items) l.expr-index
    l.items (map tree l.queue.items)
