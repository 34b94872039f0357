use Rattle.aql_tree.specs.View.{tree, let_part}
use Rattle.std.proofs.Common.{map}
use Rattle.aql_rewrite.specs.inner.NodeViews.{lets_over, after_each}
use Rattle.aql_rewrite.proofs.InPlace.{Goes}
use Rattle.aql_rewrite.proofs.exprs.set_groups.Given as goal

abbrev pub invariant-loop-group : goal.invariant-loop-group
invariant-loop-group l = Goes let_part lets_over (λ ls. after_each (map (λ l. l.1) ls)) l.fn.groups (map tree l.fn.queue.items)
    l.group-index l.items (map tree l.queue.items)
