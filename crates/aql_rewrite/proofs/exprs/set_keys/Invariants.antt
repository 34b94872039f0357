use Rattle.aql_tree.specs.View.{tree, key_part}
use Rattle.std.proofs.Common.{map}
use Rattle.aql_rewrite.specs.inner.NodeViews.{keys_over, after_each}
use Rattle.aql_rewrite.proofs.InPlace.{Goes}
use Rattle.aql_rewrite.proofs.exprs.set_keys.Given as goal

abbrev pub invariant-loop-key : goal.invariant-loop-key
invariant-loop-key l = Goes key_part keys_over (λ ks. after_each (map (λ k. k.0) ks)) l.fn.keys (map tree l.fn.queue.items)
    l.key-index l.items (map tree l.queue.items)
