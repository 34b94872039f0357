use Rattle.std.proofs.Common.{◌≡◌, ◌++◌, map, drop}
use Rattle.aql_tree.specs.View.{tree, link_part}
use Rattle.aql_rewrite.specs.ExprView.{links_over}
use Rattle.aql_rewrite.proofs.rebuilding.over_links.Given as goal

abbrev pub invariant-loop-old : goal.invariant-loop-old
invariant-loop-old l =
    map link_part l.out ++ links_over (map link_part (drop l.old-index l.all)) (map tree l.queue.items)
    ≡ links_over (map link_part l.all) (map tree l.initial.queue.items)
