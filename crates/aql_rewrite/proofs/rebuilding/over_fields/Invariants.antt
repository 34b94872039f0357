use Rattle.std.proofs.Common.{◌≡◌, ◌++◌, map, drop}
use Rattle.aql_tree.specs.View.{tree, member_part}
use Rattle.aql_rewrite.specs.ExprView.{members_over}
use Rattle.aql_rewrite.proofs.rebuilding.over_fields.Given as goal

abbrev pub invariant-loop-old : goal.invariant-loop-old
invariant-loop-old l =
    map member_part l.out ++ members_over (map member_part (drop l.old-index l.all)) (map tree l.queue.items)
    ≡ members_over (map member_part l.all) (map tree l.initial.queue.items)
