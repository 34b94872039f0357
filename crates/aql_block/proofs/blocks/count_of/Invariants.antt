use Rattle.std.proofs.Common.{◌≡◌, ◌+◌, ◌≤◌, length, drop}
use Rattle.aql_block.specs.Tables.{marked}
use Rattle.aql_block.proofs.blocks.count_of.Given as goal

abbrev pub invariant-loop-mark : goal.invariant-loop-mark
invariant-loop-mark l =
    (l.count ≤ l.mark-index)
    × (l.count + length (marked (drop l.mark-index l.marks) (drop l.mark-index l.marks))
    ≡ length (marked l.marks l.marks))
