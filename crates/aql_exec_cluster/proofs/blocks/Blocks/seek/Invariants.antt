use Rattle.std.proofs.Common.{◌≡◌, ◌-◌, length}
use Rattle.aql_exec_cluster.specs.Shared.{rows_at}
use Rattle.aql_exec_cluster.proofs.blocks.Blocks.seek.Given as goal

abbrev pub invariant-loop-block : goal.invariant-loop-block
invariant-loop-block l = rows_at l.self l.place ≡ rows_at l.fn.self l.fn.place

abbrev pub decreases-loop-block : goal.decreases-loop-block
decreases-loop-block l = length l.self - l.place.block
