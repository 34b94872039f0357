use Rattle.std.proofs.Common.{ap}
use Rattle.aql_block.specs.declared.tally.Tally.{Tally}
use Rattle.aql_exec.specs.laws.Counted.{rose_same, rose_saturated}
use Rattle.aql_local.proofs.world.WorldNeighbours.vertex.Goals as goal

pub returns-clause-own : goal.returns-clause-own
returns-clause-own c =
    let counts = c.in_ok-document.ensures.counts in (
      rose_same _ _ (ap (λ (t : Tally). t.scanned_full) counts),
      rose_saturated _ _ _ c.recall_counts.ensures.index (ap (λ (t : Tally). t.scanned_index) counts),
    )
