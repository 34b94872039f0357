use Rattle.std.proofs.Common.{ap}
use Rattle.aql_block.specs.declared.tally.Tally.{Tally}
use Rattle.aql_exec.specs.laws.Counted.{rose_same, rose_saturated}
use Rattle.aql_local.proofs.world.WorldNeighbours.edges.Goals as goal

pub returns-clause-own : goal.returns-clause-own
returns-clause-own c =
    let counts = c.in_ok-steps.ensures.counts in (
      rose_same _ _ (ap (λ (t : Tally). t.scanned_full) counts),
      rose_saturated _ _ _ c.recall_counts.ensures.index (ap (λ (t : Tally). t.scanned_index) counts),
    )
