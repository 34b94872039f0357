use Rattle.std.proofs.Common.{refl, ap}
use Rattle.aql_shard.specs.Holding.{Holding}
use Rattle.aql_shard.specs.Datasets.{stock}
use Rattle.aql_exec.specs.laws.Counted.{rose_same, rose_saturated}
use Rattle.aql_local.proofs.world.WorldShelf.indexed.Goals as goal

pub returns : goal.returns
returns c =
    let after = c.indexed.follows.holds-at-none in (
      (
        refl,
        (λ _. tt),
        (
          record { stock = ap (λ (s : Holding). stock s) after; deliveries = refl; batch = refl; links = refl; flight = λ l. refl },
          (
            rose_same _ _ (ap (λ (s : Holding). s.counts.scanned_full) after),
            rose_saturated _ _ _ c.recall_counts.ensures.index (ap (λ (s : Holding). s.counts.scanned_index) after),
          ),
        ),
      ),
      record { document = c.indexed.ensures.document; tally = c.indexed.ensures.tally; counted = tt },
    )
