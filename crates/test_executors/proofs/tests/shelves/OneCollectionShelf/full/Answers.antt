use Rattle.std.proofs.Common.{rules, refl, ap}
use Rattle.aql_block.specs.declared.tally.Tally.{Tally}
use Rattle.aql_exec.specs.laws.Counted.{rose_same, rose_saturated}
use Rattle.test_executors.proofs.tests.shelves.OneCollectionShelf.full.Goals as goal

pub returns : goal.returns
returns c =
    let counts = c.add_full-2.ensures in (
      (
        refl,
        (λ _. tt),
        (
          record { stock = refl; deliveries = refl; batch = refl; links = refl; flight = λ l. refl },
          (
            rose_saturated _ _ _ c.recall_count.ensures (ap (λ (t : Tally). t.scanned_full) counts),
            rose_same _ _ (ap (λ (t : Tally). t.scanned_index) counts),
          ),
        ),
      ),
      record { document = search rules; tally = search rules; counted = tt },
    )
