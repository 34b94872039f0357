-- There are as many numbers as were asked for.
use Rattle.std.proofs.Common.{length, ap, arith}
use Rattle.aql_index.specs.laws.Numbers.{length-numbers_below}
use Rattle.aql_local.proofs.Returned.{if_map}
use Rattle.aql_local.proofs.reach.shards_reached.Goals as goal

pub returns-in-None-clause-few : goal.returns-in-None-clause-few
returns-in-None-clause-few c = if_map c.numbers_to.result c.numbers_to.ensures
    (λ shards e. omega (arith, ap length e, length-numbers_below c.shards.result, c.shards.type_inv))

pub returns-in-Distribute-clause-few : goal.returns-in-Distribute-clause-few
returns-in-Distribute-clause-few c = if_map c.numbers_to-in-Distribute.result c.numbers_to-in-Distribute.ensures
    (λ shards e. omega (
      arith,
      ap length e,
      length-numbers_below c.shards-in-Distribute.result,
      c.shards-in-Distribute.type_inv,
    ))
