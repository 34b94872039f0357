use Rattle.std.proofs.Common.{refl, ap}
use Rattle.aql_block.specs.Tables.{rows_of}
use Rattle.aql_block.specs.declared.calls.Progress.TheVariants.{Done}
use Rattle.aql_exec.specs.Counting.{nothing}
use Rattle.aql_exec.specs.laws.Counted.{rises_none}
use Rattle.aql_exec.specs.laws.Telling.{led_none, no_other}
use Rattle.aql_exec.proofs.no_results.NoResultsExecutor.turn.Goals as goal

pub returns-clause-leads : goal.returns-clause-leads
returns-clause-leads g c = (
  nothing,
  rises_none g.W.Surroundings c.args._tally.now c.args._world.now,
  λ v within body s ins ins' l e ends. led_none
      (record { skipped = 0; block = c.empty.result; progress = Done }) refl (ap rows_of c.empty.ensures)
      (λ r h. h),
)

pub returns-clause-other_ports : goal.returns-clause-other_ports
returns-clause-other_ports g c = (
  nothing,
  rises_none g.W.Surroundings c.args._tally.now c.args._world.now,
  λ v within p body s ins ins' r n o l e ends h. absurd (no_other c.args._port p c.requires.port n o),
)
