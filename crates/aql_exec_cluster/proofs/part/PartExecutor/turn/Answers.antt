use Rattle.std.proofs.Common.{inr, ◌∙◌}
use Rattle.aql_exec.specs.Counting.{nothing}
use Rattle.aql_exec.specs.laws.Counted.{rises_none}
use Rattle.aql_exec.specs.laws.Telling.{no_other}
use Rattle.aql_exec_cluster.proofs.Parts.{handed, fewer}
use Rattle.aql_exec_cluster.proofs.part.PartExecutor.turn.Goals as goal

pub returns-clause-leads : goal.returns-clause-leads
returns-clause-leads g c =
    let rows = c.in_ok-step.ensures.rows in (
      nothing,
      rises_none g.W.Surroundings c.args._tally.now c.args._world.now,
      λ v within body s ins ins' l e ends. handed _ _ rows.0 c.in_ok-step.step rows.1 rows.2,
    )

pub returns-clause-other_ports : goal.returns-clause-other_ports
returns-clause-other_ports g c = (
  nothing,
  rises_none g.W.Surroundings c.args._tally.now c.args._world.now,
  λ v within p body s ins ins' r n o l e ends h. absurd (no_other c.args._port p c.requires.port n o),
)

pub returns-clause-done : goal.returns-clause-done
returns-clause-done g c d =
    inr (λ v at within body ins ends r h. (h.0 ∙ c.in_ok-step.ensures.done d, λ k x. h.1 k))

pub returns-clause-budget : goal.returns-clause-budget
returns-clause-budget g c f =
    let rows = c.in_ok-step.ensures.rows in fewer _ _ rows.0 c.in_ok-step.step rows.1 rows.2
