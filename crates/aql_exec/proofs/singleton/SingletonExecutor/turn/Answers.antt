use Rattle.std.proofs.Common.{◌≡◌, [], ◌∷◌, ◌++◌, refl, sym, ap, ◌∙◌}
use Rattle.std.specs.Prelude.{Some, None}
use Rattle.aql_block.specs.Rows.{row_of}
use Rattle.aql_block.specs.Tables.{rows_of}
use Rattle.aql_block.specs.declared.calls.Progress.TheVariants.{Done}
use Rattle.aql_exec.specs.Counting.{nothing}
use Rattle.aql_exec.specs.Leaves.{held_row}
use Rattle.aql_exec.specs.laws.Counted.{rises_none}
use Rattle.aql_exec.specs.laws.Telling.{all_reported, no_other}
use Rattle.aql_exec.proofs.singleton.SingletonExecutor.turn.Goals as goal

pub returns-in_default-clause-leads : goal.returns-in_default-clause-leads
returns-in_default-clause-leads g c =
    let held : c.args.self.now.row ≡ None = cc in (
      nothing,
      rises_none g.W.Surroundings c.args._tally.now c.args._world.now,
      λ v within body s ins ins' l e ends. all_reported (held_row c.args.self.now.row) [] (held_row c.take.new.self)
          (record { skipped = 0; block = c.empty.result; progress = Done }) refl
          (ap rows_of c.empty.ensures ∙ ap held_row (sym held))
          (ap held_row c.take.ensures.after),
    )

pub returns-in_default-clause-other_ports : goal.returns-in_default-clause-other_ports
returns-in_default-clause-other_ports g c = (
  nothing,
  rises_none g.W.Surroundings c.args._tally.now c.args._world.now,
  λ v within p body s ins ins' r n o l e ends h. absurd (no_other c.args._port p c.requires.port n o),
)

pub returns-then-call-gt0-clause-leads : goal.returns-then-call-gt0-clause-leads
returns-then-call-gt0-clause-leads g c =
    let held : c.args.self.now.row ≡ Some c.in-Some.row = cc in
    let row = row_of c.in-Some.row in (
      nothing,
      rises_none g.W.Surroundings c.args._tally.now c.args._world.now,
      λ v within body s ins ins' l e ends. all_reported (held_row c.args.self.now.row) (row ∷ [])
          (held_row c.take.new.self)
          (record { skipped = 1; block = c.empty-then-call-gt0.result; progress = Done }) refl
          (ap (λ b. (row ∷ []) ++ rows_of b) c.empty-then-call-gt0.ensures ∙ ap held_row (sym held))
          (ap held_row c.take.ensures.after),
    )

pub returns-then-call-gt0-clause-other_ports : goal.returns-then-call-gt0-clause-other_ports
returns-then-call-gt0-clause-other_ports g c = (
  nothing,
  rises_none g.W.Surroundings c.args._tally.now c.args._world.now,
  λ v within p body s ins ins' r n o l e ends h. absurd (no_other c.args._port p c.requires.port n o),
)

pub returns-clause-leads : goal.returns-clause-leads
returns-clause-leads g c =
    let held : c.args.self.now.row ≡ Some c.in-Some.row = cc in (
      nothing,
      rises_none g.W.Surroundings c.args._tally.now c.args._world.now,
      λ v within body s ins ins' l e ends. all_reported (held_row c.args.self.now.row) [] (held_row c.take.new.self)
          (record { skipped = 0; block = c.in_ok-from_row.field-0; progress = Done }) refl
          (c.in_ok-from_row.ensures.rows ∙ ap held_row (sym held))
          (ap held_row c.take.ensures.after),
    )

pub returns-clause-other_ports : goal.returns-clause-other_ports
returns-clause-other_ports g c = (
  nothing,
  rises_none g.W.Surroundings c.args._tally.now c.args._world.now,
  λ v within p body s ins ins' r n o l e ends h. absurd (no_other c.args._port p c.requires.port n o),
)
