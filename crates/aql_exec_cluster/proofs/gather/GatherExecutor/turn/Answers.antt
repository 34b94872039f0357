use Rattle.std.proofs.Common.{◌≡◌, ◌∙◌, inr, [], length, refl, sym, ap, arith}
use Rattle.std.proofs.lemmas.List.{nil_from_length, length-map}
use mathlib.Core.Bool.{false≢true}
use Rattle.aql_block.specs.Tables.{rows_of}
use Rattle.aql_exec.specs.Steps.{IsCall}
use Rattle.aql_exec.specs.Counting.{nothing}
use Rattle.aql_exec.specs.laws.Counted.{rises_none, prefixed_none}
use Rattle.aql_exec.specs.laws.Telling.{led_none, no_other}
use Rattle.aql_exec_cluster.specs.Standing.{standing, after_answer}
use Rattle.aql_exec_cluster.specs.laws.Places.{is_below_true}
use Rattle.aql_exec_cluster.proofs.Stands.{woken, more_not_done, more_not_waiting, done_else}
use Rattle.aql_exec_cluster.proofs.Gathered.{still, gave, none_gathered}
use Rattle.aql_exec_cluster.proofs.gather.GatherExecutor.turn.Goals as goal

pub returns-then-len-gt0-clause-inputs : goal.returns-then-len-gt0-clause-inputs
returns-then-len-gt0-clause-inputs g c =
    woken c.args.self.now.inputs.progress.items c.wake.new.self.progress.items c.wake.ensures

pub returns-then-len-gt0-clause-leads : goal.returns-then-len-gt0-clause-leads
returns-then-len-gt0-clause-leads g c =
    let me = c.args.self.now in
    let inputs = me.inputs.progress.items in
    let given = c.in_ok-step.ensures.rows in (
      nothing,
      rises_none g.W.Surroundings c.args._tally.now c.args._world.now,
      λ v within body s ins ins' lens eqs ends.
          gave (length inputs) (length c.wake.new.self.progress.items) (rows_of me.held)
          (rows_of c.give.new.held) given.0 s ins' ins c.in_ok-step.step lens eqs
          (ap length c.wake.ensures ∙ length-map inputs after_answer) given.1 given.2,
    )

pub returns-then-len-gt0-clause-other_ports : goal.returns-then-len-gt0-clause-other_ports
returns-then-len-gt0-clause-other_ports g c = (
  nothing,
  rises_none g.W.Surroundings c.args._tally.now c.args._world.now,
  λ v within p body s ins ins' r n b lens eqs ends h. absurd (no_other c.args._port p c.requires.port n b),
)

pub returns-in-Some-clause-asked : goal.returns-in-Some-clause-asked
returns-in-Some-clause-asked g c =
    let me = c.args.self.now in
    let inputs = me.inputs.progress.items in
    let call = c.requires.call in
    let some = call.some in
    let batch = call.batch in
    let at = c.in-Some.ensures in
    let none = c.if-len-gt0.false in
    let len = c.len.ensures in
    let held : rows_of me.held ≡ [] = nil_from_length (rows_of me.held) (omega (arith, none, len)) in
    let is_call : IsCall (record { offset = 0; soft = c.args.call.soft; hard = 18446744073709551615 }) =
    record { some = some; soft = omega (arith, batch); batch = batch } in
    let going = more_not_done (standing inputs c.in-Some.input) at.1 in (
      at.0,
      is_below_true (length inputs) c.in-Some.input at.0,
      is_call,
      (((refl, batch, refl), at.0, at.1), held),
      (is_call, refl, refl, going),
      (λ e. absurd (false≢true (sym going ∙ e))),
      (λ w. more_not_waiting (standing inputs c.in-Some.input) at.1 w),
      omega arith,
    )

pub returns-in-Some-clause-leads : goal.returns-in-Some-clause-leads
returns-in-Some-clause-leads g c = (
  nothing,
  rises_none g.W.Surroundings c.args._tally.now c.args._world.now,
  λ v within p body ins r ends h. (r, prefixed_none r, h),
)

pub returns-in-Some-first_waiting-clause-inputs : goal.returns-in-Some-first_waiting-clause-inputs
returns-in-Some-first_waiting-clause-inputs g c =
    woken c.args.self.now.inputs.progress.items c.wake-in-Some-first_waiting.new.self.progress.items
    c.wake-in-Some-first_waiting.ensures

pub returns-in-Some-first_waiting-clause-leads : goal.returns-in-Some-first_waiting-clause-leads
returns-in-Some-first_waiting-clause-leads g c =
    let me = c.args.self.now in
    let inputs = me.inputs.progress.items in (
      nothing,
      rises_none g.W.Surroundings c.args._tally.now c.args._world.now,
      λ v within body s ins ins' lens eqs ends.
          led_none c.nothing.result c.nothing.ensures.skipped c.nothing.ensures.rows (λ r h.
          still (length inputs) (length c.wake-in-Some-first_waiting.new.self.progress.items)
          (rows_of me.held)
          s ins' ins r lens eqs (ap length c.wake-in-Some-first_waiting.ensures ∙ length-map inputs
          after_answer)
          h),
    )

pub returns-in-Some-first_waiting-clause-other_ports :
    goal.returns-in-Some-first_waiting-clause-other_ports
returns-in-Some-first_waiting-clause-other_ports g c = (
  nothing,
  rises_none g.W.Surroundings c.args._tally.now c.args._world.now,
  λ v within p body s ins ins' r n b lens eqs ends h. absurd (no_other c.args._port p c.requires.port n b),
)

pub returns-clause-leads : goal.returns-clause-leads
returns-clause-leads g c =
    let me = c.args.self.now in
    let inputs = me.inputs.progress.items in (
      nothing,
      rises_none g.W.Surroundings c.args._tally.now c.args._world.now,
      λ v within body s ins ins' lens eqs ends.
          led_none c.nothing-2.result c.nothing-2.ensures.skipped c.nothing-2.ensures.rows (λ r h.
          still (length inputs) (length inputs) (rows_of me.held) s ins' ins r lens eqs refl h),
    )

pub returns-clause-other_ports : goal.returns-clause-other_ports
returns-clause-other_ports g c = (
  nothing,
  rises_none g.W.Surroundings c.args._tally.now c.args._world.now,
  λ v within p body s ins ins' r n b lens eqs ends h. absurd (no_other c.args._port p c.requires.port n b),
)

pub returns-clause-done : goal.returns-clause-done
returns-clause-done g c =
    let me = c.args.self.now in
    let inputs = me.inputs.progress.items in
    let none = c.if-len-gt0.false in
    let len = c.len.ensures in
    let held : rows_of me.held ≡ [] = nil_from_length (rows_of me.held) (omega (arith, none, len)) in
    λ _. inr (λ v at within body ins ends r h.
    none_gathered (length inputs) (rows_of me.held) ins r held
    (λ k l. ends k (done_else (standing inputs k) (λ e. c.in_default.ensures k e l)
    (c.in_default-first_waiting.ensures k))) h)
