use Rattle.std.proofs.Common.{◌≡◌, ◌∙◌, ◌<◌, ◌++◌, inr, List, length, refl, sym, ap, subst, arith}
use Rattle.std.proofs.lemmas.List.{nil_from_length, length-map}
use mathlib.Core.Bool.{false≢true}
use Rattle.aql_plan.specs.View.{directions, key_trees}
use Rattle.aql_exec.specs.Steps.{IsCall, given as rows_given, reported}
use Rattle.aql_exec.specs.Counting.{nothing}
use Rattle.aql_exec.specs.laws.Counted.{rises_none, prefixed_none}
use Rattle.aql_exec.specs.laws.Telling.{led_none, no_other}
use Rattle.aql_tree.specs.declared.syntax.Key.{Key}
use Rattle.aql_meaning.specs.AtRows.{row_before}
use Rattle.aql_exec_cluster.specs.Standing.{standing, after_answer}
use Rattle.aql_exec_cluster.specs.Queues.{Merges}
use Rattle.aql_exec_cluster.specs.laws.Places.{is_below_true}
use Rattle.aql_exec_cluster.proofs.Stands.{woken, more_not_done, more_not_waiting}
use Rattle.aql_exec_cluster.proofs.Sorted.{still_sorted, gave_sorted, quiet_step, none_sorted, none_left, all_gone, all_done}
use Rattle.aql_exec_cluster.proofs.sorted_gather.SortedGatherExecutor.turn.Goals as goal

pub returns-in-Some-clause-asked : goal.returns-in-Some-clause-asked
returns-in-Some-clause-asked g c =
    let me = c.args.self.now in
    let inputs = me.inputs.progress.items in
    let call = c.requires.call in
    let some = call.some in
    let batch = call.batch in
    let at = c.in-Some.ensures in
    let l : c.in-Some.input < length inputs =
    subst (λ z. c.in-Some.input < z) (sym c.requires.valid.count) at.0 in
    let is_call : IsCall (record { offset = 0; soft = c.args.call.soft; hard = 18446744073709551615 }) =
    record { some = some; soft = omega (arith, batch); batch = batch } in
    let going = more_not_done (standing inputs c.in-Some.input) at.1 in (
      l,
      is_below_true (length inputs) c.in-Some.input l,
      is_call,
      (((refl, batch, refl), l, at.1), at.2),
      (is_call, refl, refl, going),
      (λ e. absurd (false≢true (sym going ∙ e))),
      (λ w. more_not_waiting (standing inputs c.in-Some.input) at.1 w),
      omega arith,
    )

pub returns-in-Some-clause-leads : goal.returns-in-Some-clause-leads
returns-in-Some-clause-leads g c = (
  nothing,
  rises_none g.W.Surroundings c.args._tally.now c.args._world.now,
  λ v within p body ins r ends h. (r, prefixed_none r, h),
)

pub returns-then-not-are_ready-clause-inputs : goal.returns-then-not-are_ready-clause-inputs
returns-then-not-are_ready-clause-inputs g c =
    woken c.args.self.now.inputs.progress.items c.wake.new.self.progress.items c.wake.ensures

pub returns-then-not-are_ready-clause-leads : goal.returns-then-not-are_ready-clause-leads
returns-then-not-are_ready-clause-leads g c =
    let me = c.args.self.now in
    let inputs = me.inputs.progress.items in (
      nothing,
      rises_none g.W.Surroundings c.args._tally.now c.args._world.now,
      λ v within body s ins ins' lens eqs ends.
          led_none c.nothing.result c.nothing.ensures.skipped c.nothing.ensures.rows (λ r h.
          still_sorted (directions me.keys) (key_trees me.keys) (length inputs)
          (length c.wake.new.self.progress.items) me.queues.list.items s ins' ins r lens eqs
          (ap length c.wake.ensures ∙ length-map inputs after_answer) h),
    )

pub returns-then-not-are_ready-clause-other_ports : goal.returns-then-not-are_ready-clause-other_ports
returns-then-not-are_ready-clause-other_ports g c = (
  nothing,
  rises_none g.W.Surroundings c.args._tally.now c.args._world.now,
  λ v within p body s ins ins' r n b lens eqs ends h. absurd (no_other c.args._port p c.requires.port n b),
)

pub returns-then-len-eq0-clause-inputs : goal.returns-then-len-eq0-clause-inputs
returns-then-len-eq0-clause-inputs g c =
    woken c.args.self.now.inputs.progress.items c.wake-2.new.self.progress.items c.wake-2.ensures

pub returns-then-len-eq0-clause-leads : goal.returns-then-len-eq0-clause-leads
returns-then-len-eq0-clause-leads g c =
    let me = c.args.self.now in
    let inputs = me.inputs.progress.items in
    let skipped = c.if-step-eq0.true in
    let rows = c.if-len-eq0.true in
    let len = c.len.ensures in
    let given = c.in_ok-step.ensures.rows in
    let merges = subst (λ (ks : List Key). Merges (row_before (directions ks) (key_trees ks)) (length inputs)
    inputs
    c.give.new.queues.list.items (given.0 ++ rows_given c.in_ok-step.step) me.queues.list.items)
    c.as_slice.ensures
    given.2 in
    let none : reported c.in_ok-step.step ≡ 0 = omega (arith, skipped, rows, len) in (
      nothing,
      rises_none g.W.Surroundings c.args._tally.now c.args._world.now,
      λ v within body s ins ins' lens eqs ends.
          quiet_step c.in_ok-step.step c.nothing-then-len-eq0.result none
          c.nothing-then-len-eq0.ensures.skipped
          c.nothing-then-len-eq0.ensures.rows
          (gave_sorted (directions me.keys) (key_trees me.keys) (length inputs)
          (length c.wake-2.new.self.progress.items) inputs me.queues.list.items c.give.new.queues.list.items
          given.0 s ins' ins c.in_ok-step.step lens eqs
          (ap length c.wake-2.ensures ∙ length-map inputs after_answer)
          (λ k l d. nil_from_length (ins' k).rows (ends k d).0) given.1 merges),
    )

pub returns-then-len-eq0-clause-other_ports : goal.returns-then-len-eq0-clause-other_ports
returns-then-len-eq0-clause-other_ports g c = (
  nothing,
  rises_none g.W.Surroundings c.args._tally.now c.args._world.now,
  λ v within p body s ins ins' r n b lens eqs ends h. absurd (no_other c.args._port p c.requires.port n b),
)

pub returns-then-len-eq0-clause-done : goal.returns-then-len-eq0-clause-done
returns-then-len-eq0-clause-done g c =
    let me = c.args.self.now in
    let inputs = me.inputs.progress.items in
    let queues = me.queues.list.items in
    let woke = c.wake-2.new.self.progress.items in
    let skipped = c.if-step-eq0.true in
    let rows = c.if-len-eq0.true in
    let len = c.len.ensures in
    let told : reported c.in_ok-step.step ≡ 0 = omega (arith, skipped, rows, len) in
    let none = c.in_ok-step.ensures.none told in
    let left = c.in_ok-step.ensures.left in
    let had = none_left queues none in
    let gone = all_gone c.give.new.queues.list.items (omega (arith, told, left, had)) in
    let ready = c.are_ready.ensures.yes c.if-not-are_ready.false in
    let count : length woke ≡ length inputs = ap length c.wake-2.ensures ∙ length-map inputs after_answer in
    λ _. inr (λ v at within body ins ends r h.
    none_sorted (directions me.keys) (key_trees me.keys) (length woke) c.give.new.queues.list.items ins r gone
    (λ k l. ends k (all_done inputs woke queues c.wake-2.ensures c.requires.valid.count ready none k
    (subst (λ z. k < z) count l))) h)

pub returns-then-len-eq0-clause-drained : goal.returns-then-len-eq0-clause-drained
returns-then-len-eq0-clause-drained g c =
    let me = c.args.self.now in
    let skipped = c.if-step-eq0.true in
    let rows = c.if-len-eq0.true in
    let len = c.len.ensures in
    let told : reported c.in_ok-step.step ≡ 0 = omega (arith, skipped, rows, len) in
    let none = c.in_ok-step.ensures.none told in
    let ready = c.are_ready.ensures.yes c.if-not-are_ready.false in
    λ _ _ _ k l _. all_done me.inputs.progress.items c.wake-2.new.self.progress.items me.queues.list.items
    c.wake-2.ensures c.requires.valid.count ready none k l

pub returns-clause-inputs : goal.returns-clause-inputs
returns-clause-inputs g c =
    woken c.args.self.now.inputs.progress.items c.wake-2.new.self.progress.items c.wake-2.ensures

pub returns-clause-leads : goal.returns-clause-leads
returns-clause-leads g c =
    let me = c.args.self.now in
    let inputs = me.inputs.progress.items in
    let given = c.in_ok-step.ensures.rows in
    let merges = subst (λ (ks : List Key). Merges (row_before (directions ks) (key_trees ks)) (length inputs)
    inputs
    c.give.new.queues.list.items (given.0 ++ rows_given c.in_ok-step.step) me.queues.list.items)
    c.as_slice.ensures
    given.2 in (
      nothing,
      rises_none g.W.Surroundings c.args._tally.now c.args._world.now,
      λ v within body s ins ins' lens eqs ends.
          gave_sorted (directions me.keys) (key_trees me.keys) (length inputs)
          (length c.wake-2.new.self.progress.items) inputs me.queues.list.items c.give.new.queues.list.items
          given.0 s ins' ins c.in_ok-step.step lens eqs
          (ap length c.wake-2.ensures ∙ length-map inputs after_answer)
          (λ k l d. nil_from_length (ins' k).rows (ends k d).0) given.1 merges,
    )

pub returns-clause-other_ports : goal.returns-clause-other_ports
returns-clause-other_ports g c = (
  nothing,
  rises_none g.W.Surroundings c.args._tally.now c.args._world.now,
  λ v within p body s ins ins' r n b lens eqs ends h. absurd (no_other c.args._port p c.requires.port n b),
)
