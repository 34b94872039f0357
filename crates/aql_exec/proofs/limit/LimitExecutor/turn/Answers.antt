use Rattle.std.proofs.Common.{◌≡◌, ◌+◌, ◌-◌, inl, inr, false, length, refl, sym, ap, ◌∙◌, arith}
use Rattle.std.proofs.Math.Nat.{le_refl}
use mathlib.Core.Bool.{false≢true}
use Rattle.aql_block.specs.Tables.{rows_of}
use Rattle.aql_block.specs.declared.calls.Call.{Call}
use Rattle.aql_block.specs.declared.calls.Progress.TheVariants.{Done}
use Rattle.aql_exec.specs.Counting.{nothing}
use Rattle.aql_exec.specs.laws.Counted.{rises_none, prefixed_none}
use Rattle.aql_exec.specs.laws.Telling.{led_none, no_other, only_port}
use Rattle.aql_exec.proofs.Limited.{limit_reported}
use Rattle.aql_exec.proofs.Asking.{not_true}
use Rattle.aql_exec.proofs.Answering.{came_of, enough_left, answers_of, either, either_of, zero_or, all_given, none_more, none_in, same_limits}
use Rattle.aql_exec.proofs.limit.LimitExecutor.turn.Goals.{then-self-2-via-then-self-2, then-self-2-via-else-self-2+then-self-eq0}
use Rattle.aql_exec.proofs.limit.LimitExecutor.turn.Goals as goal

pub returns-then-self-clause-leads : goal.returns-then-self-clause-leads
returns-then-self-clause-leads g c =
    let me = c.args.self.now in
    let held = c.requires.valid.held c.if-self.true in
    let asks = c.requires.valid.asks held.asked in
    let gone = c.saturating_sub-past.ensures in
    let number = c.from.ensures in
    let len = held.rows in
    let enough = enough_left me held asks.0 asks.4 in
    let left = me.left - (c.saturating_sub-past.result + c.from.result) in
    let none = ap rows_of (c.replace-block.ensures.after ∙ c.empty.ensures) in
    let answers = answers_of me.call.offset c.saturating_sub-past.result (me.skipped - me.skip)
    (rows_of c.replace-block.result) (rows_of me.block) c.answer-step.result gone
    (ap rows_of c.replace-block.ensures.value) c.answer-step.ensures.over c.answer-step.ensures.whole in (
      nothing,
      rises_none g.W.Surroundings c.args._tally.now c.args._world.now,
      λ v within body s ins ins' l e ends r h.
          limit_reported me.skip me.left left me.skipped (rows_of me.block) (rows_of c.replace-block.new.dest)
          (s 0)
          c.answer-step.result (ins' 0) (ins 0) r (l 0) (e 0)
          (λ n. (let f = held.first (omega (arith, n, len)) in omega (arith, f)))
          (omega (arith, gone, number, len, enough)) none
          (either me.call.offset (me.skipped - me.skip) (rows_of me.block) c.answer-step.result answers)
          (rw c.saturating_sub-self.ensures at h),
    )

pub returns-then-self-clause-other_ports : goal.returns-then-self-clause-other_ports
returns-then-self-clause-other_ports g c = (
  nothing,
  rises_none g.W.Surroundings c.args._tally.now c.args._world.now,
  λ v within p body s ins ins' r n o l e ends h. absurd (no_other c.args._port p c.requires.port n o),
)

pub returns-then-self-clause-done : goal.returns-then-self-clause-done
returns-then-self-clause-done g c done =
    let me = c.args.self.now in
    let held = c.requires.valid.held c.if-self.true in
    let asks = c.requires.valid.asks held.asked in
    let gone = c.saturating_sub-past.ensures in
    let number = c.from.ensures in
    let len = held.rows in
    let enough = enough_left me held asks.0 asks.4 in
    let left = me.left - (c.saturating_sub-past.result + c.from.result) in
    let none = ap rows_of (c.replace-block.ensures.after ∙ c.empty.ensures) in
    let answers = answers_of me.call.offset c.saturating_sub-past.result (me.skipped - me.skip)
    (rows_of c.replace-block.result) (rows_of me.block) c.answer-step.result gone
    (ap rows_of c.replace-block.ensures.value) c.answer-step.ensures.over c.answer-step.ensures.whole in
    let port = only_port c.args._port c.requires.port in
    let call : c.args.call ≡ me.call = (rw port at c.requires.may).0 held.asked in
    let rest : left + ((me.skipped - me.skip) + me.rows) ≡ me.left = omega (arith, gone, number, enough) in
    let came = rw len at (came_of me left held asks.0 asks.3 asks.4 rest) in
    let some = asks.1 in
    let soft = asks.2 in
    either_of (zero_or left)
    (λ z. inr (λ v at within body ins ends r h. (
      none_more c.saturating_sub-self.result left (rows_of c.replace-block.new.dest) (ins 0) r z h,
      λ k x. absurd (false≢true (within k x)),
    )))
    (λ m. either_of
    (held.done (sym (c.progress_at-progress.ensures.1 m) ∙ sym c.answer-step.ensures.progress ∙ done))
    (λ all. inl (all_given me.call.soft me.call.hard me.skip me.left me.skipped me.ask.soft me.ask.hard left
    me.call (rows_of me.block) c.answer-step.result came answers (omega (arith, some, soft)) m
    (sym len ∙ all) ∙ sym (ap (λ (z : Call). z.hard) call)))
    (λ ended. inr (λ v at within body ins ends r h. (
      none_in c.saturating_sub-self.result left (rows_of c.replace-block.new.dest) (ins 0) r none
          (ends 0 ended).0 h,
      λ k x. absurd (false≢true (within k x)),
    ))))

pub returns-then-self-2-clause-leads : goal.returns-then-self-2-clause-leads
returns-then-self-2-clause-leads g c =
    let me = c.args.self.now in
    let valid = c.requires.valid in
    let idle : me.asked ≡ false = not_true me.asked (λ a. elim c.then-self-2.branch [
      | then-self-2-via-then-self-2 w ↦ absurd (false≢true
          (sym (valid.going a c.if-self.false) ∙ w.if-self-2.true))
      | then-self-2-via-else-self-2+then-self-eq0 w ↦
          (let n = (valid.asks a).0 in let z = w.if-self-eq0.true in absurd (omega (arith, n, z)))
    ]) in
    let none = (valid.idle idle).0 in (
      nothing,
      rises_none g.W.Surroundings c.args._tally.now c.args._world.now,
      λ v within body s ins ins' l e ends.
          led_none (record { skipped = 0; block = c.empty-then-self-2.result; progress = Done }) refl
          (ap rows_of c.empty-then-self-2.ensures) (λ r h.
          same_limits me.skip me.left me.skipped (rows_of me.block) (s 0) (ins' 0) (ins 0) r (l 0 ∙ none)
          (e 0) h),
    )

pub returns-then-self-2-clause-other_ports : goal.returns-then-self-2-clause-other_ports
returns-then-self-2-clause-other_ports g c = (
  nothing,
  rises_none g.W.Surroundings c.args._tally.now c.args._world.now,
  λ v within p body s ins ins' r n o l e ends h. absurd (no_other c.args._port p c.requires.port n o),
)

pub returns-clause-leads : goal.returns-clause-leads
returns-clause-leads g c = (
  nothing,
  rises_none g.W.Surroundings c.args._tally.now c.args._world.now,
  λ v within p body ins r ends h.
      (r, prefixed_none r, h),
)

pub returns-then-self-clause-reads : goal.returns-then-self-clause-reads
returns-then-self-clause-reads g c =
    let me = c.args.self.now in
    let held = c.requires.valid.held c.if-self.true in
    let port = only_port c.args._port c.requires.port in
    let call : c.args.call ≡ me.call = (rw port at c.requires.may).0 held.asked in (
      λ scans. absurd (false≢true scans),
      λ hands. (
        le_refl c.args._tally.now.scanned_full,
        λ whole.
            (let offset : me.call.offset ≡ 0 = sym (ap (λ (z : Call). z.offset) call) ∙ whole refl in
            let all = (c.answer-step.ensures.whole (omega (arith, offset))).0
            ∙ ap rows_of c.replace-block.ensures.value in
            rw (c.if-self.true, all) (le_refl (length (rows_of me.block)))),
      ),
    )
