use Rattle.std.proofs.Common.{◌≡◌, inl, inr, length, map, refl, sym, ap, ◌∙◌}
use Rattle.std.proofs.lemmas.List.{length-map}
use mathlib.Core.Bool.{false≢true}
use Rattle.aql_block.specs.Tables.{rows_of}
use Rattle.aql_block.specs.declared.calls.Call.{Call}
use Rattle.aql_block.specs.declared.calls.Progress.TheVariants.{Done}
use Rattle.aql_exec.specs.Counting.{nothing}
use Rattle.aql_exec.specs.laws.Counted.{rises_none, prefixed_none}
use Rattle.aql_exec.specs.laws.Telling.{led_none, no_other, only_port}
use Rattle.aql_exec.specs.laws.Handing.{handed, same_images}
use Rattle.aql_exec.proofs.mapped.MappedExecutor.turn.Goals as goal

pub returns-then-self-clause-leads : goal.returns-then-self-clause-leads
returns-then-self-clause-leads g c =
    let me = c.args.self.now in
    let f = g.M.RowMap.image me.by in
    let out = c.in_ok-block.ensures ∙ ap (λ z. map f (rows_of z)) c.replace-block.ensures.value in (
      nothing,
      rises_none g.W.Surroundings c.args._tally.now c.args.world.now,
      λ v within body s ins ins' l e ends r h. rw c.if-self.true
          (handed f me.skipped (rows_of me.block) (rows_of c.in_ok-block.block) (s 0) (ins' 0) (ins 0) r
          (rw c.if-self.true at l 0) (e 0) out h),
    )

pub returns-then-self-clause-other_ports : goal.returns-then-self-clause-other_ports
returns-then-self-clause-other_ports g c = (
  nothing,
  rises_none g.W.Surroundings c.args._tally.now c.args.world.now,
  λ v within p body s ins ins' r n o l e ends h. absurd (no_other c.args._port p c.requires.port n o),
)

pub returns-then-self-clause-may : goal.returns-then-self-clause-may
returns-then-self-clause-may g c k i f =
    let me = c.args.self.now in
    let port = only_port c.args._port c.requires.port in
    let call : c.args.call ≡ me.last = (rw port at c.requires.may).0
    (c.requires.valid.asked c.if-self.true) in
    let out = c.in_ok-block.ensures ∙ ap (λ z. map (g.M.RowMap.image me.by)
    (rows_of z)) c.replace-block.ensures.value in
    let count : length (rows_of c.in_ok-block.block) ≡ me.count =
    ap length out ∙ length-map (rows_of me.block) (g.M.RowMap.image me.by)
    ∙ sym (c.requires.valid.count c.if-self.true) in
    rw port ((λ e. absurd (false≢true e)), λ _. (i, λ _ _. (rw (call, count) at f)))

pub returns-then-self-2-clause-leads : goal.returns-then-self-2-clause-leads
returns-then-self-2-clause-leads g c =
    let me = c.args.self.now in (
      nothing,
      rises_none g.W.Surroundings c.args._tally.now c.args.world.now,
      λ v within body s ins ins' l e ends.
          led_none (record { skipped = 0; block = c.empty-then-self-2.result; progress = Done }) refl
          (ap rows_of c.empty-then-self-2.ensures) (λ r h. rw c.if-self.false
          (same_images (g.M.RowMap.image me.by) (s 0) (ins' 0) (ins 0) r (rw c.if-self.false at l 0) (e 0)
          (rw c.if-self.false at h))),
    )

pub returns-then-self-2-clause-other_ports : goal.returns-then-self-2-clause-other_ports
returns-then-self-2-clause-other_ports g c = (
  nothing,
  rises_none g.W.Surroundings c.args._tally.now c.args.world.now,
  λ v within p body s ins ins' r n o l e ends h. absurd (no_other c.args._port p c.requires.port n o),
)

pub returns-clause-leads : goal.returns-clause-leads
returns-clause-leads g c = (
  nothing,
  rises_none g.W.Surroundings c.args._tally.now c.args.world.now,
  λ v within p body ins r ends h.
      (r, prefixed_none r, h),
)

pub returns-then-self-clause-done : goal.returns-then-self-clause-done
returns-then-self-clause-done g c p =
    let me = c.args.self.now in
    let f = g.M.RowMap.image me.by in
    let port = only_port c.args._port c.requires.port in
    let call : c.args.call ≡ me.last = (rw port at c.requires.may).0
    (c.requires.valid.asked c.if-self.true) in
    let out = c.in_ok-block.ensures ∙ ap (λ z. map f (rows_of z)) c.replace-block.ensures.value in
    let count : length (rows_of c.in_ok-block.block) ≡ length (rows_of me.block) =
    ap length out ∙ length-map (rows_of me.block) f in
    elim (c.requires.valid.done c.if-self.true p) [
      | inl e ↦ inl (count ∙ e ∙ sym (ap (λ (z : Call). z.hard) call))
      | inr d ↦ inr (λ v at within body ins ends r h.
          (h.0 ∙ ap (map f) (ends 0 d).0, λ k x. h.1 k ∙ (ends 0 d).1 k x))
    ]
