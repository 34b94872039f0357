use Rattle.std.proofs.Common.{◌≡◌, refl, ap, arith}
use Rattle.aql_block.specs.Tables.{rows_of}
use Rattle.aql_block.specs.declared.calls.Progress.TheVariants.{Waiting, Done}
use Rattle.aql_exec.specs.Steps.{reported}
use Rattle.aql_exec.proofs.Advancing.{led_adding, led_quiet, quiet}
use Rattle.aql_exec.proofs.stream.StreamExecutor.turn.Goals as goal

pub returns-then-step-gt0-clause-leads : goal.returns-then-step-gt0-clause-leads
returns-then-step-gt0-clause-leads g c =
    let stock = g.W.Surroundings.stock c.args.world.now in
    let before = g.T.Transform.left c.args.self.now.transform stock in
    let after = g.T.Transform.left c.advance.new.transform stock in
    let left = c.in_ok-step.ensures.left in (
      left.0,
      left.1,
      λ v within body s ins ins' l e ends r h. led_adding before after c.in_ok-step.step left.0 (s 0) (ins' 0)
          (ins 0) (l 0) (e 0) left.2 r (rw c.in_ok-step.ensures.world.stock at h),
    )

pub returns-then-self-clause-leads : goal.returns-then-self-clause-leads
returns-then-self-clause-leads g c =
    let stock = g.W.Surroundings.stock c.args.world.now in
    let before = g.T.Transform.left c.args.self.now.transform stock in
    let after = g.T.Transform.left c.advance.new.transform stock in
    let left = c.in_ok-step.ensures.left in
    let skipped = c.if-step-gt0.false in
    let len = c.len.ensures in
    let rows = c.if-len-gt0.false in
    let none : reported c.in_ok-step.step ≡ 0 = omega (arith, skipped, len, rows) in (
      left.0,
      left.1,
      λ v within body s ins ins' l e ends r h. led_quiet before after c.in_ok-step.step
          (record { skipped = 0; block = c.empty.result; progress = Done }) left.0 (s 0) (ins' 0) (ins 0)
          (l 0)
          (e 0) none refl (ap rows_of c.empty.ensures) left.2 r (rw c.in_ok-step.ensures.world.stock at h),
    )

pub returns-then-self-2-clause-leads : goal.returns-then-self-2-clause-leads
returns-then-self-2-clause-leads g c =
    let stock = g.W.Surroundings.stock c.args.world.now in
    let before = g.T.Transform.left c.args.self.now.transform stock in
    let after = g.T.Transform.left c.advance.new.transform stock in
    let left = c.in_ok-step.ensures.left in
    let skipped = c.if-step-gt0.false in
    let len = c.len.ensures in
    let rows = c.if-len-gt0.false in
    let none : reported c.in_ok-step.step ≡ 0 = omega (arith, skipped, len, rows) in (
      left.0,
      left.1,
      λ v within body s ins ins' l e ends r h. led_quiet before after c.in_ok-step.step
          (record { skipped = 0; block = c.empty-then-self-2.result; progress = Waiting }) left.0 (s 0)
          (ins' 0) (ins 0) (l 0)
          (e 0) none refl (ap rows_of c.empty-then-self-2.ensures) left.2 r
          (rw c.in_ok-step.ensures.world.stock at h),
    )

pub returns-clause-leads : goal.returns-clause-leads
returns-clause-leads g c =
    let stock = g.W.Surroundings.stock c.args.world.now in
    let before = g.T.Transform.left c.args.self.now.transform stock in
    let after = g.T.Transform.left c.advance.new.transform stock in
    let left = c.in_ok-step.ensures.left in
    let skipped = c.if-step-gt0.false in
    let len = c.len.ensures in
    let rows = c.if-len-gt0.false in
    let none : reported c.in_ok-step.step ≡ 0 = omega (arith, skipped, len, rows) in (
      left.0,
      left.1,
      λ v within p body ins r ends h. quiet before after c.in_ok-step.step left.0 (ins 0) none left.2 r
          (rw c.in_ok-step.ensures.world.stock at h),
    )
