use Rattle.std.proofs.Common.{◌≤◌, ◌++◌, ◌∷◌, inl, inr, [], length, refl, sym, ap, append_assoc, length-append, ◌∙◌, arith}
use Rattle.std.proofs.lemmas.List.{append-nil}
use Rattle.aql_exec.specs.Rests.{Over, Within}
use Rattle.aql_exec.specs.Lines.{Deliveries}
use Rattle.aql_engine.specs.laws.Exactness.{over_weaker}
use Rattle.aql_exec.specs.Counting.{nothing}
use Rattle.aql_block.specs.Tables.{rows_of}
use Rattle.aql_engine.specs.Run.{rows_in}
use Rattle.aql_exec.specs.Operators.{exact_tree}
use Rattle.aql_exec.specs.laws.Counted.{prefixed_none, prefixed_weaker, rises_none, rises_then, rises_weaker}
use Rattle.aql_engine.proofs.Leading.{plus}
use Rattle.aql_engine.proofs.Running.{rows_came, later, all_came, rises_within, follows_all, picked_more}
use Rattle.aql_engine.proofs.run.run_feed.Goals as goal

pub loop-blocks-init : goal.loop-blocks-init
loop-blocks-init g c =
    let w = c.args.world.now in
    let restarted = c.in_ok-restart.ensures in (
      restarted.valid w,
      (λ q h o a. restarted.may q h),
      restarted.plan,
      refl,
      ([], sym (append-nil (g.W.Surroundings.deliveries w).picks), refl),
      (
        nothing,
        rises_none g.W.Surroundings c.args.tally.now w,
        λ r h.
            (r, rw c.new-blocks.ensures.items (prefixed_none r), rw restarted.plan at (restarted.produces w r h)),
      ),
      (λ e. omega arith),
      refl,
    )

pub loop-blocks-preserved : goal.loop-blocks-preserved
loop-blocks-preserved g c =
    let inv = c.loop-blocks.invariant in
    let pulled = c.in_ok-block.ensures in
    let step = c.in_ok-block.field-0 in
    let p = g.W.Surroundings in
    let exact = exact_tree (g.F.Feed.plan c.args.feed.now) in
    let within : Within exact (exact_tree (g.F.Feed.plan c.loop-blocks.feed)) = λ k i. rw inv.2 i in
    let so_far = inv.5 in
    let led = pulled.leads in (
      pulled.valid,
      (λ q h o a. pulled.may q h (follows_all _ q _ _ _ (λ e. cc) refl refl o a)),
      pulled.plan ∙ inv.2,
      pulled.world.stock
          ∙ inv.3,
      (inv.4.0, ap (λ (z : Deliveries). z.picks) pulled.world.deliveries ∙ inv.4.1, inv.4.2),
      (
        plus so_far.0 led.0,
        rises_then p _ _ _ _ _ _ _ _ so_far.1 (rises_weaker p _ _ _ _ led.0 (λ k i. (refl, within k i)) led.1),
        λ r h. (
            let k = led.2 r h in
            let q = so_far.2 k.1 k.4 in
            let none : length k.0 ≤ 0 = rw k.2 pulled.bounds.skipped in (
              q.0,
              rw c.in_ok-keep.ensures
                  (rows_came {v = exact} (rows_in c.loop-blocks.blocks.items) (rows_of step.block) k.0 so_far.0 led.0 r k.1 q.0
                  none (prefixed_weaker _ led.0 r k.1 within k.3) q.1),
              q.2,
            )),
      ),
      (λ e. (let a = inv.6 e in
          let b = pulled.reads.1 (rw inv.2 e) (λ l. refl) in
          let l = ap length c.in_ok-keep.ensures in
          let m = length-append (rows_in c.loop-blocks.blocks.items) (rows_of step.block) in
          omega (arith, a, b, l, m))),
      pulled.world.batch ∙ inv.7,
    )

pub loop-blocks-preserved-in-Continue-branch-4 : goal.loop-blocks-preserved-in-Continue-branch-4
loop-blocks-preserved-in-Continue-branch-4 g c =
    let inv = c.loop-blocks.invariant in
    let pulled = c.in_ok-block.ensures in
    let step = c.in_ok-block.field-0 in
    let delivered = c.in_ok-deliver_one-in-Waiting.ensures in
    let p = g.W.Surroundings in
    let exact = exact_tree (g.F.Feed.plan c.args.feed.now) in
    let within : Within exact (exact_tree (g.F.Feed.plan c.loop-blocks.feed)) = λ k i. rw inv.2 i in
    let so_far = inv.5 in
    let led = pulled.leads in
    let same = delivered.undisturbed in (
      delivered.valid,
      (λ q h o a. delivered.may q (pulled.may q h (follows_all _ q _ _ _ (λ e. cc) refl refl o a))),
      delivered.plan ∙ pulled.plan ∙ inv.2,
      delivered.stock ∙ pulled.world.stock ∙ inv.3,
      (
        inv.4.0 ++ delivered.picked.0 ∷ [],
        delivered.picked.1 ∙ ap (λ (z : Deliveries). z.picks ++ delivered.picked.0 ∷ []) pulled.world.deliveries
            ∙ ap (λ z. z ++ delivered.picked.0 ∷ []) inv.4.1
            ∙ append_assoc (p.deliveries c.args.world.now).picks inv.4.0 (delivered.picked.0 ∷ []),
        picked_more g.P.Picker.picks c.args.picker.now c.loop-blocks.picker c.deliver_one.new.picker
            inv.4.0 delivered.picked.0 inv.4.2 delivered.picked.2,
      ),
      (
        plus (plus so_far.0 led.0) same.0,
        rises_then p _ _ _ _ _ _ _ _
            (rises_then p _ _ _ _ _ _ _ _ so_far.1
            (rises_weaker p _ _ _ _ led.0 (λ k i. (refl, within k i)) led.1))
            (rises_weaker p _ _ _ _ same.0 (λ k i. rw pulled.plan (within k i)) same.1),
        λ r h. (
            let i = same.2 r h in
            let k = led.2 i.0 i.2 in
            let q = so_far.2 k.1 k.4 in
            let none : length k.0 ≤ 0 = rw k.2 pulled.bounds.skipped in (
              q.0,
              rw c.in_ok-keep.ensures
                  (later {v = exact} _ _ _ r i.0 q.0
                  (prefixed_weaker [] same.0 r i.0 (λ k i. rw pulled.plan (within k i)) i.1)
                  (rows_came {v = exact} (rows_in c.loop-blocks.blocks.items) (rows_of step.block) k.0 so_far.0 led.0 i.0 k.1
                  q.0 none (prefixed_weaker _ led.0 i.0 k.1 within k.3) q.1)),
              q.2,
            )),
      ),
      (λ e. (let f = pulled.waiting cc in
          absurd (g.met.F.Feed.no_link c.pull.new.self f.0 f.1 (rw (pulled.plan ∙ inv.2) e)))),
      delivered.batch ∙ pulled.world.batch ∙ inv.7,
    )

pub returns-in-Done-clause-rows : goal.returns-in-Done-clause-rows
returns-in-Done-clause-rows g c =
    let inv = c.loop-blocks.invariant in
    let pulled = c.in_ok-block.ensures in
    let step = c.in_ok-block.field-0 in
    let p = g.W.Surroundings in
    let exact = exact_tree (g.F.Feed.plan c.args.feed.now) in
    let within : Within exact (exact_tree (g.F.Feed.plan c.loop-blocks.feed)) = λ k i. rw inv.2 i in
    let so_far = inv.5 in
    let led = pulled.leads in
    let any = g.met.F.Feed.some_rest c.pull.new.self c.pull.new.world pulled.valid in
    let few = pulled.bounds.rows in
    let small = c.requires.batch.1 in
    let over : Over (exact_tree (g.F.Feed.plan c.loop-blocks.feed)) (g.F.Feed.rests c.pull.new.self c.pull.new.world) = elim (pulled.done cc) [
      | inl h ↦ absurd (omega (arith, h, few, small, c.from.ensures))
      | inr o ↦ o
    ] in
    let k = led.2 any.0 any.1 in
    let q = so_far.2 k.1 k.4 in
    let none : length k.0 ≤ 0 = rw k.2 pulled.bounds.skipped in
    let came = rows_came {v = exact} (rows_in c.loop-blocks.blocks.items) (rows_of step.block) k.0 so_far.0 led.0 any.0
    k.1 q.0 none (prefixed_weaker _ led.0 any.0 k.1 within k.3) q.1 in
    let over_any = over_weaker exact (exact_tree (g.F.Feed.plan c.loop-blocks.feed)) any.0 within
    (over any.0 any.1) in (
      q.0,
      q.2,
      rw c.in_ok-keep.ensures (all_came _ _ any.0 q.0 over_any.0 came),
      rises_within p exact _ _ _ _ _ _ any.0 q.0
          (rises_then p _ _ _ _ _ _ _ _ so_far.1 (rises_weaker p _ _ _ _ led.0 (λ k i. (refl, within k i)) led.1))
          came over_any,
    )

pub returns-in-Done-clause-picked : goal.returns-in-Done-clause-picked
returns-in-Done-clause-picked g c =
    let inv = c.loop-blocks.invariant in
    let pulled = c.in_ok-block.ensures in
    (inv.4.0, ap (λ (z : Deliveries). z.picks) pulled.world.deliveries ∙ inv.4.1, inv.4.2)

pub returns-in-Done-clause-reads : goal.returns-in-Done-clause-reads
returns-in-Done-clause-reads g c e =
    let inv = c.loop-blocks.invariant in
    let pulled = c.in_ok-block.ensures in
    let step = c.in_ok-block.field-0 in
    let a = inv.6 e in
    let b = pulled.reads.1 (rw inv.2 e) (λ l. refl) in
    let l = ap length c.in_ok-keep.ensures in
    let m = length-append (rows_in c.loop-blocks.blocks.items) (rows_of step.block) in
    omega (arith, a, b, l, m)
