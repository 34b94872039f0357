use Rattle.std.proofs.Common.{ℕ, ◌≡◌, ◌+◌, ◌*◌, ◌<◌, ◌≤◌, ◌⊎◌, inl, inr, [], true, refl, sym, ap, ◌∙◌, arith, subst}
use Rattle.std.proofs.Math.Nat.{le_refl}
use Rattle.std.proofs.lemmas.Bool.{false≢true}
use Rattle.aql_block.specs.Rows.{row_of}
use Rattle.aql_exec.specs.Rests.{filtered, Rest, Within}
use Rattle.aql_exec.specs.Steps.{unless_waiting, reported}
use Rattle.aql_exec.specs.Operators.{height, arity, Produces, leaf, StartRow, no_rest, exact_at, exact_tree}
use Rattle.aql_exec.specs.laws.Counted.{rises_none, rises_then, rises_weaker, prefixed_weaker}
use Rattle.aql_exec.specs.Counting.{nothing}
use Rattle.aql_engine.specs.Tree.{Waits, WaitsAt, tree_plan, node_exact, TreeRests, TreeOwn, NodeValid}
use Rattle.aql_engine.specs.laws.Exactness.{exact_node, exact_below, exact_body, over_weaker}
use Rattle.aql_engine.specs.laws.TreesKept.{tree_kept_rests, tree_some, choose}
use Rattle.aql_engine.proofs.Leading.{plus, leads_init, leads_first, leads_second, leads_started, leads_given, leads_beside, one_zero, zero_one}
use Rattle.aql_engine.proofs.Inputs.{of_inputs, at_most, is_below, not_new, pulled_input, input_weaker, input_kept, fewer_wait, turned_inputs}
use Rattle.aql_engine.proofs.Besides.{turned_beside, pulled_beside}
use Rattle.aql_engine.proofs.Reading.{read_first, read_on, hands_exact, read_below, read_body, read_given, read_leaf}
use Rattle.aql_engine.proofs.Budgets.{falls, starts, more_waits_left, le_more, below_pulled, body_pulled, body_begun, node_given, of_two, below_two, at_body}
use Rattle.aql_engine.proofs.tree.+pull.Goals as goal

pub TreeFeed::pull-returns-in-Give-clause-leads : goal.TreeFeed::pull-returns-in-Give-clause-leads
TreeFeed::pull-returns-in-Give-clause-leads g t c =
    let v = rw c.in-Leaf.is at c.requires.valid in
    let e = rw c.in-Give.is at c.in_ok-turn-in-Leaf.ensures.leads in (
      e.0,
      rw c.in-Leaf.is e.1,
      rw c.in-Leaf.is (e.2 (exact_at (g.X.Executor.node c.in-Leaf.x)) (λ k i. i) (leaf StartRow) (λ j. [])
          (λ j. no_rest) (λ j. no_rest) (λ j. sym (v.1 j)) (λ j. refl) (λ j k. (sym (v.1 j), λ k i. refl))),
    )

pub TreeFeed::pull-returns-in-Give-clause-reads : goal.TreeFeed::pull-returns-in-Give-clause-reads
TreeFeed::pull-returns-in-Give-clause-reads g t c =
    let e = rw c.in-Give.is at c.in_ok-turn-in-Leaf.ensures.reads in
    rw c.in-Leaf.is (read_leaf (g.X.Executor.node c.in-Leaf.x) c.args.call.offset (g.X.Executor.held c.in-Leaf.x) _ _ c.in-Give.step e)

pub TreeFeed::pull-returns-in-Give-clause-budget : goal.TreeFeed::pull-returns-in-Give-clause-budget
TreeFeed::pull-returns-in-Give-clause-budget g t c =
    let e = rw c.in-Give.is at c.in_ok-turn-in-Leaf.ensures.budget in
    rw c.in-Leaf.is (e 0)

pub TreeFeed::pull-returns-in_ok-step-in-Sub-clause-leads
    : goal.TreeFeed::pull-returns-in_ok-step-in-Sub-clause-leads
TreeFeed::pull-returns-in_ok-step-in-Sub-clause-leads g t c =
    let e = c.in_ok-step-in-Sub.ensures.leads refl in (
      e.0,
      rw (c.in-Sub.is, ← c.deref_mut-below.ensures.value, ← c.deref_mut-body.ensures.value) e.1,
      λ r h. (let k = e.2 r h in (
        k.0,
        k.1,
        k.2,
        rw (c.in-Sub.is, ← c.deref_mut-below.ensures.value, ← c.deref_mut-body.ensures.value) k.3,
        rw (c.in-Sub.is, ← c.deref_mut-below.ensures.value, ← c.deref_mut-body.ensures.value) k.4,
      )),
    )

pub TreeFeed::pull-returns-in-Give-clause-done : goal.TreeFeed::pull-returns-in-Give-clause-done
TreeFeed::pull-returns-in-Give-clause-done g t c e =
    let done = rw c.in-Give.is at c.in_ok-turn-in-Leaf.ensures.done in
    elim (done e) [
      | inl h ↦ inl h
      | inr h ↦ inr (rw c.in-Leaf.is (h (exact_at (g.X.Executor.node c.in-Leaf.x)) (λ k i. refl) (λ k i. i)
          (leaf StartRow) (λ j. no_rest) (λ j k. (refl, λ k i. refl))))
    ]

pub TreeFeed::pull-returns-in_ok-step-in-Sub-clause-ours
    : goal.TreeFeed::pull-returns-in_ok-step-in-Sub-clause-ours
TreeFeed::pull-returns-in_ok-step-in-Sub-clause-ours g t c l o =
    rw (c.in-Sub.is, ← c.deref_mut-below.ensures.value, ← c.deref_mut-body.ensures.value)
    (c.in_ok-step-in-Sub.ensures.ours l o)

pub TreeFeed::pull-returns-in_ok-step-in-Sub-clause-done
    : goal.TreeFeed::pull-returns-in_ok-step-in-Sub-clause-done
TreeFeed::pull-returns-in_ok-step-in-Sub-clause-done g t c e =
    elim (c.in_ok-step-in-Sub.ensures.done refl e) [
      | inl h ↦ inl h
      | inr h ↦ inr (λ r q.
          rw (c.in-Sub.is, ← c.deref_mut-below.ensures.value, ← c.deref_mut-body.ensures.value) (h r q))
    ]

pub TreeFeed::pull-run_node-requires : goal.TreeFeed::pull-run_node-requires
TreeFeed::pull-run_node-requires g t c κs within =
    let x = g.X.Executor in
    let p = g.W.Surroundings in
    let below = c.deref_mut-below.result.now in
    let body = c.deref_mut-body.result.now in
    let v : NodeValid x p (Waits x p) c.in-Sub.x below body c.args.world.now =
    rw (c.deref_mut-below.ensures.value, c.deref_mut-body.ensures.value)
    (rw c.in-Sub.is at c.requires.valid) in
    let fell = rw c.in-Sub.is at c.decreases in
    let lower : (height (tree_plan x p below) + height (tree_plan x p body)) * 2 + 2 < t =
    rw (c.deref_mut-below.ensures.value, c.deref_mut-body.ensures.value) (omega (arith, fell)) in (
      lower,
      (
        within.0,
        (
          within.1,
          (
            fewer_wait x p (Waits x p) (WaitsAt x p 0) c.in-Sub.x below body c.args.world.now
                (λ k q. elim q [ inl a ↦ inl a | inr a ↦ inr a.1 ]) v,
            (
              rw (c.deref_mut-below.ensures.value, c.deref_mut-body.ensures.value)
                  (rw c.in-Sub.is at c.requires.plan),
              (c.requires.call, (c.requires.batch, (rw c.in-Sub.is at c.requires.may, inl refl))),
            ),
          ),
        ),
      ),
    )

pub run_node-loop-at-init : goal.run_node-loop-at-init
run_node-loop-at-init g t c =
    let x = g.X.Executor in
    let p = g.W.Surroundings in
    let v = c.requires.valid in (
      record {
        executor_valid = v.executor_valid;
        below_is = v.below_is;
        body_is = v.body_is;
        begun_is = v.begun_is;
        reads = read_first (x.node c.args.x.now) (tree_plan x p c.args.below.now) c.args.call.offset
            (x.held c.args.x.now) c.args.tally.now.scanned_full;
        added = nothing;
        rises = rises_none p c.args.tally.now c.args.world.now;
        leads = leads_init (TreeRests x p c.args.below.now c.args.world.now)
            (TreeRests x p c.args.body.now c.args.world.now) v.none_unreported;
      },
      record {
        node_kept = refl;
        plan_kept = refl;
        body_plan_kept = refl;
        full_kept = λ f. refl;
        row_cost_kept = λ k f. refl;
        below_full_kept = refl;
        body_full_kept = refl;
        stock_kept = refl;
        batch_kept = refl;
        grows = le_refl _;
        deliveries_kept = refl;
        may_come = c.requires.may;
        other_ports = λ q d n h. h;
        idle = λ z. v.idle;
        budget_kept = le_refl _;
      },
      record {
        from_below = v.from_below;
        from_body = v.from_body;
        between = v.between;
        ours_new = λ l o. inl o;
        others = λ l n o. refl;
      },
    )

pub run_node-turn-requires-clause-node : goal.run_node-turn-requires-clause-node
run_node-turn-requires-clause-node g t c =
    let kept = c.loop-at.invariant.1 in
    rw (kept.stock_kept, kept.node_kept) c.requires.plan.6

pub run_node-turn-requires-clause-batch : goal.run_node-turn-requires-clause-batch
run_node-turn-requires-clause-batch g t c = rw c.loop-at.invariant.1.batch_kept c.requires.batch

pub run_node-pull-requires : goal.run_node-pull-requires
run_node-pull-requires g t c κs within =
    let x = g.X.Executor in
    let p = g.W.Surroundings in
    let m = g.met.X.Executor in
    let inv = c.loop-at.invariant.0 in
    let kept = c.loop-at.invariant.1 in
    let turned = c.in_ok-at.ensures in
    let a = turned_inputs x p m.kept_gives m.kept_valid m.own_links inv c.loop-at.invariant.2 c.turn.new.self
    c.turn.new.world turned.world.stock turned.world.batch turned.world.grows turned.world.others
    turned.ours in
    let plan = c.requires.plan in
    let asked = rw c.if-at-eq0.true at (rw c.in-Ask.is at turned.asked) in
    let batch : c.args.call.soft ≤ p.batch c.turn.new.world =
    rw (turned.world.batch, kept.batch_kept) c.requires.batch in
    let fell = c.decreases in
    let lower : height (tree_plan x p c.loop-at.below) * 2 + 1 < t =
    rw kept.plan_kept (omega (arith, fell)) in (
      lower,
      (
        within.0,
        (
          within.1,
          (
            a.below_is.input_valid inv.begun_is,
            (
              rw (turned.world.stock, kept.stock_kept, kept.plan_kept) plan.2,
              (asked.2, (at_most asked.7 batch, a.below_is.may_ask inv.begun_is _ asked.4)),
            ),
          ),
        ),
      ),
    )

pub run_node-pull-requires-else-at-eq0 : goal.run_node-pull-requires-else-at-eq0
run_node-pull-requires-else-at-eq0 g t c κs within =
    let x = g.X.Executor in
    let p = g.W.Surroundings in
    let m = g.met.X.Executor in
    let inv = c.loop-at.invariant.0 in
    let kept = c.loop-at.invariant.1 in
    let turned = c.in_ok-at.ensures in
    let a = turned_inputs x p m.kept_gives m.kept_valid m.own_links inv c.loop-at.invariant.2 c.turn.new.self
    c.turn.new.world turned.world.stock turned.world.batch turned.world.grows turned.world.others
    turned.ours in
    let plan = c.requires.plan in
    let m_asked = rw c.in-Ask.is at turned.asked in
    let at_is : c.in-Ask.at ≡ 1 =
    at_body _ _ _ c.if-at-eq0.false m_asked.0 (ap arity kept.node_kept) plan.1 in
    let asked = rw at_is at m_asked in
    let batch : c.args.call.soft ≤ p.batch c.turn.new.world =
    rw (turned.world.batch, kept.batch_kept) c.requires.batch in
    let fell = c.decreases in
    let lower : height (tree_plan x p c.loop-at.body) * 2 + 1 < t =
    rw kept.body_plan_kept (omega (arith, fell)) in (
      lower,
      (
        within.0,
        (
          within.1,
          (
            a.body_is.input_valid asked.1,
            (
              rw (turned.world.stock, kept.stock_kept, kept.body_plan_kept) plan.3,
              (asked.2, (at_most asked.7 batch, a.body_is.may_ask asked.1 _ asked.4)),
            ),
          ),
        ),
      ),
    )

pub run_node-take-requires-clause-node : goal.run_node-take-requires-clause-node
run_node-take-requires-clause-node g t c = (
  (g.W.Surroundings.stock c.args.world.now).facts,
  rw (c.in_ok-at.ensures.node.node_is, c.loop-at.invariant.1.node_kept) c.requires.plan.6,
)

pub run_node-take-requires-else-at-eq0-clause-node : goal.run_node-take-requires-else-at-eq0-clause-node
run_node-take-requires-else-at-eq0-clause-node g t c = (
  (g.W.Surroundings.stock c.args.world.now).facts,
  rw (c.in_ok-at.ensures.node.node_is, c.loop-at.invariant.1.node_kept) c.requires.plan.6,
)

pub run_node-restart-requires : goal.run_node-restart-requires
run_node-restart-requires g t c = record {
  plan = (
    (g.W.Surroundings.stock c.args.world.now).facts,
    rw c.loop-at.invariant.1.body_plan_kept c.requires.plan.3,
  );
}

-- ---- after its input was pulled

pub run_node-loop-at-smaller-in-Continue-branch-4 : goal.run_node-loop-at-smaller-in-Continue-branch-4
run_node-loop-at-smaller-in-Continue-branch-4 g t c =
    let x = g.X.Executor in
    let p = g.W.Surroundings in
    let m = g.met.X.Executor in
    let links = c.loop-at.invariant.2 in
    let turned = c.in_ok-at.ensures in
    let x1 = c.turn.new.self in
    let w1 = c.turn.new.world in
    let a = turned_inputs x p m.kept_gives m.kept_valid m.own_links c.loop-at.invariant.0 links x1 w1
    turned.world.stock turned.world.batch turned.world.grows turned.world.others turned.ours in
    let at_is : c.in-Ask.at ≡ 0 = c.if-at-eq0.true in
    let inputs = rw (c.in-Ask.is, at_is) at turned.inputs in
    let m_budget = rw c.in-Ask.is at turned.budget in
    let m_waits_left = rw c.in-Ask.is at turned.waits_left in
    let pulled = c.in_ok-step-in-Ask.ensures in
    let taken = c.in_ok-take-in-Ask.ensures in
    let node_is = turned.node.node_is ∙ c.loop-at.invariant.1.node_kept in
    let some = c.requires.plan.0 in
    let step = c.in_ok-step-in-Ask.step in
    let fell = below_pulled x p m.kept_budget c.args.x.now c.loop-at.x x1 c.take.new.self c.args.body.now
    c.loop-at.below c.pull.new.self c.loop-at.body c.loop-at.world w1 c.pull.new.world (reported step)
    (unless_waiting step.progress) a turned.world.stock pulled.world.stock
    (λ l o. pulled.world.others l (m.own_links x1 w1 turned.valid l o) (a.apart_below l o))
    (λ s l o. pulled.world.others l (is_below (a.body_links s l o) turned.world.grows)
    (λ q. links.between l q (s, o)))
    (taken.started 1 ∙ (inputs 1).0) (λ k f. turned.node.row_cost_is k f ∙ c.loop-at.invariant.1.row_cost_kept k f)
    m_budget (of_inputs node_is some taken.budget c.pull.new.world) pulled.budget in
    falls _ _ _ _ (unless_waiting step.progress) fell
    (more_waits_left _ _ _ _ (of_inputs node_is some taken.waits_left) m_waits_left)

pub run_node-loop-at-preserved-in-Continue-branch-4 : goal.run_node-loop-at-preserved-in-Continue-branch-4
run_node-loop-at-preserved-in-Continue-branch-4 g t c =
    let x = g.X.Executor in
    let p = g.W.Surroundings in
    let m = g.met.X.Executor in
    let inv = c.loop-at.invariant.0 in
    let kept = c.loop-at.invariant.1 in
    let links = c.loop-at.invariant.2 in
    let turned = c.in_ok-at.ensures in
    let below = c.loop-at.below in
    let body = c.loop-at.body in
    let w = c.loop-at.world in
    let x1 = c.turn.new.self in
    let w1 = c.turn.new.world in
    let w2 = c.pull.new.world in
    let a = turned_inputs x p m.kept_gives m.kept_valid m.own_links inv links x1 w1
    turned.world.stock turned.world.batch turned.world.grows turned.world.others turned.ours in
    let at_is : c.in-Ask.at ≡ 0 = c.if-at-eq0.true in
    let asked = rw at_is at (rw c.in-Ask.is at turned.asked) in
    let inputs = rw (c.in-Ask.is, at_is) at turned.inputs in
    let stuck = rw (c.in-Ask.is, at_is) at turned.stuck in
    let m_unreported = rw c.in-Ask.is at turned.unreported in
    let m_leads = rw c.in-Ask.is at turned.leads in
    let m_budget = rw c.in-Ask.is at turned.budget in
    let m_may = rw c.in-Ask.is at turned.may in
    let m_busy = rw c.in-Ask.is at turned.busy in
    let pulled = c.in_ok-step-in-Ask.ensures in
    let taken = c.in_ok-take-in-Ask.ensures in
    let node_is = turned.node.node_is ∙ c.loop-at.invariant.1.node_kept in
    let some = c.requires.plan.0 in
    let step = c.in_ok-step-in-Ask.step in
    let led = pulled.leads in
    let plan = tree_plan x p c.args.body.now in
    let below_plan = tree_plan x p c.args.below.now in
    let exact = node_exact x p c.args.x.now c.args.below.now c.args.body.now in
    let exact_pulled : Within exact (exact_tree (tree_plan x p below)) =
    λ k i. rw kept.plan_kept (exact_below (x.node c.args.x.now) below_plan plan k i) in
    let unskipped = rw c.in-Ask.is at turned.unskipped in
    let exact_turned : Within exact (exact_at (x.node c.loop-at.x)) =
    λ k i. rw kept.node_kept (exact_node (x.node c.args.x.now) below_plan plan k i) in
    let started_is : (j : ℕ) → x.started c.take.new.self j ≡ x.started c.loop-at.x j =
    λ j. taken.started j ∙ (inputs j).0 in
    let x_links : (l : ℕ) → x.ours x1 l → l < p.links w1 = m.own_links x1 w1 turned.valid in
    let x_kept : (l : ℕ) → x.ours x1 l → p.flight w2 l ≡ p.flight w1 l =
    λ l o. pulled.world.others l (x_links l o) (a.apart_below l o) in
    let d_kept : x.started c.loop-at.x 1 ≡ true → (l : ℕ) → TreeOwn x p body l
    → p.flight w2 l ≡ p.flight w1 l =
    λ s l o. pulled.world.others l (is_below (a.body_links s l o) turned.world.grows)
    (λ q. links.between l q (s, o)) in
    let fell = below_pulled x p m.kept_budget c.args.x.now c.loop-at.x x1 c.take.new.self c.args.body.now
    below c.pull.new.self body w w1 w2 (reported step) (unless_waiting step.progress) a turned.world.stock
    pulled.world.stock
    x_kept d_kept (started_is 1) (λ k f. turned.node.row_cost_is k f ∙ kept.row_cost_kept k f)
    m_budget (of_inputs node_is some taken.budget w2) pulled.budget in (
      record {
        executor_valid = taken.valid w2
            (m.kept_valid x1 w1 w2 pulled.world.stock pulled.world.batch pulled.world.grows x_kept
            turned.valid);
        below_is = pulled_input step c.in-Ask.ask pulled.valid (started_is 0 ∙ asked.1)
            (λ q h. (let k = taken.follows q h in (k.0, k.1 _ asked.3))) pulled.may
            (λ e. elim (taken.ended 0 e) [
              | inl o ↦ absurd (asked.5 (sym (inputs 0).1 ∙ o))
              | inr d ↦ (d.1, λ h. d.2 _ asked.3 h)
            ])
            (rw pulled.plan pulled.done)
            (λ q. elim q [
              | inl a ↦ elim (taken.waited 0 a) [ inl b ↦ absurd (asked.6 ((inputs 0).2 b)) | inr b ↦ b.1 ]
              | inr a ↦ elim (taken.stuck 0 a.1) [ inl b ↦ absurd (stuck.0 b) | inr b ↦ b.1 ]
            ])
            pulled.waiting;
        body_is = input_weaker
            (input_kept x p m.kept_gives m.kept_valid body w1 w2 pulled.world.stock pulled.world.batch
            pulled.world.grows d_kept a.body_is)
            (started_is 1)
            (λ e. elim (taken.ended 1 e) [ inl o ↦ sym (inputs 1).1 ∙ o | inr d ↦ absurd (one_zero d.0) ])
            (λ q. elim q [
              | inl a ↦ elim (taken.waited 1 a) [ inl b ↦ inl ((inputs 1).2 b) | inr b ↦ absurd (one_zero b.0) ]
              | inr a ↦ elim (taken.stuck 1 a.1) [
                | inl b ↦ inr (a.0, stuck.1 1 one_zero b)
                | inr b ↦ absurd (one_zero b.0)
              ]
            ])
            (λ q h. (inputs 1).3 one_zero q (taken.asks 1 q one_zero h));
        begun_is = started_is 0 ∙ inv.begun_is;
        reads = read_below (x.node c.args.x.now) below_plan c.args.call.offset c.in-Ask.ask.offset (x.held c.loop-at.x)
            (x.held x1) (x.held c.take.new.self)
            c.args.tally.now.scanned_full c.loop-at.tally.scanned_full c.turn.new.tally.scanned_full
            c.pull.new.tally.scanned_full step inv.reads (rw kept.node_kept at (rw c.in-Ask.is at turned.reads))
            (rw kept.plan_kept at pulled.reads)
            (λ h l. (rw kept.node_kept at unskipped) filtered (hands_exact (x.node c.args.x.now) h l))
            (rw node_is at (of_inputs node_is some taken.holds));
        added = plus inv.added (plus m_leads.0 led.0);
        rises = rises_then p _ _ _ _ _ _ _ _ inv.rises (rises_then p _ _ _ _ _ _ _ _
            (rises_weaker p _ _ _ _ m_leads.0 (λ k i. (i.0, exact_turned k i.1)) m_leads.1)
            (rises_weaker p _ _ _ _ led.0
            (λ k i. (unskipped k (exact_turned k i.1) i.0, exact_pulled k i.1)) led.1));
        leads = leads_first {v = exact} {Below = TreeRests x p below w} {Body = TreeRests x p body w}
            {Body' = TreeRests x p body w2} step inv.leads (λ ins r ends h. m_leads.2 exact exact_turned 0 plan ins r ends h)
            (λ r h. (let o = led.2 r h in (
              o.0,
              o.1,
              o.2,
              prefixed_weaker _ led.0 r o.1 exact_pulled o.3,
              tree_kept_rests x p m.kept_gives below w w1 turned.world.stock a.below_kept o.1 o.4,
            )))
            (λ s. started_is 1 ∙ s)
            (λ s r h. tree_kept_rests x p m.kept_gives body w w1 turned.world.stock (a.body_kept s) r
            (tree_kept_rests x p m.kept_gives body w1 w2 pulled.world.stock (d_kept s) r h))
            ((of_inputs node_is some taken.unreported).0 ∙ ap (λ n. n + step.skipped) (m_unreported 0))
            (λ j h. (of_inputs node_is some taken.unreported).1 j h ∙ m_unreported j) asked.5
            (λ j e. taken.stays j ((inputs j).1 ∙ e))
            (λ s0 s ins' ins q b r l0 l1 ahead e0 e1 os ends h.
            (let o = of_inputs node_is some taken.leads exact w2 0 plan led.0 s0 s ins' ins
            q b r (l0 ∙ sym (m_unreported 0)) l1 ahead e0 e1 os ends h in
            (o.0, o.1, m.kept_gives x1 w1 w2 pulled.world.stock x_kept 0 plan ins o.0 o.2)));
      },
      record {
        node_kept = taken.node.node_is ∙ turned.node.node_is ∙ kept.node_kept;
        plan_kept = pulled.plan ∙ kept.plan_kept;
        body_plan_kept = kept.body_plan_kept;
        full_kept = λ f. taken.node.full_is f ∙ turned.node.full_is f ∙ kept.full_kept f;
        row_cost_kept = λ k f. taken.node.row_cost_is k f ∙ turned.node.row_cost_is k f ∙ kept.row_cost_kept k f;
        below_full_kept = pulled.full ∙ kept.below_full_kept;
        body_full_kept = kept.body_full_kept;
        stock_kept = pulled.world.stock ∙ turned.world.stock ∙ kept.stock_kept;
        batch_kept = pulled.world.batch ∙ turned.world.batch ∙ kept.batch_kept;
        grows = at_most kept.grows (at_most turned.world.grows pulled.world.grows);
        deliveries_kept = pulled.world.deliveries ∙ turned.world.deliveries ∙ kept.deliveries_kept;
        may_come = taken.may c.args.port _ m_may;
        other_ports = λ q d n h. taken.may q d (turned.ports q d n (kept.other_ports q d n h));
        idle = λ z q. m_busy z (taken.busy q);
        budget_kept = le_more _ _ _ _ fell kept.budget_kept;
      },
      record {
        from_below = λ l o b. elim (pulled.ours l b) [
          | inl b ↦ a.apart_below l (taken.ours l o) b
          | inr q ↦ not_new (x_links l (taken.ours l o)) q
        ];
        from_body = λ l o d. a.apart_body (sym (started_is 1) ∙ d.0) l (taken.ours l o) d.1;
        between = λ l b d. (let s = sym (started_is 1) ∙ d.0 in elim (pulled.ours l b) [
          | inl q ↦ links.between l q (s, d.1)
          | inr q ↦ not_new (a.body_links s l d.1) (at_most turned.world.grows q)
        ]);
        ours_new = λ l o. elim o [
          | inl o ↦ elim (turned.ours l (taken.ours l o)) [
            | inl q ↦ links.ours_new l (inl q)
            | inr q ↦ inr (at_most kept.grows q)
          ]
          | inr o ↦ elim o [
            | inl b ↦ elim (pulled.ours l b) [
              | inl q ↦ links.ours_new l (inr (inl q))
              | inr q ↦ inr (at_most kept.grows (at_most turned.world.grows q))
            ]
            | inr d ↦ links.ours_new l (inr (inr (sym (started_is 1) ∙ d.0, d.1)))
          ]
        ];
        others = λ l n no.
            pulled.world.others l (is_below n (at_most kept.grows turned.world.grows))
            (λ q. elim (links.ours_new l (inr (inl q))) [ inl z ↦ no z | inr z ↦ not_new n z ])
            ∙ turned.world.others l (is_below n kept.grows)
            (λ q. elim (links.ours_new l (inl q)) [ inl z ↦ no z | inr z ↦ not_new n z ])
            ∙ links.others l n no;
      },
    )

-- ---- after its body was pulled

pub run_node-loop-at-smaller-in-Continue-branch-6 : goal.run_node-loop-at-smaller-in-Continue-branch-6
run_node-loop-at-smaller-in-Continue-branch-6 g t c =
    let x = g.X.Executor in
    let p = g.W.Surroundings in
    let m = g.met.X.Executor in
    let kept = c.loop-at.invariant.1 in
    let links = c.loop-at.invariant.2 in
    let turned = c.in_ok-at.ensures in
    let x1 = c.turn.new.self in
    let w1 = c.turn.new.world in
    let w2 = c.pull-else-at-eq0.new.world in
    let a = turned_inputs x p m.kept_gives m.kept_valid m.own_links c.loop-at.invariant.0 links x1 w1
    turned.world.stock turned.world.batch turned.world.grows turned.world.others turned.ours in
    let m_asked = rw c.in-Ask.is at turned.asked in
    let at_is : c.in-Ask.at ≡ 1 =
    at_body _ _ _ c.if-at-eq0.false m_asked.0 (ap arity kept.node_kept) c.requires.plan.1 in
    let asked = rw at_is at m_asked in
    let begun : x.started c.loop-at.x 1 ≡ true = asked.1 in
    let inputs = rw (c.in-Ask.is, at_is) at turned.inputs in
    let m_budget = rw c.in-Ask.is at turned.budget in
    let m_waits_left = rw c.in-Ask.is at turned.waits_left in
    let pulled = c.in_ok-step-in-Ask-2.ensures in
    let taken = c.in_ok-take-in-Ask-2.ensures in
    let node_is = turned.node.node_is ∙ c.loop-at.invariant.1.node_kept in
    let some = c.requires.plan.0 in
    let step = c.in_ok-step-in-Ask-2.step in
    let fell = body_pulled x p m.kept_budget c.args.x.now c.loop-at.x x1 c.take-else-at-eq0.new.self
    c.args.body.now
    c.loop-at.below c.loop-at.body c.pull-else-at-eq0.new.self c.loop-at.world w1 w2 (reported step)
    (unless_waiting step.progress) a turned.world.stock pulled.world.stock
    (λ l o. pulled.world.others l (m.own_links x1 w1 turned.valid l o) (a.apart_body begun l o))
    (λ l o. pulled.world.others l (is_below (a.below_links l o) turned.world.grows)
    (λ q. links.between l o (begun, q)))
    begun (taken.started 1 ∙ (inputs 1).0 ∙ begun)
    (λ k f. turned.node.row_cost_is k f ∙ kept.row_cost_kept k f) m_budget
    (of_inputs node_is some taken.budget w2) pulled.budget in
    falls _ _ _ _ (unless_waiting step.progress) fell
    (more_waits_left _ _ _ _ (of_inputs node_is some taken.waits_left) m_waits_left)

pub run_node-loop-at-preserved-in-Continue-branch-6 : goal.run_node-loop-at-preserved-in-Continue-branch-6
run_node-loop-at-preserved-in-Continue-branch-6 g t c =
    let x = g.X.Executor in
    let p = g.W.Surroundings in
    let m = g.met.X.Executor in
    let inv = c.loop-at.invariant.0 in
    let kept = c.loop-at.invariant.1 in
    let links = c.loop-at.invariant.2 in
    let turned = c.in_ok-at.ensures in
    let below = c.loop-at.below in
    let body = c.loop-at.body in
    let w = c.loop-at.world in
    let x1 = c.turn.new.self in
    let w1 = c.turn.new.world in
    let w2 = c.pull-else-at-eq0.new.world in
    let a = turned_inputs x p m.kept_gives m.kept_valid m.own_links inv links x1 w1
    turned.world.stock turned.world.batch turned.world.grows turned.world.others turned.ours in
    let m_asked = rw c.in-Ask.is at turned.asked in
    let at_is : c.in-Ask.at ≡ 1 =
    at_body _ _ _ c.if-at-eq0.false m_asked.0 (ap arity kept.node_kept) c.requires.plan.1 in
    let asked = rw at_is at m_asked in
    let begun : x.started c.loop-at.x 1 ≡ true = asked.1 in
    let inputs = rw (c.in-Ask.is, at_is) at turned.inputs in
    let stuck = rw (c.in-Ask.is, at_is) at turned.stuck in
    let m_unreported = rw c.in-Ask.is at turned.unreported in
    let m_leads = rw c.in-Ask.is at turned.leads in
    let m_budget = rw c.in-Ask.is at turned.budget in
    let m_may = rw c.in-Ask.is at turned.may in
    let m_busy = rw c.in-Ask.is at turned.busy in
    let pulled = c.in_ok-step-in-Ask-2.ensures in
    let taken = c.in_ok-take-in-Ask-2.ensures in
    let node_is = turned.node.node_is ∙ c.loop-at.invariant.1.node_kept in
    let some = c.requires.plan.0 in
    let step = c.in_ok-step-in-Ask-2.step in
    let led = pulled.leads in
    let plan = tree_plan x p c.args.body.now in
    let below_plan = tree_plan x p c.args.below.now in
    let exact = node_exact x p c.args.x.now c.args.below.now c.args.body.now in
    let exact_pulled : Within exact (exact_tree (tree_plan x p body)) =
    λ k i. rw kept.body_plan_kept (exact_body (x.node c.args.x.now) below_plan plan k i) in
    let unskipped = rw c.in-Ask.is at turned.unskipped in
    let exact_turned : Within exact (exact_at (x.node c.loop-at.x)) =
    λ k i. rw kept.node_kept (exact_node (x.node c.args.x.now) below_plan plan k i) in
    let started_is : (j : ℕ) → x.started c.take-else-at-eq0.new.self j ≡ x.started c.loop-at.x j =
    λ j. taken.started j ∙ (inputs j).0 in
    let x_links : (l : ℕ) → x.ours x1 l → l < p.links w1 = m.own_links x1 w1 turned.valid in
    let x_kept : (l : ℕ) → x.ours x1 l → p.flight w2 l ≡ p.flight w1 l =
    λ l o. pulled.world.others l (x_links l o) (a.apart_body begun l o) in
    let b_kept : (l : ℕ) → TreeOwn x p below l → p.flight w2 l ≡ p.flight w1 l =
    λ l o. pulled.world.others l (is_below (a.below_links l o) turned.world.grows)
    (λ q. links.between l o (begun, q)) in
    let fell = body_pulled x p m.kept_budget c.args.x.now c.loop-at.x x1 c.take-else-at-eq0.new.self
    c.args.body.now
    below body c.pull-else-at-eq0.new.self w w1 w2 (reported step) (unless_waiting step.progress) a
    turned.world.stock pulled.world.stock x_kept b_kept begun (started_is 1 ∙ begun)
    (λ k f. turned.node.row_cost_is k f ∙ kept.row_cost_kept k f) m_budget
    (of_inputs node_is some taken.budget w2) pulled.budget in (
      record {
        executor_valid = taken.valid w2
            (m.kept_valid x1 w1 w2 pulled.world.stock pulled.world.batch pulled.world.grows x_kept
            turned.valid);
        below_is = input_weaker
            (input_kept x p m.kept_gives m.kept_valid below w1 w2 pulled.world.stock pulled.world.batch
            pulled.world.grows (λ s. b_kept) a.below_is)
            (started_is 0)
            (λ e. elim (taken.ended 0 e) [ inl o ↦ sym (inputs 0).1 ∙ o | inr d ↦ absurd (zero_one d.0) ])
            (λ q. elim q [
              | inl a ↦ elim (taken.waited 0 a) [ inl b ↦ inl ((inputs 0).2 b) | inr b ↦ absurd (zero_one b.0) ]
              | inr a ↦ elim (taken.stuck 0 a.1) [
                | inl b ↦ inr (a.0, stuck.1 0 zero_one b)
                | inr b ↦ absurd (zero_one b.0)
              ]
            ])
            (λ q h. (inputs 0).3 zero_one q (taken.asks 0 q zero_one h));
        body_is = pulled_input step c.in-Ask.ask pulled.valid (started_is 1 ∙ asked.1)
            (λ q h. (let k = taken.follows q h in (k.0, k.1 _ asked.3))) pulled.may
            (λ e. elim (taken.ended 1 e) [
              | inl o ↦ absurd (asked.5 (sym (inputs 1).1 ∙ o))
              | inr d ↦ (d.1, λ h. d.2 _ asked.3 h)
            ])
            (rw pulled.plan pulled.done)
            (λ q. elim q [
              | inl a ↦ elim (taken.waited 1 a) [ inl b ↦ absurd (asked.6 ((inputs 1).2 b)) | inr b ↦ b.1 ]
              | inr a ↦ elim (taken.stuck 1 a.1) [ inl b ↦ absurd (stuck.0 b) | inr b ↦ b.1 ]
            ])
            pulled.waiting;
        begun_is = started_is 0 ∙ inv.begun_is;
        reads = read_body (x.node c.args.x.now) below_plan c.args.call.offset (x.held c.take-else-at-eq0.new.self)
            c.args.tally.now.scanned_full c.pull-else-at-eq0.new.tally.scanned_full
            (rw kept.node_kept at asked.0);
        added = plus inv.added (plus m_leads.0 led.0);
        rises = rises_then p _ _ _ _ _ _ _ _ inv.rises (rises_then p _ _ _ _ _ _ _ _
            (rises_weaker p _ _ _ _ m_leads.0 (λ k i. (i.0, exact_turned k i.1)) m_leads.1)
            (rises_weaker p _ _ _ _ led.0
            (λ k i. (unskipped k (exact_turned k i.1) i.0, exact_pulled k i.1)) led.1));
        leads = leads_second {v = exact} {Below = TreeRests x p below w} {Body = TreeRests x p body w}
            {Below' = TreeRests x p below w2} step inv.leads (λ ins r ends h. m_leads.2 exact exact_turned 0 plan ins r ends h)
            (λ r h. (let o = led.2 r h in (
              o.0,
              o.1,
              o.2,
              prefixed_weaker _ led.0 r o.1 exact_pulled o.3,
              tree_kept_rests x p m.kept_gives body w w1 turned.world.stock (a.body_kept begun) o.1 o.4,
            )))
            (started_is 1 ∙ begun)
            (λ r h. tree_kept_rests x p m.kept_gives below w w1 turned.world.stock a.below_kept r
            (tree_kept_rests x p m.kept_gives below w1 w2 pulled.world.stock b_kept r h))
            ((of_inputs node_is some taken.unreported).0 ∙ ap (λ n. n + step.skipped) (m_unreported 1))
            (λ j h. (of_inputs node_is some taken.unreported).1 j h ∙ m_unreported j) asked.5
            (λ j e. taken.stays j ((inputs j).1 ∙ e))
            (λ s0 s ins' ins q b r l0 l1 ahead e0 e1 os ends h.
            (let o = of_inputs node_is some taken.leads exact w2 0 plan led.0 s0 s ins' ins
            q b r (l0 ∙ sym (m_unreported 1)) l1 ahead e0 e1 os ends h in
            (o.0, o.1, m.kept_gives x1 w1 w2 pulled.world.stock x_kept 0 plan ins o.0 o.2)));
      },
      record {
        node_kept = taken.node.node_is ∙ turned.node.node_is ∙ kept.node_kept;
        plan_kept = kept.plan_kept;
        body_plan_kept = pulled.plan ∙ kept.body_plan_kept;
        full_kept = λ f. taken.node.full_is f ∙ turned.node.full_is f ∙ kept.full_kept f;
        row_cost_kept = λ k f. taken.node.row_cost_is k f ∙ turned.node.row_cost_is k f ∙ kept.row_cost_kept k f;
        below_full_kept = kept.below_full_kept;
        body_full_kept = pulled.full ∙ kept.body_full_kept;
        stock_kept = pulled.world.stock ∙ turned.world.stock ∙ kept.stock_kept;
        batch_kept = pulled.world.batch ∙ turned.world.batch ∙ kept.batch_kept;
        grows = at_most kept.grows (at_most turned.world.grows pulled.world.grows);
        deliveries_kept = pulled.world.deliveries ∙ turned.world.deliveries ∙ kept.deliveries_kept;
        may_come = taken.may c.args.port _ m_may;
        other_ports = λ q d n h. taken.may q d (turned.ports q d n (kept.other_ports q d n h));
        idle = λ z q. m_busy z (taken.busy q);
        budget_kept = le_more _ _ _ _ fell kept.budget_kept;
      },
      record {
        from_below = λ l o b. a.apart_below l (taken.ours l o) b;
        from_body = λ l o d. elim (pulled.ours l d.1) [
          | inl q ↦ a.apart_body begun l (taken.ours l o) q
          | inr q ↦ not_new (x_links l (taken.ours l o)) q
        ];
        between = λ l b d. elim (pulled.ours l d.1) [
          | inl q ↦ links.between l b (begun, q)
          | inr q ↦ not_new (a.below_links l b) (at_most turned.world.grows q)
        ];
        ours_new = λ l o. elim o [
          | inl o ↦ elim (turned.ours l (taken.ours l o)) [
            | inl q ↦ links.ours_new l (inl q)
            | inr q ↦ inr (at_most kept.grows q)
          ]
          | inr o ↦ elim o [
            | inl b ↦ links.ours_new l (inr (inl b))
            | inr d ↦ elim (pulled.ours l d.1) [
              | inl q ↦ links.ours_new l (inr (inr (begun, q)))
              | inr q ↦ inr (at_most kept.grows (at_most turned.world.grows q))
            ]
          ]
        ];
        others = λ l n no.
            pulled.world.others l (is_below n (at_most kept.grows turned.world.grows))
            (λ q. elim (links.ours_new l (inr (inr (begun, q)))) [ inl z ↦ no z | inr z ↦ not_new n z ])
            ∙ turned.world.others l (is_below n kept.grows)
            (λ q. elim (links.ours_new l (inl q)) [ inl z ↦ no z | inr z ↦ not_new n z ])
            ∙ links.others l n no;
      },
    )

-- ---- after its body began

pub run_node-loop-at-smaller : goal.run_node-loop-at-smaller
run_node-loop-at-smaller g t c =
    let x = g.X.Executor in
    let p = g.W.Surroundings in
    let m = g.met.X.Executor in
    let kept = c.loop-at.invariant.1 in
    let turned = c.in_ok-at.ensures in
    let x1 = c.turn.new.self in
    let w1 = c.turn.new.world in
    let a = turned_inputs x p m.kept_gives m.kept_valid m.own_links c.loop-at.invariant.0
    c.loop-at.invariant.2
    x1 w1 turned.world.stock turned.world.batch turned.world.grows turned.world.others turned.ours in
    let at_is : c.in-Start.input ≡ 1 = (rw c.in-Start.is at turned.asked).0 in
    let inputs = rw (c.in-Start.is, at_is) at turned.inputs in
    let m_budget = rw (c.in-Start.is, at_is) at turned.budget in
    let m_waits_left = rw c.in-Start.is at turned.waits_left in
    let restarted = c.in_ok-restart-in-Start.ensures in
    let full = rw (restarted.full ∙ kept.body_full_kept) at (restarted.budget w1) in
    starts _ _ _ _ (body_begun x p m.kept_budget c.args.x.now c.loop-at.x x1 c.args.body.now c.loop-at.below
    c.loop-at.body c.restart.new.self c.loop-at.world w1 a turned.world.stock inputs.0.0 kept.row_cost_kept m_budget
    full) m_waits_left

pub run_node-loop-at-preserved : goal.run_node-loop-at-preserved
run_node-loop-at-preserved g t c =
    let x = g.X.Executor in
    let p = g.W.Surroundings in
    let m = g.met.X.Executor in
    let inv = c.loop-at.invariant.0 in
    let kept = c.loop-at.invariant.1 in
    let links = c.loop-at.invariant.2 in
    let turned = c.in_ok-at.ensures in
    let below = c.loop-at.below in
    let body = c.loop-at.body in
    let w = c.loop-at.world in
    let x1 = c.turn.new.self in
    let w1 = c.turn.new.world in
    let a = turned_inputs x p m.kept_gives m.kept_valid m.own_links inv links x1 w1
    turned.world.stock turned.world.batch turned.world.grows turned.world.others turned.ours in
    let at_is : c.in-Start.input ≡ 1 = (rw c.in-Start.is at turned.asked).0 in
    let inputs = rw (c.in-Start.is, at_is) at turned.inputs in
    let stuck = rw (c.in-Start.is, at_is) at turned.stuck in
    let m_unreported = rw (c.in-Start.is, at_is) at turned.unreported in
    let m_leads = rw (c.in-Start.is, at_is) at turned.leads in
    let m_budget = rw (c.in-Start.is, at_is) at turned.budget in
    let m_may = rw c.in-Start.is at turned.may in
    let m_busy = rw c.in-Start.is at turned.busy in
    let restarted = c.in_ok-restart-in-Start.ensures in
    let full = rw (restarted.full ∙ kept.body_full_kept) at (restarted.budget w1) in
    let fell = body_begun x p m.kept_budget c.args.x.now c.loop-at.x x1 c.args.body.now below
    body c.restart.new.self w w1 a turned.world.stock inputs.0.0 kept.row_cost_kept m_budget full in
    let plan = tree_plan x p c.args.body.now in
    let below_plan = tree_plan x p c.args.below.now in
    let exact = node_exact x p c.args.x.now c.args.below.now c.args.body.now in
    let exact_of_body : Within exact (exact_tree (tree_plan x p body)) =
    λ k i. rw kept.body_plan_kept (exact_body (x.node c.args.x.now) below_plan plan k i) in
    let exact_turned : Within exact (exact_at (x.node c.loop-at.x)) =
    λ k i. rw kept.node_kept (exact_node (x.node c.args.x.now) below_plan plan k i) in
    let produced = λ (r : Rest). Produces plan (p.stock w) (row_of c.in-Start.row) r in
    let any = choose exact (x.started c.loop-at.x 1) (x.ended c.loop-at.x 1) (TreeRests x p body w)
    (λ s e r q. over_weaker exact (exact_tree (tree_plan x p body)) r exact_of_body
    (inv.body_is.none_left s e r q)) (λ s. tree_some x p m.some body w (inv.body_is.input_valid s)) in
    let below_turned = inputs.1 0 zero_one in (
      record {
        executor_valid = turned.valid;
        below_is = input_weaker a.below_is below_turned.0 (λ e. sym below_turned.1 ∙ e)
            (λ q. elim q [ inl a ↦ inl (below_turned.2 a) | inr a ↦ inr (a.0, stuck.1 0 zero_one a.1) ])
            below_turned.3;
        body_is = record {
          input_valid = λ s. restarted.valid w1;
          may_ask = λ s q o. restarted.may q (inputs.0.3 q o);
          none_left = λ s e. absurd (false≢true (sym inputs.0.1 ∙ e));
          in_flight = λ q. elim q [ inl a ↦ absurd (inputs.0.2 a) | inr a ↦ absurd (stuck.0 a.1) ];
        };
        begun_is = below_turned.0 ∙ inv.begun_is;
        reads = read_on (x.node c.args.x.now) below_plan c.args.call.offset (x.held c.loop-at.x) (x.held x1)
            c.args.tally.now.scanned_full c.loop-at.tally.scanned_full c.turn.new.tally.scanned_full inv.reads
            (rw kept.node_kept at (rw c.in-Start.is at turned.reads));
        added = plus inv.added m_leads.0;
        rises = rises_then p _ _ _ _ _ _ _ _ inv.rises
            (rises_weaker p _ _ _ _ m_leads.0 (λ k i. (i.0, exact_turned k i.1)) m_leads.1);
        leads = leads_started {v = exact} produced inv.leads
            (λ ins ins' r o b ends h. m_leads.2 exact exact_turned 0 plan ins ins' r o b ends h)
            (λ r h. (let o = restarted.produces w1 r h in
            rw (restarted.plan ∙ kept.body_plan_kept, turned.world.stock) at o))
            inputs.0.0 (λ r h. tree_kept_rests x p m.kept_gives below w w1 turned.world.stock a.below_kept r h) any
            m_unreported.0 m_unreported.1 (λ j n e. (inputs.1 j n).1 ∙ e);
      },
      record {
        node_kept = turned.node.node_is ∙ kept.node_kept;
        plan_kept = kept.plan_kept;
        body_plan_kept = restarted.plan ∙ kept.body_plan_kept;
        full_kept = λ f. turned.node.full_is f ∙ kept.full_kept f;
        row_cost_kept = λ k f. turned.node.row_cost_is k f ∙ kept.row_cost_kept k f;
        below_full_kept = kept.below_full_kept;
        body_full_kept = restarted.full ∙ kept.body_full_kept;
        stock_kept = turned.world.stock ∙ kept.stock_kept;
        batch_kept = turned.world.batch ∙ kept.batch_kept;
        grows = at_most kept.grows turned.world.grows;
        deliveries_kept = turned.world.deliveries ∙ kept.deliveries_kept;
        may_come = m_may;
        other_ports = λ q d n h. turned.ports q d n (kept.other_ports q d n h);
        idle = m_busy;
        budget_kept = le_more _ _ _ _ fell kept.budget_kept;
      },
      record {
        from_below = a.apart_below;
        from_body = λ l o d. absurd (restarted.ours l d.1);
        between = λ l b d. absurd (restarted.ours l d.1);
        ours_new = λ l o. elim o [
          | inl o ↦ elim (turned.ours l o) [
            | inl q ↦ links.ours_new l (inl q)
            | inr q ↦ inr (at_most kept.grows q)
          ]
          | inr o ↦ elim o [ inl b ↦ links.ours_new l (inr (inl b)) | inr d ↦ absurd (restarted.ours l d.1) ]
        ];
        others = λ l n no.
            turned.world.others l (is_below n kept.grows)
            (λ q. elim (links.ours_new l (inl q)) [ inl z ↦ no z | inr z ↦ not_new n z ])
            ∙ links.others l n no;
      },
    )

pub run_node-returns-in-Give-clause-valid : goal.run_node-returns-in-Give-clause-valid
run_node-returns-in-Give-clause-valid g t c =
    let x = g.X.Executor in
    let p = g.W.Surroundings in
    let m = g.met.X.Executor in
    let inv = c.loop-at.invariant.0 in
    let links = c.loop-at.invariant.2 in
    let turned = c.in_ok-at.ensures in
    let a = turned_inputs x p m.kept_gives m.kept_valid m.own_links inv links c.turn.new.self c.turn.new.world
    turned.world.stock turned.world.batch turned.world.grows turned.world.others turned.ours in
    let inputs = rw c.in-Give.is at turned.inputs in
    let stuck = rw c.in-Give.is at turned.stuck in
    record {
      executor_valid = turned.valid;
      below_is = input_weaker a.below_is (inputs 0).0 (λ e. sym (inputs 0).1 ∙ e)
          (λ q. elim q [ inl a ↦ absurd ((inputs 0).2 a) | inr a ↦ stuck 0 a ]) (inputs 0).3;
      body_is = input_weaker a.body_is (inputs 1).0 (λ e. sym (inputs 1).1 ∙ e)
          (λ q. elim q [ inl a ↦ absurd ((inputs 1).2 a) | inr a ↦ stuck 1 a ]) (inputs 1).3;
      begun_is = (inputs 0).0 ∙ inv.begun_is;
      none_unreported = rw c.in-Give.is at turned.unreported;
      none_waits = λ k. (inputs k).2;
      idle = rw c.in-Give.is at turned.busy;
      from_below = a.apart_below;
      from_body = λ l o d. a.apart_body (sym (inputs 1).0 ∙ d.0) l o d.1;
      between = λ l b d. links.between l b (sym (inputs 1).0 ∙ d.0, d.1);
    }

pub run_node-returns-in-Give-clause-leads : goal.run_node-returns-in-Give-clause-leads
run_node-returns-in-Give-clause-leads g t c z =
    let x = g.X.Executor in
    let p = g.W.Surroundings in
    let m = g.met.X.Executor in
    let inv = c.loop-at.invariant.0 in
    let kept = c.loop-at.invariant.1 in
    let turned = c.in_ok-at.ensures in
    let w = c.loop-at.world in
    let x1 = c.turn.new.self in
    let w1 = c.turn.new.world in
    let a = turned_inputs x p m.kept_gives m.kept_valid m.own_links inv c.loop-at.invariant.2 x1 w1
    turned.world.stock turned.world.batch turned.world.grows turned.world.others turned.ours in
    let inputs = rw c.in-Give.is at turned.inputs in
    let m_leads = rw z at (rw c.in-Give.is at turned.leads) in
    let plan = tree_plan x p c.args.body.now in
    let below_plan = tree_plan x p c.args.below.now in
    let exact = node_exact x p c.args.x.now c.args.below.now c.args.body.now in
    let exact_back : Within exact (node_exact x p x1 c.loop-at.below c.loop-at.body) =
    λ k i. rw (turned.node.node_is, kept.node_kept, kept.plan_kept, kept.body_plan_kept) i in
    let exact_turned : Within exact (exact_at (x.node c.loop-at.x)) =
    λ k i. rw kept.node_kept (exact_node (x.node c.args.x.now) below_plan plan k i) in
    let back = leads_given {v = exact} c.in-Give.step inv.leads (m_leads.2 exact exact_turned plan)
    (λ r h. tree_kept_rests x p m.kept_gives c.loop-at.below w w1 turned.world.stock a.below_kept r h)
    (λ s r h. tree_kept_rests x p m.kept_gives c.loop-at.body w w1 turned.world.stock (a.body_kept s) r h)
    (λ s. (inputs 1).0 ∙ s) (λ j e. (inputs j).1 ∙ e) in (
      plus inv.added m_leads.0,
      rises_then p _ _ _ _ _ _ _ _ inv.rises
          (rises_weaker p _ _ _ _ m_leads.0 (λ k i. (i.0, exact_turned k i.1)) m_leads.1),
      λ r h.
          back r (
            h.0,
            (λ k q. over_weaker exact (node_exact x p x1 c.loop-at.below c.loop-at.body) (h.0 k)
                exact_back (h.1 k q)),
            h.2,
            h.3,
            subst (λ b. x.gives x1 w1 0 b h.0 r) kept.body_plan_kept h.4,
          ),
    )

pub run_node-returns-in-Give-clause-beside : goal.run_node-returns-in-Give-clause-beside
run_node-returns-in-Give-clause-beside g t c n =
    let x = g.X.Executor in
    let p = g.W.Surroundings in
    let m = g.met.X.Executor in
    let inv = c.loop-at.invariant.0 in
    let kept = c.loop-at.invariant.1 in
    let turned = c.in_ok-at.ensures in
    let below = c.loop-at.below in
    let body = c.loop-at.body in
    let w = c.loop-at.world in
    let x1 = c.turn.new.self in
    let w1 = c.turn.new.world in
    let a = turned_inputs x p m.kept_gives m.kept_valid m.own_links inv c.loop-at.invariant.2 x1 w1
    turned.world.stock turned.world.batch turned.world.grows turned.world.others turned.ours in
    let inputs = rw c.in-Give.is at turned.inputs in
    let m_others = rw c.in-Give.is at turned.other_ports in
    let plan = tree_plan x p c.args.body.now in
    let below_plan = tree_plan x p c.args.below.now in
    let exact = node_exact x p c.args.x.now c.args.below.now c.args.body.now in
    let exact_back : Within exact (node_exact x p x1 below body) =
    λ k i. rw (turned.node.node_is, kept.node_kept, kept.plan_kept, kept.body_plan_kept) i in
    let exact_turned : Within exact (exact_at (x.node c.loop-at.x)) =
    λ k i. rw kept.node_kept (exact_node (x.node c.args.x.now) below_plan plan k i) in (
      plus inv.added m_others.0,
      rises_then p _ _ _ _ _ _ _ _ inv.rises
          (rises_weaker p _ _ _ _ m_others.0 (λ k i. (i.0, exact_turned k i.1)) m_others.1),
      λ r h.
          leads_beside {v = exact} {Below = TreeRests x p below w} {Body = TreeRests x p body w} {Below' = TreeRests x p below w1}
          {Body' = TreeRests x p body w1} inv.leads
          (λ s ins ins' r lens e ends h.
          m_others.2 exact exact_turned 0 plan s ins ins' r (λ e. n (sym e)) (inl refl) lens e ends h)
          (λ r h. tree_kept_rests x p m.kept_gives below w w1 turned.world.stock a.below_kept r h)
          (λ s r h. tree_kept_rests x p m.kept_gives body w w1 turned.world.stock (a.body_kept s) r h)
          (λ s. (inputs 1).0 ∙ s) (λ j e. (inputs j).1 ∙ e) r (
            h.0,
            (λ k q. over_weaker exact (node_exact x p x1 below body) (h.0 k) exact_back (h.1 k q)),
            h.2,
            h.3,
            subst (λ b. x.gives x1 w1 0 b h.0 r) kept.body_plan_kept h.4,
          ),
    )

pub run_node-returns-in-Give-clause-done : goal.run_node-returns-in-Give-clause-done
run_node-returns-in-Give-clause-done g t c z e =
    let x = g.X.Executor in
    let p = g.W.Surroundings in
    let kept = c.loop-at.invariant.1 in
    let turned = c.in_ok-at.ensures in
    let below = c.loop-at.below in
    let body = c.loop-at.body in
    let plan = tree_plan x p c.args.body.now in
    let below_plan = tree_plan x p c.args.below.now in
    let exact = node_exact x p c.args.x.now c.args.below.now c.args.body.now in
    let exact_back : Within exact (node_exact x p c.turn.new.self below body) =
    λ k i. rw (turned.node.node_is, kept.node_kept, kept.plan_kept, kept.body_plan_kept) i in
    let exact_turned : Within exact (exact_at (x.node c.loop-at.x)) =
    λ k i. rw kept.node_kept (exact_node (x.node c.args.x.now) below_plan plan k i) in
    let m_done = rw z at (rw c.in-Give.is at turned.done) in
    elim (m_done e) [
      | inl h ↦ inl h
      | inr h ↦ inr (λ r q. h exact (λ k i. refl) exact_turned (tree_plan x p body) q.0
          (λ k i. over_weaker exact (node_exact x p c.turn.new.self below body) (q.0 k) exact_back (q.1 k i))
          r q.4)
    ]

pub run_node-returns-in-Give-clause-drained : goal.run_node-returns-in-Give-clause-drained
run_node-returns-in-Give-clause-drained g t c z e few d k l s =
    let turned = c.in_ok-at.ensures in
    let m_drained = rw z at (rw c.in-Give.is at turned.drained) in
    let node_is = turned.node.node_is in
    m_drained e few (rw node_is at d) k (rw node_is at l) s

pub run_node-returns-in-Give-clause-waiting : goal.run_node-returns-in-Give-clause-waiting
run_node-returns-in-Give-clause-waiting g t c z e =
    let x = g.X.Executor in
    let m = g.met.X.Executor in
    let turned = c.in_ok-at.ensures in
    let a = turned_inputs x g.W.Surroundings m.kept_gives m.kept_valid m.own_links c.loop-at.invariant.0
    c.loop-at.invariant.2 c.turn.new.self c.turn.new.world
    turned.world.stock turned.world.batch turned.world.grows turned.world.others turned.ours in
    let inputs = rw c.in-Give.is at turned.inputs in
    let m_waiting = rw c.in-Give.is at turned.waiting in
    let node_arity = ap arity c.loop-at.invariant.1.node_kept in
    elim (m_waiting e) [
      | inl q ↦ elim (of_two (λ k. x.waited c.loop-at.x k ⊎ x.stuck c.loop-at.x k) q.0
          (below_two _ _ _ q.1 node_arity c.requires.plan.1) q.2) [
            | inl s ↦ (let f = a.below_is.in_flight (elim s [ inl o ↦ inl o | inr o ↦ inr (z, o) ])
                in (f.1, inr (inl f.2), f.3))
            | inr s ↦ (let f = a.body_is.in_flight (elim s [ inl o ↦ inl o | inr o ↦ inr (z, o) ])
                in (f.1, inr (inr ((inputs 1).0 ∙ f.0, f.2)), f.3))
          ]
      | inr q ↦ (q.0, inl q.1, q.2)
    ]

pub run_node-returns-in-Give-clause-reads : goal.run_node-returns-in-Give-clause-reads
run_node-returns-in-Give-clause-reads g t c =
    let x = g.X.Executor in
    let p = g.W.Surroundings in
    let inv = c.loop-at.invariant.0 in
    let kept = c.loop-at.invariant.1 in
    let turned = c.in_ok-at.ensures in
    read_given (x.node c.args.x.now) (tree_plan x p c.args.below.now) (tree_plan x p c.args.body.now)
    c.args.call.offset (x.held c.loop-at.x) c.args.tally.now.scanned_full c.loop-at.tally.scanned_full
    c.turn.new.tally.scanned_full c.in-Give.step inv.reads
    (rw kept.node_kept at (rw c.in-Give.is at turned.reads))

pub run_node-returns-in-Give-clause-budget : goal.run_node-returns-in-Give-clause-budget
run_node-returns-in-Give-clause-budget g t c =
    let x = g.X.Executor in
    let m = g.met.X.Executor in
    let turned = c.in_ok-at.ensures in
    let a = turned_inputs x g.W.Surroundings m.kept_gives m.kept_valid m.own_links c.loop-at.invariant.0
    c.loop-at.invariant.2 c.turn.new.self c.turn.new.world
    turned.world.stock turned.world.batch turned.world.grows turned.world.others turned.ours in
    let inputs = rw c.in-Give.is at turned.inputs in
    let m_budget = rw c.in-Give.is at turned.budget in
    node_given x g.W.Surroundings m.kept_budget c.args.x.now c.loop-at.x c.turn.new.self c.args.body.now
    c.loop-at.below
    c.loop-at.body c.loop-at.world c.turn.new.world (reported c.in-Give.step) _ a turned.world.stock
    (inputs 1).0 m_budget
    c.loop-at.invariant.1.budget_kept

pub run_node-returns-in-Give-clause-node : goal.run_node-returns-in-Give-clause-node
run_node-returns-in-Give-clause-node g t c =
    let kept = c.loop-at.invariant.1 in
    let turned = c.in_ok-at.ensures in
    record {
      node_is = turned.node.node_is ∙ kept.node_kept;
      full_is = λ f. turned.node.full_is f ∙ kept.full_kept f;
      row_cost_is = λ k f. turned.node.row_cost_is k f ∙ kept.row_cost_kept k f;
    }

pub run_node-returns-in-Give-clause-world : goal.run_node-returns-in-Give-clause-world
run_node-returns-in-Give-clause-world g t c =
    turned_beside g.X.Executor g.W.Surroundings c.loop-at.invariant.1 c.loop-at.invariant.2 c.turn.new.world
    c.in_ok-at.ensures.world

pub run_node-returns-in-Give-clause-ours : goal.run_node-returns-in-Give-clause-ours
run_node-returns-in-Give-clause-ours g t c l o =
    let kept = c.loop-at.invariant.1 in
    let links = c.loop-at.invariant.2 in
    let turned = c.in_ok-at.ensures in
    let inputs = rw c.in-Give.is at turned.inputs in
    elim o [
      | inl q ↦ elim (turned.ours l q) [
        | inl q ↦ links.ours_new l (inl q)
        | inr q ↦ inr (at_most kept.grows q)
      ]
      | inr q ↦ elim q [
        | inl b ↦ links.ours_new l (inr (inl b))
        | inr d ↦ links.ours_new l (inr (inr (sym (inputs 1).0 ∙ d.0, d.1)))
      ]
    ]

-- ---- faults

pub run_node-returns-in_err-take-in-Ask-clause-world : goal.run_node-returns-in_err-take-in-Ask-clause-world
run_node-returns-in_err-take-in-Ask-clause-world g t c =
    let x = g.X.Executor in
    let p = g.W.Surroundings in
    let kept = c.loop-at.invariant.1 in
    let links = c.loop-at.invariant.2 in
    pulled_beside x p kept links c.turn.new.world c.pull.new.world (TreeOwn x p c.loop-at.below)
    (λ l o. inr (inl o)) (turned_beside x p kept links c.turn.new.world c.in_ok-at.ensures.world)
    c.in_ok-step-in-Ask.ensures.world

pub run_node-returns-in_err-step-in-Ask-2-clause-world : goal.run_node-returns-in_err-step-in-Ask-2-clause-world
run_node-returns-in_err-step-in-Ask-2-clause-world g t c =
    let x = g.X.Executor in
    let p = g.W.Surroundings in
    let kept = c.loop-at.invariant.1 in
    let links = c.loop-at.invariant.2 in
    let asked = rw c.in-Ask.is at c.in_ok-at.ensures.asked in
    let at_is : c.in-Ask.at ≡ 1 =
    at_body _ _ _ c.if-at-eq0.false asked.0 (ap arity kept.node_kept) c.requires.plan.1 in
    pulled_beside x p kept links c.turn.new.world c.pull-else-at-eq0.new.world (TreeOwn x p c.loop-at.body)
    (λ l o. inr (inr ((rw at_is at asked).1, o)))
    (turned_beside x p kept links c.turn.new.world c.in_ok-at.ensures.world) c.pull-else-at-eq0.ensures.world

pub run_node-returns-in_err-take-in-Ask-2-clause-world : goal.run_node-returns-in_err-take-in-Ask-2-clause-world
run_node-returns-in_err-take-in-Ask-2-clause-world g t c =
    let x = g.X.Executor in
    let p = g.W.Surroundings in
    let kept = c.loop-at.invariant.1 in
    let links = c.loop-at.invariant.2 in
    let asked = rw c.in-Ask.is at c.in_ok-at.ensures.asked in
    let at_is : c.in-Ask.at ≡ 1 =
    at_body _ _ _ c.if-at-eq0.false asked.0 (ap arity kept.node_kept) c.requires.plan.1 in
    pulled_beside x p kept links c.turn.new.world c.pull-else-at-eq0.new.world (TreeOwn x p c.loop-at.body)
    (λ l o. inr (inr ((rw at_is at asked).1, o)))
    (turned_beside x p kept links c.turn.new.world c.in_ok-at.ensures.world) c.in_ok-step-in-Ask-2.ensures.world

pub run_node-returns-in_err-step-in-Ask-clause-world : goal.run_node-returns-in_err-step-in-Ask-clause-world
run_node-returns-in_err-step-in-Ask-clause-world g t c =
    let x = g.X.Executor in
    let p = g.W.Surroundings in
    let kept = c.loop-at.invariant.1 in
    let links = c.loop-at.invariant.2 in
    pulled_beside x p kept links c.turn.new.world c.pull.new.world (TreeOwn x p c.loop-at.below)
    (λ l o. inr (inl o)) (turned_beside x p kept links c.turn.new.world c.in_ok-at.ensures.world)
    c.pull.ensures.world

pub run_node-returns-in_err-restart-in-Start-clause-world :
    goal.run_node-returns-in_err-restart-in-Start-clause-world
run_node-returns-in_err-restart-in-Start-clause-world g t c =
    turned_beside g.X.Executor g.W.Surroundings c.loop-at.invariant.1 c.loop-at.invariant.2 c.turn.new.world
    c.in_ok-at.ensures.world
