use Rattle.std.proofs.Common.{ℕ, ◌≡◌, ◌+◌, ◌≤◌, inl, inr, Some, refl, sym, ap, ◌∙◌, subst}
use Rattle.std.specs.Prelude.{slice_get, slice_set}
use Rattle.std.proofs.Math.Nat.{le_refl}
use Rattle.aql_exec.specs.Rests.{Within}
use Rattle.aql_exec.specs.Steps.{unless_waiting, reported}
use Rattle.aql_exec.specs.Operators.{arity, exact_at, exact_tree}
use Rattle.aql_exec.specs.Counting.{nothing}
use Rattle.aql_exec.specs.laws.Counted.{rises_none, rises_then, rises_weaker, prefixed_weaker}
use Rattle.aql_engine.specs.laws.Exactness.{over_weaker}
use Rattle.aql_engine.proofs.Leading.{plus}
use Rattle.aql_engine.proofs.Inputs.{of_inputs, at_most, is_below, pulled_input, input_weaker}
use Rattle.aql_engine.proofs.Budgets.{falls, more_waits_left, le_more}
use Rattle.aql_exec_fragments.specs.Feeds.{no_body, RestsAt, InputIs, exact_over}
use Rattle.aql_exec_fragments.specs.laws.Places.{same_at, some_at, put_here, others_stay, at_set}
use Rattle.aql_exec_fragments.specs.laws.Kept.{later_beside, exact_executor, exact_feed, feed_kept}
use Rattle.aql_exec_fragments.proofs.Leading.{leads_all_init, leads_at, leads_all_given}
use Rattle.aql_exec_fragments.proofs.Pulling.{each_tree, same_all, same_then, same_set, apart_set, own_set, is_less, at_least, at_most_same, still_in, turned_feeds, asked_feed, turned_beside, pulled_beside, pulled_budget, given_budget}
use Rattle.aql_exec_fragments.proofs.running.run_gather.Goals as goal

pub loop-input-init : goal.loop-input-init
loop-input-init g c =
    let p = g.W.Surroundings in
    let v = c.requires.valid in
    let feeds = c.args.feeds.now.items in (
      record {
        executor_valid = v.executor_valid;
        begun = v.begun;
        inputs = v.inputs;
        apart = v.apart;
        added = nothing;
        rises = rises_none p c.args.tally.now c.args.world.now;
        leads = leads_all_init (RestsAt g.F.Feed feeds c.args.world.now) v.none_unreported;
      },
      record {
        node_kept = refl;
        full_kept = λ f. refl;
        row_cost_kept = λ k f. refl;
        feeds_kept = same_all g.F.Feed feeds;
        may_come = c.requires.may;
        budget_kept = le_refl _;
      },
      record {
        ours_new = λ l o. inl o;
        beside = record {
          stock = refl;
          deliveries = refl;
          batch = refl;
          grows = le_refl _;
          others = λ l n o. refl;
        };
      },
    )

-- ---- what a pull requires

pub pull-requires-clause-valid : goal.pull-requires-clause-valid
pull-requires-clause-valid g c =
    let x = g.X.Executor in
    let h = g.F.Feed in
    let p = g.W.Surroundings in
    let f = g.met.F.Feed in
    let inv = c.loop-input.invariant.0 in
    let kept = c.loop-input.invariant.1 in
    let turned = c.in_ok-input.ensures in
    let k = c.in-Ask.input in
    let at = c.index_mut.result.now in
    let a = turned_feeds x h p f.kept_rests f.kept_valid f.own_links g.met.X.Unlinked.no_links inv
    c.turn.new.world
    turned.world in
    let here = asked_feed x h p c.requires.fits kept k at (rw c.in-Ask.is at turned.asked).0
    c.index_mut.ensures.value in
    (a.inputs k at here).input_valid refl

pub pull-requires-clause-plan : goal.pull-requires-clause-plan
pull-requires-clause-plan g c =
    let x = g.X.Executor in
    let h = g.F.Feed in
    let p = g.W.Surroundings in
    let kept = c.loop-input.invariant.1 in
    let turned = c.in_ok-input.ensures in
    let k = c.in-Ask.input in
    let at = c.index_mut.result.now in
    let here = asked_feed x h p c.requires.fits kept k at (rw c.in-Ask.is at turned.asked).0
    c.index_mut.ensures.value in
    each_tree h _ c.loop-input.feeds.items
    (rw (turned.world.stock, c.loop-input.invariant.2.beside.stock, kept.feeds_kept.trees)
    c.requires.fits.are_trees) k at here

pub pull-requires-clause-may : goal.pull-requires-clause-may
pull-requires-clause-may g c =
    let x = g.X.Executor in
    let h = g.F.Feed in
    let p = g.W.Surroundings in
    let kept = c.loop-input.invariant.1 in
    let k = c.in-Ask.input in
    let at = c.index_mut.result.now in
    let asked = rw c.in-Ask.is at c.in_ok-input.ensures.asked in
    let here = asked_feed x h p c.requires.fits kept k at asked.0
    c.index_mut.ensures.value in
    (c.loop-input.invariant.0.inputs k at here).may_ask refl _ asked.4

pub turn-requires-clause-batch : goal.turn-requires-clause-batch
turn-requires-clause-batch g c = at_most_same c.requires.batch c.loop-input.invariant.2.beside.batch

pub pull-requires-clause-batch : goal.pull-requires-clause-batch
pull-requires-clause-batch g c =
    let turned = c.in_ok-input.ensures in
    let asked = rw c.in-Ask.is at turned.asked in
    at_most asked.7
    (at_most_same c.requires.batch (turned.world.batch ∙ c.loop-input.invariant.2.beside.batch))

-- ---- after the feed was pulled

pub loop-input-smaller : goal.loop-input-smaller
loop-input-smaller g c =
    let x = g.X.Executor in
    let h = g.F.Feed in
    let p = g.W.Surroundings in
    let m = g.met.X.Executor in
    let f = g.met.F.Feed in
    let none = g.met.X.Unlinked.no_links in
    let inv = c.loop-input.invariant.0 in
    let kept = c.loop-input.invariant.1 in
    let turned = c.in_ok-input.ensures in
    let w = c.loop-input.world in
    let w1 = c.turn.new.world in
    let feeds = c.loop-input.feeds.items in
    let k = c.in-Ask.input in
    let at = c.index_mut.result.now in
    let asked = rw c.in-Ask.is at turned.asked in
    let a = turned_feeds x h p f.kept_rests f.kept_valid f.own_links none inv w1
    turned.world in
    let here = asked_feed x h p c.requires.fits kept k at asked.0
    c.index_mut.ensures.value in
    let pulled = c.in_ok-step-in-Ask.ensures in
    let taken = c.in_ok-take-in-Ask.ensures in
    let step = c.in_ok-step-in-Ask.step in
    let some : 1 ≤ arity (x.node c.loop-input.gather) = at_least asked.0 in
    let fell = pulled_budget x h p f.kept_budget m.kept_budget none c.args.gather.now c.loop-input.gather
    c.turn.new.self c.take.new.self feeds w w1 c.pull.new.world k at c.pull.new.self (reported step)
    (unless_waiting step.progress) a here turned.world.stock pulled.world.stock
    (λ j b n e l o. pulled.world.others l (is_below (a.links j b e l o) turned.world.grows)
    (λ q. inv.apart j k b at e here n l o q))
    (λ j q. turned.node.row_cost_is j q ∙ kept.row_cost_kept j q) (rw c.in-Ask.is at turned.budget)
    (of_inputs turned.node.node_is some taken.budget c.pull.new.world) pulled.budget in
    falls _ _ _ _ (unless_waiting step.progress) fell
    (more_waits_left _ _ _ _ (of_inputs turned.node.node_is some taken.waits_left)
    (rw c.in-Ask.is at turned.waits_left))

pub loop-input-preserved : goal.loop-input-preserved
loop-input-preserved g c =
    let x = g.X.Executor in
    let h = g.F.Feed in
    let p = g.W.Surroundings in
    let m = g.met.X.Executor in
    let f = g.met.F.Feed in
    let none = g.met.X.Unlinked.no_links in
    let inv = c.loop-input.invariant.0 in
    let kept = c.loop-input.invariant.1 in
    let links = c.loop-input.invariant.2 in
    let turned = c.in_ok-input.ensures in
    let x0 = c.args.gather.now in
    let feeds0 = c.args.feeds.now.items in
    let w0 = c.args.world.now in
    let w = c.loop-input.world in
    let x1 = c.turn.new.self in
    let w1 = c.turn.new.world in
    let w2 = c.pull.new.world in
    let x2 = c.take.new.self in
    let f2 = c.pull.new.self in
    let feeds = c.loop-input.feeds.items in
    let k = c.in-Ask.input in
    let at = c.index_mut.result.now in
    let asked = rw c.in-Ask.is at turned.asked in
    let inputs = rw c.in-Ask.is at turned.inputs in
    let m_unreported = rw c.in-Ask.is at turned.unreported in
    let m_leads = rw c.in-Ask.is at turned.leads in
    let unskipped = rw c.in-Ask.is at turned.unskipped in
    let a = turned_feeds x h p f.kept_rests f.kept_valid f.own_links none inv w1
    turned.world in
    let here = asked_feed x h p c.requires.fits kept k at asked.0
    c.index_mut.ensures.value in
    let pulled = c.in_ok-step-in-Ask.ensures in
    let taken = c.in_ok-take-in-Ask.ensures in
    let step = c.in_ok-step-in-Ask.step in
    let led = pulled.leads in
    let some : 1 ≤ arity (x.node c.loop-input.gather) = at_least asked.0 in
    let node_is = turned.node.node_is in
    let exact = exact_over x h p x0 feeds0 in
    let exact_turned : Within exact (exact_at (x.node c.loop-input.gather)) =
    λ j i. rw kept.node_kept (exact_executor x h p x0 feeds0 j i) in
    let exact_all : Within exact (exact_over x h p c.loop-input.gather feeds) =
    λ j i. rw (kept.node_kept, kept.feeds_kept.trees) i in
    let exact_pulled : Within exact (exact_tree (h.plan at)) =
    λ j i. exact_feed x h p c.loop-input.gather feeds k at here j (exact_all j i) in
    let other_kept : (j : ℕ) (b : _) → (j ≡ k → ⊥) → slice_get feeds j ≡ Some b → (l : ℕ) → h.ours b l
    → p.flight w2 l ≡ p.flight w1 l =
    λ j b n e l o. pulled.world.others l (is_below (a.links j b e l o) turned.world.grows)
    (λ q. inv.apart j k b at e here n l o q) in
    let x_kept : (l : ℕ) → x.ours x1 l → p.flight w2 l ≡ p.flight w1 l = λ l o. absurd (none x1 l o) in
    let started_is : (j : ℕ) → x.started x2 j ≡ x.started c.loop-input.gather j =
    λ j. taken.started j ∙ (inputs j).0 in
    let fell = pulled_budget x h p f.kept_budget m.kept_budget none x0 c.loop-input.gather x1 x2 feeds w w1 w2
    k at f2 (reported step) (unless_waiting step.progress) a here turned.world.stock pulled.world.stock
    other_kept (λ j q. turned.node.row_cost_is j q ∙ kept.row_cost_kept j q) (rw c.in-Ask.is at turned.budget)
    (of_inputs node_is some taken.budget w2) pulled.budget in
    let mine : InputIs x h p x2 f2 w2 k = pulled_input step c.in-Ask.ask pulled.valid refl
    (λ q z. (let y = taken.follows q z in (y.0, y.1 _ asked.3))) pulled.may
    (λ e. elim (taken.ended k e) [
      | inl o ↦ absurd (asked.5 (sym (inputs k).1 ∙ o))
      | inr d ↦ (d.1, λ z. d.2 _ asked.3 z)
    ])
    (rw pulled.plan pulled.done)
    (λ q. elim (taken.waited k q) [ inl b ↦ absurd (asked.6 ((inputs k).2 b)) | inr b ↦ b.1 ])
    pulled.waiting in
    let other : (j : ℕ) (b : _) → (j ≡ k → ⊥) → slice_get feeds j ≡ Some b → InputIs x h p x2 b w2 j =
    λ j b n e. input_weaker (feed_kept x h p f.kept_rests f.kept_valid b w1 w2 (later_beside p pulled.world)
    (other_kept j b n e) (a.inputs j b e)) refl
    (λ q. elim (taken.ended j q) [ inl o ↦ sym (inputs j).1 ∙ o | inr d ↦ absurd (n d.0) ])
    (λ q. elim (taken.waited j q) [ inl b ↦ (inputs j).2 b | inr b ↦ absurd (n b.0) ])
    (λ q z. (inputs j).3 n q (taken.asks j q n z)) in (
      record {
        executor_valid = taken.valid w2
            (m.kept_valid x1 w1 w2 pulled.world.stock pulled.world.batch pulled.world.grows x_kept turned.valid);
        begun = λ j l. started_is j ∙ inv.begun j (still_in feeds k f2 l);
        inputs = λ j b e. elim (at_set feeds k j f2 b e) [
          | inl q ↦ subst (λ z. InputIs x h p x2 z w2 j) q.1
              (subst (λ z. InputIs x h p x2 f2 w2 z) (sym q.0) mine)
          | inr q ↦ other j b q.0 q.1
        ];
        apart = apart_set h feeds k at f2 (p.links w1) here inv.apart pulled.ours
            (λ j b e l o. is_below (a.links j b e l o) turned.world.grows);
        added = plus inv.added (plus m_leads.0 led.0);
        rises = rises_then p _ _ _ _ _ _ _ _ inv.rises (rises_then p _ _ _ _ _ _ _ _
            (rises_weaker p _ _ _ _ m_leads.0 (λ j i. (i.0, exact_turned j i.1)) m_leads.1)
            (rises_weaker p _ _ _ _ led.0
            (λ j i. (unskipped j (exact_turned j i.1) i.0, exact_pulled j i.1)) led.1));
        leads = leads_at {v = exact} {R = RestsAt h feeds w} {R' = RestsAt h (slice_set feeds k f2) w2} k step
            inv.leads
            (λ ins r ends z. m_leads.2 exact exact_turned 0 no_body ins r ends z)
            (λ r z. (let o = led.2 r (z f2 (put_here feeds k at f2 here)) in (
              o.0,
              o.1,
              o.2,
              prefixed_weaker _ led.0 r o.1 exact_pulled o.3,
              λ b e. subst (λ y. h.rests y w o.1) (same_at feeds k at b here e)
                  (f.kept_rests at w w1 turned.world.stock (a.kept k at here) o.1 o.4),
            )))
            (λ j n r z b e. f.kept_rests b w w1 turned.world.stock (a.kept j b e) r
            (f.kept_rests b w1 w2 pulled.world.stock (other_kept j b n e) r
            (z b (others_stay feeds k j f2 b n e))))
            ((of_inputs node_is some taken.unreported).0 ∙ ap (λ n. n + step.skipped) (m_unreported k))
            (λ j z. (of_inputs node_is some taken.unreported).1 j z ∙ m_unreported j) asked.5
            (λ j e. taken.stays j ((inputs j).1 ∙ e))
            (λ s0 s ins' ins t b r l0 l1 ahead e0 e1 os ends z.
            (let o = of_inputs node_is some taken.leads exact w2 0 no_body led.0 s0 s ins' ins
            t b r (l0 ∙ sym (m_unreported k)) l1 ahead e0 e1 os ends z in
            (o.0, o.1, m.kept_gives x1 w1 w2 pulled.world.stock x_kept 0 no_body ins o.0 o.2)));
      },
      record {
        node_kept = taken.node.node_is ∙ node_is ∙ kept.node_kept;
        full_kept = λ q. taken.node.full_is q ∙ turned.node.full_is q ∙ kept.full_kept q;
        row_cost_kept = λ j q. taken.node.row_cost_is j q ∙ turned.node.row_cost_is j q ∙ kept.row_cost_kept j
            q;
        feeds_kept = same_then h feeds0 feeds _ kept.feeds_kept
            (same_set h feeds k at f2 here pulled.plan pulled.full);
        may_come = taken.may 0 _ (rw c.in-Ask.is at turned.may);
        budget_kept = le_more _ _ _ _ fell kept.budget_kept;
      },
      record {
        ours_new = λ l o. elim (own_set h feeds k at f2 (p.links w1) here pulled.ours l o) [
          | inl q ↦ links.ours_new l q
          | inr q ↦ inr (at_most links.beside.grows (at_most turned.world.grows q))
        ];
        beside = pulled_beside x h p links k at here w1 w2
            (turned_beside x h p none links c.loop-input.gather w1 turned.world) pulled.world;
      },
    )

-- ---- what it gives

pub returns-in-Give-clause-valid : goal.returns-in-Give-clause-valid
returns-in-Give-clause-valid g c =
    let x = g.X.Executor in
    let h = g.F.Feed in
    let p = g.W.Surroundings in
    let f = g.met.F.Feed in
    let inv = c.loop-input.invariant.0 in
    let turned = c.in_ok-input.ensures in
    let a = turned_feeds x h p f.kept_rests f.kept_valid f.own_links g.met.X.Unlinked.no_links inv
    c.turn.new.world
    turned.world in
    let inputs = rw c.in-Give.is at turned.inputs in
    record {
      executor_valid = turned.valid;
      begun = λ j l. (inputs j).0 ∙ inv.begun j l;
      inputs = λ j b e. input_weaker (a.inputs j b e) refl (λ q. sym (inputs j).1 ∙ q)
          (λ q. absurd ((inputs j).2 q)) (inputs j).3;
      none_unreported = rw c.in-Give.is at turned.unreported;
      none_waits = λ j. (inputs j).2;
      apart = inv.apart;
    }

pub returns-in-Give-clause-leads : goal.returns-in-Give-clause-leads
returns-in-Give-clause-leads g c =
    let x = g.X.Executor in
    let h = g.F.Feed in
    let p = g.W.Surroundings in
    let f = g.met.F.Feed in
    let inv = c.loop-input.invariant.0 in
    let kept = c.loop-input.invariant.1 in
    let turned = c.in_ok-input.ensures in
    let x0 = c.args.gather.now in
    let feeds0 = c.args.feeds.now.items in
    let w = c.loop-input.world in
    let w1 = c.turn.new.world in
    let feeds = c.loop-input.feeds.items in
    let a = turned_feeds x h p f.kept_rests f.kept_valid f.own_links g.met.X.Unlinked.no_links inv w1
    turned.world in
    let inputs = rw c.in-Give.is at turned.inputs in
    let m_leads = rw c.in-Give.is at turned.leads in
    let exact = exact_over x h p x0 feeds0 in
    let exact_turned : Within exact (exact_at (x.node c.loop-input.gather)) =
    λ j i. rw kept.node_kept (exact_executor x h p x0 feeds0 j i) in
    let exact_back : Within exact (exact_over x h p c.turn.new.self feeds) =
    λ j i. rw (turned.node.node_is, kept.node_kept, kept.feeds_kept.trees) i in
    let back = leads_all_given {v = exact} {R = RestsAt h feeds w} {R' = RestsAt h feeds w1} c.in-Give.step
    inv.leads
    (m_leads.2 exact exact_turned no_body)
    (λ j r z b e. f.kept_rests b w w1 turned.world.stock (a.kept j b e) r (z b e))
    (λ j e. (inputs j).1 ∙ e) in (
      plus inv.added m_leads.0,
      rises_then p _ _ _ _ _ _ _ _ inv.rises
          (rises_weaker p _ _ _ _ m_leads.0 (λ j i. (i.0, exact_turned j i.1)) m_leads.1),
      λ r z. back r (
        z.0,
        (λ j q. over_weaker exact (exact_over x h p c.turn.new.self feeds) (z.0 j) exact_back (z.1 j q)),
        z.2,
        z.3,
      ),
    )

pub returns-in-Give-clause-done : goal.returns-in-Give-clause-done
returns-in-Give-clause-done g c e =
    let x = g.X.Executor in
    let h = g.F.Feed in
    let p = g.W.Surroundings in
    let kept = c.loop-input.invariant.1 in
    let turned = c.in_ok-input.ensures in
    let x0 = c.args.gather.now in
    let feeds0 = c.args.feeds.now.items in
    let feeds = c.loop-input.feeds.items in
    let exact = exact_over x h p x0 feeds0 in
    let exact_turned : Within exact (exact_at (x.node c.loop-input.gather)) =
    λ j i. rw kept.node_kept (exact_executor x h p x0 feeds0 j i) in
    let exact_back : Within exact (exact_over x h p c.turn.new.self feeds) =
    λ j i. rw (turned.node.node_is, kept.node_kept, kept.feeds_kept.trees) i in
    let m_done = rw c.in-Give.is at turned.done in
    elim (m_done e) [
      | inl z ↦ inl z
      | inr z ↦ inr (λ r q. z exact (λ j i. refl) exact_turned no_body q.0
          (λ j i. over_weaker exact (exact_over x h p c.turn.new.self feeds) (q.0 j) exact_back (q.1 j i)) r
          q.3)
    ]

pub returns-in-Give-clause-waiting : goal.returns-in-Give-clause-waiting
returns-in-Give-clause-waiting g c e =
    let x = g.X.Executor in
    let h = g.F.Feed in
    let p = g.W.Surroundings in
    let f = g.met.F.Feed in
    let none = g.met.X.Unlinked.no_links in
    let inv = c.loop-input.invariant.0 in
    let kept = c.loop-input.invariant.1 in
    let turned = c.in_ok-input.ensures in
    let feeds = c.loop-input.feeds.items in
    let a = turned_feeds x h p f.kept_rests f.kept_valid f.own_links none inv c.turn.new.world
    turned.world in
    let m_waiting = rw c.in-Give.is at turned.waiting in
    elim (m_waiting e) [
      | inl q ↦ (let b = some_at feeds q.0 (is_less q.1 (ap arity kept.node_kept ∙ c.requires.fits.as_many
          ∙ sym kept.feeds_kept.count)) in
          let waited : x.waited c.loop-input.gather q.0 = elim q.2
          [ inl o ↦ o | inr o ↦ absurd (g.met.X.Unlinked.not_stuck c.loop-input.gather q.0 o) ] in
          let i = (a.inputs q.0 b.0 b.1).in_flight waited in
          (i.1, (q.0, b.0, b.1, i.2), i.3))
      | inr q ↦ absurd (none _ _ q.1)
    ]

pub returns-in-Give-clause-budget : goal.returns-in-Give-clause-budget
returns-in-Give-clause-budget g c =
    let x = g.X.Executor in
    let h = g.F.Feed in
    let p = g.W.Surroundings in
    let f = g.met.F.Feed in
    let inv = c.loop-input.invariant.0 in
    let turned = c.in_ok-input.ensures in
    let w = c.loop-input.world in
    let w1 = c.turn.new.world in
    let feeds = c.loop-input.feeds.items in
    let a = turned_feeds x h p f.kept_rests f.kept_valid f.own_links g.met.X.Unlinked.no_links inv w1
    turned.world in
    given_budget x h p f.kept_budget c.args.gather.now c.loop-input.gather c.turn.new.self feeds w w1
    (reported c.in-Give.step) _ a turned.world.stock (rw c.in-Give.is at turned.budget)
    c.loop-input.invariant.1.budget_kept

pub returns-in-Give-clause-world : goal.returns-in-Give-clause-world
returns-in-Give-clause-world g c =
    turned_beside g.X.Executor g.F.Feed g.W.Surroundings g.met.X.Unlinked.no_links c.loop-input.invariant.2
    c.loop-input.gather c.turn.new.world c.in_ok-input.ensures.world

-- ---- faults

pub returns-in_err-step-in-Ask-clause-feeds : goal.returns-in_err-step-in-Ask-clause-feeds
returns-in_err-step-in-Ask-clause-feeds g c =
    let x = g.X.Executor in
    let h = g.F.Feed in
    let p = g.W.Surroundings in
    let kept = c.loop-input.invariant.1 in
    let feeds0 = c.args.feeds.now.items in
    let feeds = c.loop-input.feeds.items in
    let k = c.in-Ask.input in
    let at = c.index_mut.result.now in
    let here = asked_feed x h p c.requires.fits kept k at (rw c.in-Ask.is at c.in_ok-input.ensures.asked).0
    c.index_mut.ensures.value in
    same_then h feeds0 feeds _ kept.feeds_kept
    (same_set h feeds k at c.pull.new.self here c.pull.ensures.plan c.pull.ensures.full)

pub returns-in_err-take-in-Ask-clause-feeds : goal.returns-in_err-take-in-Ask-clause-feeds
returns-in_err-take-in-Ask-clause-feeds g c =
    let x = g.X.Executor in
    let h = g.F.Feed in
    let p = g.W.Surroundings in
    let kept = c.loop-input.invariant.1 in
    let feeds0 = c.args.feeds.now.items in
    let feeds = c.loop-input.feeds.items in
    let k = c.in-Ask.input in
    let at = c.index_mut.result.now in
    let here = asked_feed x h p c.requires.fits kept k at (rw c.in-Ask.is at c.in_ok-input.ensures.asked).0
    c.index_mut.ensures.value in
    same_then h feeds0 feeds _ kept.feeds_kept
    (same_set h feeds k at c.pull.new.self here c.pull.ensures.plan c.pull.ensures.full)

pub returns-in_err-step-in-Ask-clause-world : goal.returns-in_err-step-in-Ask-clause-world
returns-in_err-step-in-Ask-clause-world g c =
    let x = g.X.Executor in
    let h = g.F.Feed in
    let p = g.W.Surroundings in
    let kept = c.loop-input.invariant.1 in
    let links = c.loop-input.invariant.2 in
    let turned = c.in_ok-input.ensures in
    let feeds0 = c.args.feeds.now.items in
    let feeds = c.loop-input.feeds.items in
    let k = c.in-Ask.input in
    let at = c.index_mut.result.now in
    let here = asked_feed x h p c.requires.fits kept k at (rw c.in-Ask.is at turned.asked).0
    c.index_mut.ensures.value in
    pulled_beside x h p links k at here c.turn.new.world c.pull.new.world
    (turned_beside x h p g.met.X.Unlinked.no_links links c.loop-input.gather c.turn.new.world turned.world)
    c.pull.ensures.world

pub returns-in_err-take-in-Ask-clause-world : goal.returns-in_err-take-in-Ask-clause-world
returns-in_err-take-in-Ask-clause-world g c =
    let x = g.X.Executor in
    let h = g.F.Feed in
    let p = g.W.Surroundings in
    let kept = c.loop-input.invariant.1 in
    let links = c.loop-input.invariant.2 in
    let turned = c.in_ok-input.ensures in
    let feeds0 = c.args.feeds.now.items in
    let feeds = c.loop-input.feeds.items in
    let k = c.in-Ask.input in
    let at = c.index_mut.result.now in
    let here = asked_feed x h p c.requires.fits kept k at (rw c.in-Ask.is at turned.asked).0
    c.index_mut.ensures.value in
    pulled_beside x h p links k at here c.turn.new.world c.pull.new.world
    (turned_beside x h p g.met.X.Unlinked.no_links links c.loop-input.gather c.turn.new.world turned.world)
    c.pull.ensures.world
