use Rattle.std.proofs.Common.{ℕ, ◌≡◌, ◌+◌, ◌<◌, ◌≤◌, ◌++◌, inl, inr, suc, [], length, true, refl, sym, ap, ◌∙◌, subst}
use Rattle.std.proofs.lemmas.Bool.{false≢true}
use Rattle.aql_block.specs.Rows.{row_of}
use Rattle.aql_exec.specs.Rests.{Rest, Within, Prefixed, Ends}
use Rattle.aql_exec.specs.Steps.{given, reported}
use Rattle.aql_exec.specs.Operators.{Shards, ports, count_of, drains, exact_at}
use Rattle.aql_exec.specs.laws.Counted.{rises_weaker, rises_then, prefixed_weaker}
use Rattle.aql_exec.specs.laws.Telling.{only_input, no_other}
use Rattle.aql_engine.proofs.Leading.{plus, prefixed_then}
use Rattle.aql_engine.proofs.Inputs.{at_most}
use Rattle.aql_exec_cluster.specs.laws.Taking.{same_inputs}
use Rattle.aql_exec_fragments.specs.Feeds.{no_body, total, trees_of, exact_over}
use Rattle.aql_exec_fragments.specs.GatherNodes.{NodeGives}
use Rattle.aql_exec_fragments.specs.laws.Places.{total_less, total_by}
use Rattle.aql_exec_fragments.proofs.Pulling.{same_all, same_then, count_trees, is_less, at_most_same}
use Rattle.aql_exec_fragments.proofs.Gathered.{same_executor, few, both_zero, budget_ran, budget_asked, budget_gave, budget_filled, rest_led, ends_of, last_port, beside_weaker, beside_then, gathers_of, same_node, exact_scatter, exact_fragments, rises_scatter, rises_fragments, scatter_turned, given_back, gave_nothing, exact_same, ended_at_done, fill_back, gathering_begun, rests_of, given_of}
use Rattle.aql_exec_fragments.proofs.gather_node.GatherNodeExecutor.turn.Goals as goal

-- ---- its fragments have begun

pub run_gather-requires-clause-fits : goal.run_gather-requires-clause-fits
run_gather-requires-clause-fits g c =
    let x = g.X.Executor in
    let s = g.S.Executor in
    let h = g.F.Feed in
    let p = g.W.Surroundings in
    let me = c.args.self.now in
    let feeds = me.fragments.items in
    gathers_of x s h p _ me.gather feeds c.requires.node.0 c.requires.node.3 c.requires.node.6
    c.requires.node.7

pub returns-then-self-clause-node : goal.returns-then-self-clause-node
returns-then-self-clause-node g c =
    let x = g.X.Executor in
    let s = g.S.Executor in
    let h = g.F.Feed in
    let p = g.W.Surroundings in
    let me = c.args.self.now in
    let feeds = me.fragments.items in
    let pulled = c.in_ok-step.ensures in
    same_node x s h p me.gather c.run_gather.new.gather me.scatter me.scatter feeds
    c.run_gather.new.feeds.items
    pulled.node (same_executor s me.scatter) pulled.feeds

pub returns-then-self-clause-valid : goal.returns-then-self-clause-valid
returns-then-self-clause-valid g c =
    let me = c.args.self.now in
    let feeds = me.fragments.items in
    let filled = c.if-self.true in
    let pulled = c.in_ok-step.ensures in
    let ms = g.met.S.Executor in
    record {
      gather_valid = pulled.valid.executor_valid;
      scatter_valid = ms.kept_valid me.scatter c.args.world.now c.run_gather.new.world pulled.world.stock
          pulled.world.batch pulled.world.grows (λ l o. absurd (g.met.S.Unlinked.no_links me.scatter l o))
          c.requires.valid.scatter_valid;
      unfilled = λ b. absurd (false≢true (sym b ∙ filled));
      filled = λ b. ((c.requires.valid.filled filled).0, pulled.valid);
    }

pub returns-then-self-clause-leads : goal.returns-then-self-clause-leads
returns-then-self-clause-leads g c =
    let x = g.X.Executor in
    let s = g.S.Executor in
    let h = g.F.Feed in
    let p = g.W.Surroundings in
    let me = c.args.self.now in
    let feeds = me.fragments.items in
    let w = c.args.world.now in
    let step = c.in_ok-step.step in
    let filled = c.if-self.true in
    let pulled = c.in_ok-step.ensures in
    let w1 = c.run_gather.new.world in
    let feeds1 = c.run_gather.new.feeds.items in (
      pulled.leads.0,
      rises_fragments x s h p me.gather me.scatter feeds c.args.call pulled.leads.1,
      λ e ex body so ins ins' lens eqs ends r d.
          let none = g.met.S.Splits.none_unreported me.scatter in
          let same = same_inputs so ins ins' (λ j. lens j ∙ none j) eqs in
          let q = pulled.leads.2 d.own (rests_of x s h p _ w1 ins r filled d) in
          let fills = g.met.S.Executor.kept_gives me.scatter w w1 pulled.world.stock
          (λ l o. absurd (g.met.S.Unlinked.no_links me.scatter l o)) (length feeds) no_body ins d.filling
          (subst (λ z. s.gives me.scatter w1 z no_body ins d.filling) pulled.feeds.count d.fills) in
          let before : Rest = record { rows = q.1.rows; counts = λ i. q.1.counts i + d.filling.counts i } in (
            q.0,
            before,
            q.2,
            rest_led (q.0 ++ given step) pulled.leads.0 d.own q.1 d.filling.counts r d.rows d.counts
                (prefixed_weaker _ pulled.leads.0 d.own q.1
                (λ i y. exact_fragments x s h p me.gather me.scatter feeds i (ex i y)) q.3),
            subst (λ (z : ℕ → Rest). NodeGives x s h p me w z before) (sym same)
                (given_of x s h p me w ins q.1 d.filling filled q.4 fills),
          ),
    )

pub returns-then-self-clause-other_ports : goal.returns-then-self-clause-other_ports
returns-then-self-clause-other_ports g c =
    let x = g.X.Executor in
    let s = g.S.Executor in
    let h = g.F.Feed in
    let p = g.W.Surroundings in
    let me = c.args.self.now in
    let feeds = me.fragments.items in
    let leads = c.in_ok-step.ensures.leads in (
      leads.0,
      rises_fragments x s h p me.gather me.scatter feeds c.args.call leads.1,
      λ e ex q body so ins ins' r n b lens eqs ends d. absurd (no_other c.args._port q c.requires.port n b),
    )

pub returns-then-self-clause-done : goal.returns-then-self-clause-done
returns-then-self-clause-done g c e =
    let x = g.X.Executor in
    let s = g.S.Executor in
    let h = g.F.Feed in
    let p = g.W.Surroundings in
    let me = c.args.self.now in
    let feeds = me.fragments.items in
    let count = count_trees h feeds in
    let many : ports (s.node me.scatter) ≡ suc (length feeds) = c.requires.node.2 ∙ ap suc count in
    let filled = c.if-self.true in
    let pulled = c.in_ok-step.ensures in
    let w1 = c.run_gather.new.world in
    let feeds1 = c.run_gather.new.feeds.items in
    elim (pulled.done e) [
      | inl z ↦ inl z
      | inr z ↦ inr (λ v first ex body ins ends r d.
          let o = z d.own (rests_of x s h p _ w1 ins r filled d) in
          let fills = g.met.S.Splits.silent me.scatter w1 (length feeds1) no_body ins d.filling
          (many ∙ ap suc (sym pulled.feeds.count)) d.fills in (
            d.rows ∙ o.0,
            λ i y. both_zero (d.counts i)
                (o.1 i (exact_fragments x s h p me.gather me.scatter feeds i (ex i y)))
                (fills.1 i ∙ (ends 0 (c.requires.valid.filled filled).0.ended).1 i y),
          ))
    ]

pub returns-then-self-clause-waiting : goal.returns-then-self-clause-waiting
returns-then-self-clause-waiting g c e =
    let f = c.in_ok-step.ensures.waiting e in inr (f.0, (c.if-self.true, f.1), f.2)

pub returns-then-self-clause-ours : goal.returns-then-self-clause-ours
returns-then-self-clause-ours g c l o =
    let filled = c.if-self.true in
    let pulled = c.in_ok-step.ensures in
    elim (pulled.ours l o.1) [ inl q ↦ inl (filled, q) | inr q ↦ inr q ]

pub returns-then-self-clause-world : goal.returns-then-self-clause-world
returns-then-self-clause-world g c =
    beside_weaker g.W.Surroundings (λ l o. (c.if-self.true, o)) c.in_ok-step.ensures.world

pub returns-then-self-clause-budget : goal.returns-then-self-clause-budget
returns-then-self-clause-budget g c f =
    let x = g.X.Executor in
    let s = g.S.Executor in
    let h = g.F.Feed in
    let p = g.W.Surroundings in
    let me = c.args.self.now in
    let feeds = me.fragments.items in
    let filled = c.if-self.true in
    let pulled = c.in_ok-step.ensures in
    let w1 = c.run_gather.new.world in
    let feeds1 = c.run_gather.new.feeds.items in
    let x1 = c.run_gather.new.gather in
    let cost = λ (k : ℕ). x.row_cost me.gather k 0 in
    budget_ran me.filled (x.budget me.gather c.args.world.now 0) (x.budget x1 w1 0)
    (total (λ z. h.budget z c.args.world.now) cost feeds) (total (λ z. h.budget z w1) cost feeds1) _ _ _
    (reported c.in_ok-step.step) filled
    (total_by (λ z. h.budget z w1) cost (λ k. x.row_cost x1 k 0) feeds1 (λ k. pulled.node.row_cost_is k 0))
    pulled.budget

-- ---- its Scatter is turned

pub overflow_cast-last : goal.overflow_cast-last
overflow_cast-last g c =
    let me = c.args.self.now in
    let feeds = me.fragments.items in
    record {
      fits = few _ _ _ _ (count_trees g.F.Feed feeds) c.requires.node.5 c.len-last.ensures
          me.fragments.ok.0;
    }

pub turn-requires-clause-port : goal.turn-requires-clause-port
turn-requires-clause-port g c =
    let x = g.X.Executor in
    let s = g.S.Executor in
    let h = g.F.Feed in
    let p = g.W.Surroundings in
    let me = c.args.self.now in
    let feeds = me.fragments.items in
    let count = count_trees h feeds in
    let many : ports (s.node me.scatter) ≡ suc (length feeds) = c.requires.node.2 ∙ ap suc count in
    let at : c.len-last.result ≡ length feeds = c.len-last.ensures ∙ me.fragments.ok.0 in
    inr (rw at (last_port _ _ many))

pub returns-in-Ask-clause-unskipped : goal.returns-in-Ask-clause-unskipped
returns-in-Ask-clause-unskipped g c i y =
    let x = g.X.Executor in
    let s = g.S.Executor in
    let h = g.F.Feed in
    let p = g.W.Surroundings in
    let me = c.args.self.now in
    let feeds = me.fragments.items in
    (rw c.in-Ask.is at c.in_ok-input.ensures.unskipped) i
    (exact_scatter x s h p me.gather me.scatter feeds i y)

pub returns-in-Ask-clause-leads : goal.returns-in-Ask-clause-leads
returns-in-Ask-clause-leads g c =
    let x = g.X.Executor in
    let s = g.S.Executor in
    let h = g.F.Feed in
    let p = g.W.Surroundings in
    let me = c.args.self.now in
    let feeds = me.fragments.items in
    let turned = c.in_ok-input.ensures in
    let w1 = c.turn.new.world in
    let s1 = c.turn.new.self in
    let mx = g.met.X.Executor in
    let stays = scatter_turned x s h p mx.kept_gives mx.kept_valid mx.kept_budget g.met.X.Unlinked.no_links
    g.met.S.Unlinked.no_links me c.requires.valid turned.world in
    let leads = rw c.in-Ask.is at turned.leads in (
      leads.0,
      rises_scatter x s h p me.gather me.scatter feeds c.args.call leads.1,
      λ e ex q body ins r ends d.
          given_back x s h p me s1 c.if-self.false c.args.world.now w1 turned.world.stock ins ins leads.0
          stays.gather_gives
          (λ k a z. leads.2 e (λ i y. exact_scatter x s h p me.gather me.scatter feeds i (ex i y)) k no_body
          ins a
          ends z) r d,
    )

pub returns-in-Ask-clause-budget : goal.returns-in-Ask-clause-budget
returns-in-Ask-clause-budget g c f =
    let x = g.X.Executor in
    let s = g.S.Executor in
    let h = g.F.Feed in
    let p = g.W.Surroundings in
    let me = c.args.self.now in
    let feeds = me.fragments.items in
    let turned = c.in_ok-input.ensures in
    let w1 = c.turn.new.world in
    let s1 = c.turn.new.self in
    let mx = g.met.X.Executor in
    let stays = scatter_turned x s h p mx.kept_gives mx.kept_valid mx.kept_budget g.met.X.Unlinked.no_links
    g.met.S.Unlinked.no_links me c.requires.valid turned.world in
    let budget = rw c.in-Ask.is at turned.budget in
    budget_asked me.filled _ _ _ _ _ _ _ c.if-self.false stays.gather_budget (budget 0)

pub returns-in_default-clause-node : goal.returns-in_default-clause-node
returns-in_default-clause-node g c =
    let x = g.X.Executor in
    let s = g.S.Executor in
    let h = g.F.Feed in
    let p = g.W.Surroundings in
    let me = c.args.self.now in
    let feeds = me.fragments.items in
    let turned = c.in_ok-input.ensures in
    let w1 = c.turn.new.world in
    let s1 = c.turn.new.self in
    same_node x s h p me.gather me.gather me.scatter s1 feeds feeds (same_executor x me.gather) turned.node
    (same_all h feeds)

pub returns-in_default-clause-valid : goal.returns-in_default-clause-valid
returns-in_default-clause-valid g c =
    let x = g.X.Executor in
    let s = g.S.Executor in
    let h = g.F.Feed in
    let p = g.W.Surroundings in
    let me = c.args.self.now in
    let feeds = me.fragments.items in
    let turned = c.in_ok-input.ensures in
    let w1 = c.turn.new.world in
    let s1 = c.turn.new.self in
    let mx = g.met.X.Executor in
    let stays = scatter_turned x s h p mx.kept_gives mx.kept_valid mx.kept_budget g.met.X.Unlinked.no_links
    g.met.S.Unlinked.no_links me c.requires.valid turned.world in
    record {
      gather_valid = stays.gather_valid;
      scatter_valid = turned.valid;
      unfilled = λ e. c.requires.valid.unfilled c.if-self.false;
      filled = λ e. absurd (false≢true (sym c.if-self.false ∙ e));
    }

pub returns-in_default-clause-leads : goal.returns-in_default-clause-leads
returns-in_default-clause-leads g c =
    let x = g.X.Executor in
    let s = g.S.Executor in
    let h = g.F.Feed in
    let p = g.W.Surroundings in
    let me = c.args.self.now in
    let feeds = me.fragments.items in
    let count = count_trees h feeds in
    let many : ports (s.node me.scatter) ≡ suc (length feeds) = c.requires.node.2 ∙ ap suc count in
    let turned = c.in_ok-input.ensures in
    let w1 = c.turn.new.world in
    let s1 = c.turn.new.self in
    let mx = g.met.X.Executor in
    let stays = scatter_turned x s h p mx.kept_gives mx.kept_valid mx.kept_budget g.met.X.Unlinked.no_links
    g.met.S.Unlinked.no_links me c.requires.valid turned.world in
    let at : c.len-last.result ≡ length feeds = c.len-last.ensures ∙ me.fragments.ok.0 in
    let leads = rw (c.in-Give.is, at) at turned.leads in
    let other = rw (c.in-Give.is, at) at turned.other_ports in (
      leads.0,
      rises_scatter x s h p me.gather me.scatter feeds c.args.call leads.1,
      λ e ex body so ins ins' lens eqs ends r d.
          let q = gave_nothing x s h p g.met.S.Splits.silent me s1 c.if-self.false stays turned.world.stock many
          leads.0
          other.0 c.in-Give.step leads.2 other.2 e ex so ins ins' lens eqs ends r d in
          ([], q.2.0, sym q.0, subst (λ z. Prefixed e z leads.0 r q.2.0) (sym q.1) q.2.1, q.2.2),
    )

pub returns-in_default-clause-other_ports : goal.returns-in_default-clause-other_ports
returns-in_default-clause-other_ports g c =
    let x = g.X.Executor in
    let s = g.S.Executor in
    let h = g.F.Feed in
    let p = g.W.Surroundings in
    let me = c.args.self.now in
    let feeds = me.fragments.items in
    let leads = rw c.in-Give.is at c.in_ok-input.ensures.leads in (
      leads.0,
      rises_scatter x s h p me.gather me.scatter feeds c.args.call leads.1,
      λ e ex q body so ins ins' r n le lens eqs ends d. absurd (no_other c.args._port q c.requires.port n le),
    )

pub returns-in_default-clause-budget : goal.returns-in_default-clause-budget
returns-in_default-clause-budget g c f =
    let x = g.X.Executor in
    let s = g.S.Executor in
    let h = g.F.Feed in
    let p = g.W.Surroundings in
    let me = c.args.self.now in
    let feeds = me.fragments.items in
    let turned = c.in_ok-input.ensures in
    let w1 = c.turn.new.world in
    let s1 = c.turn.new.self in
    let mx = g.met.X.Executor in
    let stays = scatter_turned x s h p mx.kept_gives mx.kept_valid mx.kept_budget g.met.X.Unlinked.no_links
    g.met.S.Unlinked.no_links me c.requires.valid turned.world in
    let budget = rw c.in-Give.is at turned.budget in
    budget_gave me.filled _ _ _ _ _ _ _ (reported c.in-Give.step) c.if-self.false stays.gather_budget
    (budget 0)

pub returns-in_default-clause-may : goal.returns-in_default-clause-may
returns-in_default-clause-may g c q i _ _ =
    (c.requires.valid.unfilled c.if-self.false).may_come q i

pub returns-in_default-clause-world : goal.returns-in_default-clause-world
returns-in_default-clause-world g c =
    let x = g.X.Executor in
    let s = g.S.Executor in
    let h = g.F.Feed in
    let p = g.W.Surroundings in
    let me = c.args.self.now in
    let feeds = me.fragments.items in
    let turned = c.in_ok-input.ensures in
    let w1 = c.turn.new.world in
    let s1 = c.turn.new.self in
    let mx = g.met.X.Executor in
    let stays = scatter_turned x s h p mx.kept_gives mx.kept_valid mx.kept_budget g.met.X.Unlinked.no_links
    g.met.S.Unlinked.no_links me c.requires.valid turned.world in
    stays.beside

pub returns-in_default-clause-waiting : goal.returns-in_default-clause-waiting
returns-in_default-clause-waiting g c e =
    let waiting = rw c.in-Give.is at c.in_ok-input.ensures.waiting in
    elim (waiting e) [
      | inl q ↦ inl (q.0, is_less q.1 c.requires.node.1, q.2)
      | inr q ↦ absurd (g.met.S.Unlinked.no_links c.turn.new.self q.0 q.1)
    ]

-- ---- its fragments begin

pub begin_fragments-requires-clause-filled : goal.begin_fragments-requires-clause-filled
begin_fragments-requires-clause-filled g c =
    let x = g.X.Executor in
    let s = g.S.Executor in
    let h = g.F.Feed in
    let p = g.W.Surroundings in
    let me = c.args.self.now in
    let feeds = me.fragments.items in
    let count = count_trees h feeds in
    let many : ports (s.node me.scatter) ≡ suc (length feeds) = c.requires.node.2 ∙ ap suc count in
    let turned = c.in_ok-input.ensures in
    let w1 = c.turn.new.world in
    let s1 = c.turn.new.self in
    let at : c.len-last.result ≡ length feeds = c.len-last.ensures ∙ me.fragments.ok.0 in
    let leads = rw (c.in-Give.is, at) at turned.leads in
    let drained = rw (c.in-Give.is, at) at turned.drained in
    let ended = ended_at_done x s h p g.met.S.Splits.silent g.met.S.Executor.some me.scatter s1 (length feeds)
    c.args.world.now w1 c.args.call c.in-Give.step leads.0 c.requires.call
    (g.met.S.Splits.none_unreported me.scatter) turned.valid many leads.2
    (λ few k l z. drained c.in-Done.is few
    (subst (λ z. drains (s.node me.scatter) z ≡ true) count c.requires.node.4)
    k l z) c.requires.node.1 (g.met.S.Splits.starts s1 0) in
    ended

pub begin_fragments-requires-clause-ports : goal.begin_fragments-requires-clause-ports
begin_fragments-requires-clause-ports g c =
    let x = g.X.Executor in
    let s = g.S.Executor in
    let h = g.F.Feed in
    let p = g.W.Surroundings in
    let me = c.args.self.now in
    let feeds = me.fragments.items in
    let count = count_trees h feeds in
    let many : ports (s.node me.scatter) ≡ suc (length feeds) = c.requires.node.2 ∙ ap suc count in
    ap ports c.in_ok-input.ensures.node.node_is ∙ many

pub run_gather-requires-in-Give-clause-valid : goal.run_gather-requires-in-Give-clause-valid
run_gather-requires-in-Give-clause-valid g c =
    let x = g.X.Executor in
    let s = g.S.Executor in
    let h = g.F.Feed in
    let p = g.W.Surroundings in
    let me = c.args.self.now in
    let feeds = me.fragments.items in
    let turned = c.in_ok-input.ensures in
    let w1 = c.turn.new.world in
    let s1 = c.turn.new.self in
    let mx = g.met.X.Executor in
    let stays = scatter_turned x s h p mx.kept_gives mx.kept_valid mx.kept_budget g.met.X.Unlinked.no_links
    g.met.S.Unlinked.no_links me c.requires.valid turned.world in
    let same = c.begin_fragments.ensures.same in
    let fresh = c.in_ok-begin_fragments-in-Give.ensures.fresh in
    let feeds1 = c.begin_fragments.new.fragments.items in
    gathering_begun x s h p me.gather s1 (p.stock w1) (row_of me.start) feeds1 w1 stays.gather_valid
    (c.requires.valid.unfilled c.if-self.false)
    (λ k l. c.requires.node.3 k (is_less l (same.count ∙ sym (count_trees h feeds)))) fresh

pub run_gather-requires-in-Give-clause-fits : goal.run_gather-requires-in-Give-clause-fits
run_gather-requires-in-Give-clause-fits g c =
    let x = g.X.Executor in
    let s = g.S.Executor in
    let h = g.F.Feed in
    let p = g.W.Surroundings in
    let me = c.args.self.now in
    let feeds = me.fragments.items in
    let turned = c.in_ok-input.ensures in
    let w1 = c.turn.new.world in
    let s1 = c.turn.new.self in
    let same = c.begin_fragments.ensures.same in
    let fresh = c.in_ok-begin_fragments-in-Give.ensures.fresh in
    let feeds1 = c.begin_fragments.new.fragments.items in
    gathers_of x s h p _ me.gather feeds1 (c.requires.node.0 ∙ sym (ap count_of same.trees))
    (λ k l. c.requires.node.3 k (subst (λ z. k < count_of z) same.trees l))
    (rw (turned.world.stock, same.trees) c.requires.node.6) (rw turned.world.stock c.requires.node.7)

pub run_gather-requires-in-Give-clause-batch : goal.run_gather-requires-in-Give-clause-batch
run_gather-requires-in-Give-clause-batch g c =
    at_most_same c.requires.batch c.in_ok-input.ensures.world.batch

pub returns-in_err-begin_fragments-in-Give-clause-node :
    goal.returns-in_err-begin_fragments-in-Give-clause-node
returns-in_err-begin_fragments-in-Give-clause-node g c =
    let x = g.X.Executor in
    let s = g.S.Executor in
    let h = g.F.Feed in
    let p = g.W.Surroundings in
    let me = c.args.self.now in
    let feeds = me.fragments.items in
    let turned = c.in_ok-input.ensures in
    let w1 = c.turn.new.world in
    let s1 = c.turn.new.self in
    same_node x s h p me.gather me.gather me.scatter s1 feeds c.begin_fragments.new.fragments.items
    (same_executor x me.gather) turned.node c.begin_fragments.ensures.same

pub returns-in_err-begin_fragments-in-Give-clause-world :
    goal.returns-in_err-begin_fragments-in-Give-clause-world
returns-in_err-begin_fragments-in-Give-clause-world g c =
    let x = g.X.Executor in
    let s = g.S.Executor in
    let h = g.F.Feed in
    let p = g.W.Surroundings in
    let me = c.args.self.now in
    let feeds = me.fragments.items in
    let turned = c.in_ok-input.ensures in
    let w1 = c.turn.new.world in
    let s1 = c.turn.new.self in
    let mx = g.met.X.Executor in
    let stays = scatter_turned x s h p mx.kept_gives mx.kept_valid mx.kept_budget g.met.X.Unlinked.no_links
    g.met.S.Unlinked.no_links me c.requires.valid turned.world in
    stays.beside

pub returns-in_err-step-in-Give-clause-node : goal.returns-in_err-step-in-Give-clause-node
returns-in_err-step-in-Give-clause-node g c =
    let x = g.X.Executor in
    let s = g.S.Executor in
    let h = g.F.Feed in
    let p = g.W.Surroundings in
    let me = c.args.self.now in
    let feeds = me.fragments.items in
    let turned = c.in_ok-input.ensures in
    let w1 = c.turn.new.world in
    let s1 = c.turn.new.self in
    let same = c.begin_fragments.ensures.same in
    let fresh = c.in_ok-begin_fragments-in-Give.ensures.fresh in
    let feeds1 = c.begin_fragments.new.fragments.items in
    let pulled = c.run_gather-in-Give.ensures in
    let feeds2 = c.run_gather-in-Give.new.feeds.items in
    same_node x s h p me.gather c.run_gather-in-Give.new.gather me.scatter s1 feeds feeds2 pulled.node
    turned.node
    (same_then h feeds feeds1 feeds2 same pulled.feeds)

pub returns-in_err-step-in-Give-clause-world : goal.returns-in_err-step-in-Give-clause-world
returns-in_err-step-in-Give-clause-world g c =
    let x = g.X.Executor in
    let s = g.S.Executor in
    let h = g.F.Feed in
    let p = g.W.Surroundings in
    let me = c.args.self.now in
    let feeds = me.fragments.items in
    let turned = c.in_ok-input.ensures in
    let w1 = c.turn.new.world in
    let s1 = c.turn.new.self in
    let mx = g.met.X.Executor in
    let stays = scatter_turned x s h p mx.kept_gives mx.kept_valid mx.kept_budget g.met.X.Unlinked.no_links
    g.met.S.Unlinked.no_links me c.requires.valid turned.world in
    let fresh = c.in_ok-begin_fragments-in-Give.ensures.fresh in
    beside_then p stays.beside
    (beside_weaker p (λ l o. absurd ((fresh o.0 o.1 o.2).no_link l o.3)) c.run_gather-in-Give.ensures.world)

pub returns-in_ok-step-in-Give-clause-node : goal.returns-in_ok-step-in-Give-clause-node
returns-in_ok-step-in-Give-clause-node g c =
    let x = g.X.Executor in
    let s = g.S.Executor in
    let h = g.F.Feed in
    let p = g.W.Surroundings in
    let me = c.args.self.now in
    let feeds = me.fragments.items in
    let turned = c.in_ok-input.ensures in
    let w1 = c.turn.new.world in
    let s1 = c.turn.new.self in
    let same = c.begin_fragments.ensures.same in
    let fresh = c.in_ok-begin_fragments-in-Give.ensures.fresh in
    let feeds1 = c.begin_fragments.new.fragments.items in
    let pulled = c.run_gather-in-Give.ensures in
    let feeds2 = c.run_gather-in-Give.new.feeds.items in
    same_node x s h p me.gather c.run_gather-in-Give.new.gather me.scatter s1 feeds feeds2 pulled.node
    turned.node
    (same_then h feeds feeds1 feeds2 same pulled.feeds)

pub returns-in_ok-step-in-Give-clause-world : goal.returns-in_ok-step-in-Give-clause-world
returns-in_ok-step-in-Give-clause-world g c =
    let x = g.X.Executor in
    let s = g.S.Executor in
    let h = g.F.Feed in
    let p = g.W.Surroundings in
    let me = c.args.self.now in
    let feeds = me.fragments.items in
    let turned = c.in_ok-input.ensures in
    let w1 = c.turn.new.world in
    let s1 = c.turn.new.self in
    let mx = g.met.X.Executor in
    let stays = scatter_turned x s h p mx.kept_gives mx.kept_valid mx.kept_budget g.met.X.Unlinked.no_links
    g.met.S.Unlinked.no_links me c.requires.valid turned.world in
    let fresh = c.in_ok-begin_fragments-in-Give.ensures.fresh in
    beside_then p stays.beside
    (beside_weaker p (λ l o. absurd ((fresh o.0 o.1 o.2).no_link l o.3)) c.run_gather-in-Give.ensures.world)

pub returns-in_ok-step-in-Give-clause-valid : goal.returns-in_ok-step-in-Give-clause-valid
returns-in_ok-step-in-Give-clause-valid g c =
    let x = g.X.Executor in
    let s = g.S.Executor in
    let h = g.F.Feed in
    let p = g.W.Surroundings in
    let me = c.args.self.now in
    let feeds = me.fragments.items in
    let count = count_trees h feeds in
    let many : ports (s.node me.scatter) ≡ suc (length feeds) = c.requires.node.2 ∙ ap suc count in
    let turned = c.in_ok-input.ensures in
    let w1 = c.turn.new.world in
    let s1 = c.turn.new.self in
    let at : c.len-last.result ≡ length feeds = c.len-last.ensures ∙ me.fragments.ok.0 in
    let leads = rw (c.in-Give.is, at) at turned.leads in
    let drained = rw (c.in-Give.is, at) at turned.drained in
    let ended = ended_at_done x s h p g.met.S.Splits.silent g.met.S.Executor.some me.scatter s1 (length feeds)
    c.args.world.now w1 c.args.call c.in-Give.step leads.0 c.requires.call
    (g.met.S.Splits.none_unreported me.scatter) turned.valid many leads.2
    (λ few k l z. drained c.in-Done.is few
    (subst (λ z. drains (s.node me.scatter) z ≡ true) count c.requires.node.4)
    k l z) c.requires.node.1 (g.met.S.Splits.starts s1 0) in
    let pulled = c.in_ok-step-in-Give.ensures in
    let inputs = rw c.in-Give.is at turned.inputs in
    record {
      gather_valid = pulled.valid.executor_valid;
      scatter_valid = g.met.S.Executor.kept_valid s1 w1 c.run_gather-in-Give.new.world pulled.world.stock
          pulled.world.batch pulled.world.grows (λ l o. absurd (g.met.S.Unlinked.no_links s1 l o))
          turned.valid;
      unfilled = λ e. absurd (false≢true (sym e));
      filled = λ e. (record { ended = ended; none_waits = λ k. (inputs k).2 }, pulled.valid);
    }

pub returns-in_ok-step-in-Give-clause-ours : goal.returns-in_ok-step-in-Give-clause-ours
returns-in_ok-step-in-Give-clause-ours g c l o =
    let pulled = c.in_ok-step-in-Give.ensures in
    let fresh = c.in_ok-begin_fragments-in-Give.ensures.fresh in
    elim (pulled.ours l o.1) [
      | inl q ↦ absurd ((fresh q.0 q.1 q.2).no_link l q.3)
      | inr q ↦ inr (at_most c.in_ok-input.ensures.world.grows q)
    ]

pub returns-in_ok-step-in-Give-clause-leads : goal.returns-in_ok-step-in-Give-clause-leads
returns-in_ok-step-in-Give-clause-leads g c =
    let x = g.X.Executor in
    let s = g.S.Executor in
    let h = g.F.Feed in
    let p = g.W.Surroundings in
    let me = c.args.self.now in
    let feeds = me.fragments.items in
    let count = count_trees h feeds in
    let many : ports (s.node me.scatter) ≡ suc (length feeds) = c.requires.node.2 ∙ ap suc count in
    let turned = c.in_ok-input.ensures in
    let w1 = c.turn.new.world in
    let s1 = c.turn.new.self in
    let mx = g.met.X.Executor in
    let stays = scatter_turned x s h p mx.kept_gives mx.kept_valid mx.kept_budget g.met.X.Unlinked.no_links
    g.met.S.Unlinked.no_links me c.requires.valid turned.world in
    let at : c.len-last.result ≡ length feeds = c.len-last.ensures ∙ me.fragments.ok.0 in
    let leads = rw (c.in-Give.is, at) at turned.leads in
    let other = rw (c.in-Give.is, at) at turned.other_ports in
    let drained = rw (c.in-Give.is, at) at turned.drained in
    let ended = ended_at_done x s h p g.met.S.Splits.silent g.met.S.Executor.some me.scatter s1 (length feeds)
    c.args.world.now w1 c.args.call c.in-Give.step leads.0 c.requires.call
    (g.met.S.Splits.none_unreported me.scatter) turned.valid many leads.2
    (λ few k l z. drained c.in-Done.is few
    (subst (λ z. drains (s.node me.scatter) z ≡ true) count c.requires.node.4)
    k l z) c.requires.node.1 (g.met.S.Splits.starts s1 0) in
    let same = c.begin_fragments.ensures.same in
    let fresh = c.in_ok-begin_fragments-in-Give.ensures.fresh in
    let feeds1 = c.begin_fragments.new.fragments.items in
    let pulled = c.in_ok-step-in-Give.ensures in
    let exact : Within (exact_at (Shards (x.node me.gather) (s.node me.scatter) (trees_of h feeds)))
    (exact_over x h p me.gather feeds1) =
    λ i y. exact_same x s h p me.gather feeds feeds1 same.trees i
    (exact_fragments x s h p me.gather me.scatter feeds i y) in
    let step = c.in_ok-step-in-Give.step in
    let w2 = c.run_gather-in-Give.new.world in
    let inputs = rw c.in-Give.is at turned.inputs in (
      plus leads.0 pulled.leads.0,
      rises_then p _ _ _ _ _ _ _ _ (rises_scatter x s h p me.gather me.scatter feeds c.args.call leads.1)
          (rises_weaker p _ _ _ _ pulled.leads.0 (λ j i. (i.0, exact j i.1)) pulled.leads.1),
      λ e ex body so ins ins' lens eqs ends r d.
          let q = pulled.leads.2 d.own (d.lists, d.ends, d.each, d.gathers) in
          let ends1 : Ends e (s.ended s1) ins =
          λ k z. ends_of (s.ended me.scatter) (s.unreported me.scatter) so ins ins'
          (g.met.S.Splits.none_unreported me.scatter) eqs ends k (sym (inputs k).1 ∙ z) in
          let fills = g.met.S.Executor.kept_gives s1 w1 w2 pulled.world.stock
          (λ l o. absurd (g.met.S.Unlinked.no_links s1 l o)) (length feeds) no_body ins d.filling
          (subst (λ z. s.gives s1 w2 z no_body ins d.filling) (pulled.feeds.count ∙ same.count) d.fills) in
          let between : Rest = record { rows = q.1.rows; counts = λ i. q.1.counts i + d.filling.counts i } in
          let filled = fill_back x s h p (record me { scatter = s1 }) c.if-self.false feeds1 same w1 fresh ins
          (ends1 0 ended).0 q.1 d.filling q.4 fills in
          let z = gave_nothing x s h p g.met.S.Splits.silent me s1 c.if-self.false stays turned.world.stock many
          leads.0
          other.0 c.in-Give.step leads.2 other.2 e ex so ins ins' lens eqs ends between filled in (
            q.0,
            z.2.0,
            q.2,
            prefixed_then (q.0 ++ given step) pulled.leads.0 leads.0 r between z.2.0
                (rest_led (q.0 ++ given step) pulled.leads.0 d.own q.1 d.filling.counts r d.rows d.counts
                (prefixed_weaker _ pulled.leads.0 d.own q.1 (λ i y. exact i (ex i y)) q.3)) z.2.1,
            z.2.2,
          ),
    )

pub returns-in_ok-step-in-Give-clause-other_ports : goal.returns-in_ok-step-in-Give-clause-other_ports
returns-in_ok-step-in-Give-clause-other_ports g c =
    let x = g.X.Executor in
    let s = g.S.Executor in
    let h = g.F.Feed in
    let p = g.W.Surroundings in
    let me = c.args.self.now in
    let feeds = me.fragments.items in
    let same = c.begin_fragments.ensures.same in
    let fresh = c.in_ok-begin_fragments-in-Give.ensures.fresh in
    let feeds1 = c.begin_fragments.new.fragments.items in
    let pulled = c.in_ok-step-in-Give.ensures in
    let exact : Within (exact_at (Shards (x.node me.gather) (s.node me.scatter) (trees_of h feeds)))
    (exact_over x h p me.gather feeds1) =
    λ i y. exact_same x s h p me.gather feeds feeds1 same.trees i
    (exact_fragments x s h p me.gather me.scatter feeds i y) in
    let leads = rw c.in-Give.is at c.in_ok-input.ensures.leads in (
      plus leads.0 pulled.leads.0,
      rises_then p _ _ _ _ _ _ _ _ (rises_scatter x s h p me.gather me.scatter feeds c.args.call leads.1)
          (rises_weaker p _ _ _ _ pulled.leads.0 (λ j i. (i.0, exact j i.1)) pulled.leads.1),
      λ e ex q body so ins ins' r n le lens eqs ends d. absurd (no_other c.args._port q c.requires.port n le),
    )

pub returns-in_ok-step-in-Give-clause-done : goal.returns-in_ok-step-in-Give-clause-done
returns-in_ok-step-in-Give-clause-done g c e =
    let x = g.X.Executor in
    let s = g.S.Executor in
    let h = g.F.Feed in
    let p = g.W.Surroundings in
    let me = c.args.self.now in
    let feeds = me.fragments.items in
    let count = count_trees h feeds in
    let many : ports (s.node me.scatter) ≡ suc (length feeds) = c.requires.node.2 ∙ ap suc count in
    let turned = c.in_ok-input.ensures in
    let w1 = c.turn.new.world in
    let s1 = c.turn.new.self in
    let at : c.len-last.result ≡ length feeds = c.len-last.ensures ∙ me.fragments.ok.0 in
    let leads = rw (c.in-Give.is, at) at turned.leads in
    let drained = rw (c.in-Give.is, at) at turned.drained in
    let ended = ended_at_done x s h p g.met.S.Splits.silent g.met.S.Executor.some me.scatter s1 (length feeds)
    c.args.world.now w1 c.args.call c.in-Give.step leads.0 c.requires.call
    (g.met.S.Splits.none_unreported me.scatter) turned.valid many leads.2
    (λ few k l z. drained c.in-Done.is few
    (subst (λ z. drains (s.node me.scatter) z ≡ true) count c.requires.node.4)
    k l z) c.requires.node.1 (g.met.S.Splits.starts s1 0) in
    let same = c.begin_fragments.ensures.same in
    let fresh = c.in_ok-begin_fragments-in-Give.ensures.fresh in
    let feeds1 = c.begin_fragments.new.fragments.items in
    let pulled = c.in_ok-step-in-Give.ensures in
    let exact : Within (exact_at (Shards (x.node me.gather) (s.node me.scatter) (trees_of h feeds)))
    (exact_over x h p me.gather feeds1) =
    λ i y. exact_same x s h p me.gather feeds feeds1 same.trees i
    (exact_fragments x s h p me.gather me.scatter feeds i y) in
    let feeds2 = c.run_gather-in-Give.new.feeds.items in
    elim (pulled.done e) [
      | inl z ↦ inl z
      | inr z ↦ inr (λ v first ex body ins ends r d.
          let o = z d.own (d.lists, d.ends, d.each, d.gathers) in
          let fills = g.met.S.Splits.silent s1 c.run_gather-in-Give.new.world (length feeds2) no_body ins
          d.filling
          (ap ports turned.node.node_is ∙ many ∙ ap suc (sym (pulled.feeds.count ∙ same.count))) d.fills in (
            d.rows ∙ o.0,
            λ i y. both_zero (d.counts i) (o.1 i (exact i (ex i y))) (fills.1 i ∙ (ends 0 ended).1 i y),
          ))
    ]

pub returns-in_ok-step-in-Give-clause-drained : goal.returns-in_ok-step-in-Give-clause-drained
returns-in_ok-step-in-Give-clause-drained g c _ _ _ k l _ =
    let x = g.X.Executor in
    let s = g.S.Executor in
    let h = g.F.Feed in
    let p = g.W.Surroundings in
    let me = c.args.self.now in
    let feeds = me.fragments.items in
    let count = count_trees h feeds in
    let many : ports (s.node me.scatter) ≡ suc (length feeds) = c.requires.node.2 ∙ ap suc count in
    let turned = c.in_ok-input.ensures in
    let w1 = c.turn.new.world in
    let s1 = c.turn.new.self in
    let at : c.len-last.result ≡ length feeds = c.len-last.ensures ∙ me.fragments.ok.0 in
    let leads = rw (c.in-Give.is, at) at turned.leads in
    let drained = rw (c.in-Give.is, at) at turned.drained in
    let ended = ended_at_done x s h p g.met.S.Splits.silent g.met.S.Executor.some me.scatter s1 (length feeds)
    c.args.world.now w1 c.args.call c.in-Give.step leads.0 c.requires.call
    (g.met.S.Splits.none_unreported me.scatter) turned.valid many leads.2
    (λ few k l z. drained c.in-Done.is few
    (subst (λ z. drains (s.node me.scatter) z ≡ true) count c.requires.node.4)
    k l z) c.requires.node.1 (g.met.S.Splits.starts s1 0) in
    subst (λ z. s.ended s1 z ≡ true) (sym (only_input k l)) ended

pub returns-in_ok-step-in-Give-clause-may : goal.returns-in_ok-step-in-Give-clause-may
returns-in_ok-step-in-Give-clause-may g c q i f _ =
    c.in_ok-step-in-Give.ensures.may q i f

pub returns-in_ok-step-in-Give-clause-waiting : goal.returns-in_ok-step-in-Give-clause-waiting
returns-in_ok-step-in-Give-clause-waiting g c e =
    let pulled = c.in_ok-step-in-Give.ensures in
    let f = pulled.waiting e in inr (f.0, (refl, f.1), f.2)

pub returns-in_ok-step-in-Give-clause-budget : goal.returns-in_ok-step-in-Give-clause-budget
returns-in_ok-step-in-Give-clause-budget g c f =
    let x = g.X.Executor in
    let s = g.S.Executor in
    let h = g.F.Feed in
    let p = g.W.Surroundings in
    let me = c.args.self.now in
    let feeds = me.fragments.items in
    let turned = c.in_ok-input.ensures in
    let w1 = c.turn.new.world in
    let s1 = c.turn.new.self in
    let mx = g.met.X.Executor in
    let stays = scatter_turned x s h p mx.kept_gives mx.kept_valid mx.kept_budget g.met.X.Unlinked.no_links
    g.met.S.Unlinked.no_links me c.requires.valid turned.world in
    let same = c.begin_fragments.ensures.same in
    let fresh = c.in_ok-begin_fragments-in-Give.ensures.fresh in
    let feeds1 = c.begin_fragments.new.fragments.items in
    let pulled = c.in_ok-step-in-Give.ensures in
    let w2 = c.run_gather-in-Give.new.world in
    let x2 = c.run_gather-in-Give.new.gather in
    let feeds2 = c.run_gather-in-Give.new.feeds.items in
    let cost = λ (k : ℕ). x.row_cost me.gather k 0 in
    let all = total_less h.full (λ z. h.budget z w1) cost feeds1 (λ j a m. (fresh j a m).budget w1) in
    let fulls : total (λ z. h.budget z w1) cost feeds1 ≤ total h.full cost feeds =
    rw (← same.fulls cost) all in
    let by = total_by (λ z. h.budget z w2) cost (λ k. x.row_cost x2 k 0) feeds2
    (λ k. pulled.node.row_cost_is k 0) in
    let budget = rw (← by) at pulled.budget in
    budget_filled me.filled (x.budget me.gather c.args.world.now 0) (x.budget me.gather w1 0)
    (x.budget x2 w2 0 + total (λ z. h.budget z w2) (λ k. x.row_cost x2 k 0) feeds2) _
    (s.budget me.scatter c.args.world.now 0) (total h.full cost feeds) (reported c.in_ok-step-in-Give.step)
    (total (λ z. h.budget z w1) cost feeds1) c.if-self.false stays.gather_budget fulls budget
