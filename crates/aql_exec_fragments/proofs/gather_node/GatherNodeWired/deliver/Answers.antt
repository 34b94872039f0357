use Rattle.std.proofs.Common.{◌+◌, inl, inr, [], length, refl, sym, ◌∙◌, subst}
use Rattle.std.proofs.lemmas.Bool.{false≢true}
use Rattle.std.specs.Vec.{with_item}
use Rattle.aql_exec.specs.laws.Counted.{rises_weaker, prefixed_weaker}
use Rattle.aql_exec_fragments.specs.Feeds.{no_body}
use Rattle.aql_exec_fragments.specs.laws.Places.{same_at}
use Rattle.aql_exec_fragments.specs.laws.Kept.{exact_feed}
use Rattle.aql_exec_fragments.proofs.Pulling.{each_tree, same_set, own_set}
use Rattle.aql_exec_fragments.proofs.Gathered.{beside_weaker, same_node, exact_fragments, rest_led, budget_kept, rests_of, given_of}
use Rattle.aql_exec_fragments.proofs.Delivering.{read_at, reached}
use Rattle.aql_exec_fragments.proofs.gather_node.GatherNodeWired.deliver.Goals as goal

pub deliver-requires-clause-taken : goal.deliver-requires-clause-taken
deliver-requires-clause-taken g c =
    let me = c.args.self.now in
    let feeds = me.fragments.items in
    let k = c.in-Some.at in
    let f = c.index_mut.result.now in
    let owner = rw c.deref.ensures.value at c.in-Some.ensures in
    let here = read_at feeds k owner.0 f owner.1 c.index_mut.ensures.value in
    let v = (c.requires.taken.1.filled c.if-not-self.false).1 in
    (c.requires.taken.0, (v.inputs k f here).input_valid refl, c.requires.taken.2)

pub deliver-requires-clause-ours : goal.deliver-requires-clause-ours
deliver-requires-clause-ours g c =
    let h = g.F.Feed in
    let me = c.args.self.now in
    let feeds = me.fragments.items in
    let k = c.in-Some.at in
    let f = c.index_mut.result.now in
    let owner = rw c.deref.ensures.value at c.in-Some.ensures in
    let here = read_at feeds k owner.0 f owner.1 c.index_mut.ensures.value in
    let own = subst (λ z. h.ours z c.args.link) (same_at feeds k owner.0 f owner.1 here) owner.2 in
    own

pub deliver-requires-clause-plan : goal.deliver-requires-clause-plan
deliver-requires-clause-plan g c =
    let me = c.args.self.now in
    let feeds = me.fragments.items in
    let k = c.in-Some.at in
    let f = c.index_mut.result.now in
    let owner = rw c.deref.ensures.value at c.in-Some.ensures in
    let here = read_at feeds k owner.0 f owner.1 c.index_mut.ensures.value in
    each_tree g.F.Feed _ feeds c.requires.node.6 k f here

pub returns-in_err-deliver-clause-node : goal.returns-in_err-deliver-clause-node
returns-in_err-deliver-clause-node g c =
    let x = g.X.Executor in
    let s = g.S.Executor in
    let h = g.F.Feed in
    let p = g.W.Surroundings in
    let me = c.args.self.now in
    let feeds = me.fragments.items in
    let k = c.in-Some.at in
    let f = c.index_mut.result.now in
    let owner = rw c.deref.ensures.value at c.in-Some.ensures in
    let here = read_at feeds k owner.0 f owner.1 c.index_mut.ensures.value in
    let f1 = c.deliver.new.self in
    let same = same_set h feeds k f f1 here c.deliver.ensures.plan c.deliver.ensures.full in
    same_node x s h p me.gather me.gather me.scatter me.scatter feeds _
    (record { node_is = refl; full_is = λ f. refl; row_cost_is = λ k f. refl })
    (record { node_is = refl; full_is = λ f. refl; row_cost_is = λ k f. refl }) same

pub returns-in_err-deliver-clause-world : goal.returns-in_err-deliver-clause-world
returns-in_err-deliver-clause-world g c =
    let me = c.args.self.now in
    let feeds = me.fragments.items in
    let k = c.in-Some.at in
    let f = c.index_mut.result.now in
    let owner = rw c.deref.ensures.value at c.in-Some.ensures in
    let here = read_at feeds k owner.0 f owner.1 c.index_mut.ensures.value in
    beside_weaker g.W.Surroundings (λ l o. (c.if-not-self.false, (k, f, here, o))) c.deliver.ensures.world

pub returns-clause-node : goal.returns-clause-node
returns-clause-node g c =
    let x = g.X.Executor in
    let s = g.S.Executor in
    let h = g.F.Feed in
    let p = g.W.Surroundings in
    let me = c.args.self.now in
    let feeds = me.fragments.items in
    let k = c.in-Some.at in
    let f = c.index_mut.result.now in
    let owner = rw c.deref.ensures.value at c.in-Some.ensures in
    let here = read_at feeds k owner.0 f owner.1 c.index_mut.ensures.value in
    let f1 = c.deliver.new.self in
    let same = same_set h feeds k f f1 here c.deliver.ensures.plan c.deliver.ensures.full in
    same_node x s h p me.gather me.gather me.scatter me.scatter feeds _
    (record { node_is = refl; full_is = λ f. refl; row_cost_is = λ k f. refl })
    (record { node_is = refl; full_is = λ f. refl; row_cost_is = λ k f. refl }) same

pub returns-clause-world : goal.returns-clause-world
returns-clause-world g c =
    let me = c.args.self.now in
    let feeds = me.fragments.items in
    let k = c.in-Some.at in
    let f = c.index_mut.result.now in
    let owner = rw c.deref.ensures.value at c.in-Some.ensures in
    let here = read_at feeds k owner.0 f owner.1 c.index_mut.ensures.value in
    beside_weaker g.W.Surroundings (λ l o. (c.if-not-self.false, (k, f, here, o))) c.deliver.ensures.world

pub returns-clause-ours : goal.returns-clause-ours
returns-clause-ours g c l o =
    let me = c.args.self.now in
    let feeds = me.fragments.items in
    let k = c.in-Some.at in
    let f = c.index_mut.result.now in
    let owner = rw c.deref.ensures.value at c.in-Some.ensures in
    let here = read_at feeds k owner.0 f owner.1 c.index_mut.ensures.value in
    elim (own_set g.F.Feed feeds k f c.deliver.new.self _ here c.in_ok-deliver.ensures.ours l o.1) [
      | inl q ↦ inl (o.0, q)
      | inr q ↦ inr q
    ]

pub returns-clause-valid : goal.returns-clause-valid
returns-clause-valid g c _ =
    let x = g.X.Executor in
    let s = g.S.Executor in
    let h = g.F.Feed in
    let p = g.W.Surroundings in
    let me = c.args.self.now in
    let feeds = me.fragments.items in
    let k = c.in-Some.at in
    let f = c.index_mut.result.now in
    let owner = rw c.deref.ensures.value at c.in-Some.ensures in
    let here = read_at feeds k owner.0 f owner.1 c.index_mut.ensures.value in
    let own = subst (λ z. h.ours z c.args.link) (same_at feeds k owner.0 f owner.1 here) owner.2 in
    let f1 = c.deliver.new.self in
    let same = same_set h feeds k f f1 here c.deliver.ensures.plan c.deliver.ensures.full in
    let filled = c.if-not-self.false in
    let dl = c.in_ok-deliver.ensures in
    let w1 = c.deliver.new.world in
    let mx = g.met.X.Executor in
    let ms = g.met.S.Executor in
    let mf = g.met.F.Feed in
    let no_s = g.met.S.Unlinked.no_links in
    let rest = (c.requires.taken.1).filled filled in
    let valid = (rest.1.inputs k f here).input_valid refl in
    let moved = dl.undisturbed c.requires.taken.0 valid c.requires.taken.2 in
    let a = reached x h p mx.kept_gives mx.kept_valid mx.kept_budget g.met.X.Unlinked.no_links mx.more_counts
    mf.kept_rests mf.kept_valid mf.kept_budget mf.own_links me.gather feeds k f f1 c.requires.taken.0
    c.args.world.now w1 c.args.link c.args.message moved.0 here same rest.1 c.requires.taken.2 own dl.world
    dl.valid dl.may dl.plan moved.2 dl.ours
    (dl.budget c.requires.taken.0 valid c.requires.taken.2) in
    record {
      gather_valid = a.valid.executor_valid;
      scatter_valid = ms.kept_valid me.scatter c.requires.taken.0 w1 a.later.stock a.later.batch a.later.grows
          (λ l o. absurd (no_s me.scatter l o)) c.requires.taken.1.scatter_valid;
      unfilled = λ b. absurd (false≢true (sym b ∙ filled));
      filled = λ b. (rest.0, a.valid);
    }

pub returns-clause-undisturbed : goal.returns-clause-undisturbed
returns-clause-undisturbed g c _ w v t =
    let x = g.X.Executor in
    let s = g.S.Executor in
    let h = g.F.Feed in
    let p = g.W.Surroundings in
    let me = c.args.self.now in
    let feeds = me.fragments.items in
    let k = c.in-Some.at in
    let f = c.index_mut.result.now in
    let owner = rw c.deref.ensures.value at c.in-Some.ensures in
    let here = read_at feeds k owner.0 f owner.1 c.index_mut.ensures.value in
    let own = subst (λ z. h.ours z c.args.link) (same_at feeds k owner.0 f owner.1 here) owner.2 in
    let f1 = c.deliver.new.self in
    let same = same_set h feeds k f f1 here c.deliver.ensures.plan c.deliver.ensures.full in
    let filled = c.if-not-self.false in
    let dl = c.in_ok-deliver.ensures in
    let w1 = c.deliver.new.world in
    let mx = g.met.X.Executor in
    let ms = g.met.S.Executor in
    let mf = g.met.F.Feed in
    let no_s = g.met.S.Unlinked.no_links in
    let rest = (v).filled filled in
    let valid = (rest.1.inputs k f here).input_valid refl in
    let moved = dl.undisturbed w valid t in
    let a = reached x h p mx.kept_gives mx.kept_valid mx.kept_budget g.met.X.Unlinked.no_links mx.more_counts
    mf.kept_rests mf.kept_valid mf.kept_budget mf.own_links me.gather feeds k f f1 w c.args.world.now w1
    c.args.link c.args.message moved.0 here same rest.1 t own dl.world dl.valid dl.may dl.plan moved.2 dl.ours
    (dl.budget w valid t) in (
      moved.0,
      rises_weaker p _ _ _ _ moved.0
          (λ j i. exact_feed x h p me.gather feeds k f here j
          (exact_fragments x s h p me.gather me.scatter feeds j i)) moved.1,
      λ e ex q body ins r d.
          let b = a.rests d.own
          (rests_of x s h p (record me { fragments = with_item me.fragments k f1 }) w1 ins r filled d) in
          let fills = ms.kept_gives me.scatter w w1 a.later.stock (λ l o. absurd (no_s me.scatter l o))
          (length feeds) no_body ins d.filling
          (subst (λ z. s.gives me.scatter w1 z no_body ins d.filling) same.count d.fills) in (
            record { rows = b.0.rows; counts = λ i. b.0.counts i + d.filling.counts i },
            rest_led [] moved.0 d.own b.0 d.filling.counts r d.rows d.counts
                (prefixed_weaker [] moved.0 d.own b.0
                (λ i y. exact_fragments x s h p me.gather me.scatter feeds i (ex i y)) b.1),
            given_of x s h p me w ins b.0 d.filling filled b.2 fills,
          ),
    )

pub returns-clause-budget : goal.returns-clause-budget
returns-clause-budget g c _ w v t n =
    let x = g.X.Executor in
    let s = g.S.Executor in
    let h = g.F.Feed in
    let p = g.W.Surroundings in
    let me = c.args.self.now in
    let feeds = me.fragments.items in
    let k = c.in-Some.at in
    let f = c.index_mut.result.now in
    let owner = rw c.deref.ensures.value at c.in-Some.ensures in
    let here = read_at feeds k owner.0 f owner.1 c.index_mut.ensures.value in
    let own = subst (λ z. h.ours z c.args.link) (same_at feeds k owner.0 f owner.1 here) owner.2 in
    let f1 = c.deliver.new.self in
    let same = same_set h feeds k f f1 here c.deliver.ensures.plan c.deliver.ensures.full in
    let filled = c.if-not-self.false in
    let dl = c.in_ok-deliver.ensures in
    let w1 = c.deliver.new.world in
    let mx = g.met.X.Executor in
    let ms = g.met.S.Executor in
    let mf = g.met.F.Feed in
    let no_s = g.met.S.Unlinked.no_links in
    let rest = (v).filled filled in
    let valid = (rest.1.inputs k f here).input_valid refl in
    let moved = dl.undisturbed w valid t in
    let a = reached x h p mx.kept_gives mx.kept_valid mx.kept_budget g.met.X.Unlinked.no_links mx.more_counts
    mf.kept_rests mf.kept_valid mf.kept_budget mf.own_links me.gather feeds k f f1 w c.args.world.now w1
    c.args.link c.args.message moved.0 here same rest.1 t own dl.world dl.valid dl.may dl.plan moved.2 dl.ours
    (dl.budget w valid t) in
    budget_kept me.filled _ _ _ _ _ _ filled a.budget
