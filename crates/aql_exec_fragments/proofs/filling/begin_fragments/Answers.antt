use Rattle.std.proofs.Common.{inl, inr, length, refl, sym, subst, arith}
use Rattle.std.proofs.lemmas.Option.{slice_get_read, slice_get_within}
use Rattle.aql_block.specs.Rows.{row_of}
use Rattle.aql_engine.specs.Run.{rows_in}
use Rattle.aql_exec_fragments.specs.Filling.{IsFresh}
use Rattle.aql_exec_fragments.specs.laws.Places.{at_set}
use Rattle.aql_exec_fragments.proofs.Pulling.{each_tree, same_then, same_set, less_or_at}
use Rattle.aql_exec_fragments.proofs.filling.begin_fragments.Goals as goal

pub restart_over-requires : goal.restart_over-requires
restart_over-requires g c =
    let feeds = c.loop-at.fragments.items in
    let k = c.loop-at.at in
    let at = c.index_mut.result.now in
    let count = c.loop-at.invariant.same.count in
    let here = slice_get_read feeds (length feeds) k at refl (omega (arith, c.loop-at-test.true, count))
    c.index_mut.ensures.value in
    record {
      plan = (
        c.requires.trees.0,
        each_tree g.F.Feed c.requires.trees.0 feeds (rw c.loop-at.invariant.same.trees c.requires.trees.1) k
            at here,
      );
    }

pub returns-in_err-restart_over-clause-same : goal.returns-in_err-restart_over-clause-same
returns-in_err-restart_over-clause-same g c =
    let h = g.F.Feed in
    let feeds = c.loop-at.fragments.items in
    let k = c.loop-at.at in
    let at = c.index_mut.result.now in
    let count = c.loop-at.invariant.same.count in
    let here = slice_get_read feeds (length feeds) k at refl (omega (arith, c.loop-at-test.true, count))
    c.index_mut.ensures.value in
    same_then h c.args.fragments.now.items feeds _ c.loop-at.invariant.same
    (same_set h feeds k at c.restart_over.new.self here c.restart_over.ensures.plan
    c.restart_over.ensures.full)

pub loop-at-preserved : goal.loop-at-preserved
loop-at-preserved g c =
    let s = g.S.Executor in
    let h = g.F.Feed in
    let p = g.W.Surroundings in
    let feeds = c.loop-at.fragments.items in
    let k = c.loop-at.at in
    let at = c.index_mut.result.now in
    let f = c.restart_over.new.self in
    let start = row_of c.args.start.now in
    let scatter = c.args.scatter.now in
    let stock = p.stock c.args.world.now in
    let count = c.loop-at.invariant.same.count in
    let here = slice_get_read feeds (length feeds) k at refl (omega (arith, c.loop-at-test.true, count))
    c.index_mut.ensures.value in
    let begun = c.in_ok-restart_over.ensures in
    let fresh : IsFresh s h p scatter stock start k f = record {
      valid = begun.valid;
      produces = λ w r o. (
        rows_in c.in_ok-part.part.value,
        (λ v ins same none. c.in_ok-part.ensures v _ ins same none),
        begun.produces w r o,
      );
      may_come = begun.may;
      no_link = begun.ours;
      budget = begun.budget;
    } in
    record {
      same = same_then h c.args.fragments.now.items feeds _ c.loop-at.invariant.same
          (same_set h feeds k at f here begun.plan begun.full);
      fresh = λ j b l e. elim (at_set feeds k j f b e) [
        | inl q ↦ subst (λ z. IsFresh s h p scatter stock start j z) q.1
            (subst (λ z. IsFresh s h p scatter stock start z f) (sym q.0) fresh)
        | inr q ↦ c.loop-at.invariant.fresh j b (less_or_at l q.0) q.1
      ];
    }

pub returns-clause-fresh : goal.returns-clause-fresh
returns-clause-fresh g c k f e =
    let l = slice_get_within c.loop-at.fragments.items k f e in
    let count = c.loop-at.invariant.same.count in
    c.loop-at.invariant.fresh k f (omega (arith, l, count, c.loop-at-test.false)) e
