use Rattle.std.proofs.Common.{◌∙◌, ◌<◌, ◌++◌, length, take, get_or, sym, ap, subst}
use Rattle.std.specs.List.{AllByRecursion}
use Rattle.aql_value.specs.declared.lists.CollNo.{CollNo}
use Rattle.aql_value.specs.Database.{documents_of}
use Rattle.aql_plan.specs.Fits.{IsEdgeCollection}
use Rattle.aql_plan.specs.Runs.{edges_in}
use Rattle.aql_exec_graph.specs.Found.{numbers, edges_found}
use Rattle.aql_shard.specs.Datasets.{stock}
use Rattle.aql_shard.specs.Holding.{Holding}
use Rattle.aql_local.proofs.Ways.{each_has, one_more_collection, steps_after_other, counted_after_other, both_found, still_same}
use Rattle.aql_local.proofs.edge_steps.edges_at.Goals as goal

pub add_all-requires-clause-edges : goal.add_all-requires-clause-edges
add_all-requires-clause-edges c =
    let items = c.as_slice-coll-items in
    let known = (stock c.args.servers.now).facts in
    subst (λ (h : Holding). IsEdgeCollection (stock h).facts
    (get_or items.result.now c.loop-coll.coll-index (record { 0 = 0 })).0) (sym c.loop-coll.invariant.same)
    (each_has (IsEdgeCollection known) items.result.now c.loop-coll.coll-index (record { 0 = 0 })
    (subst (λ cs. AllByRecursion (IsEdgeCollection known) (numbers cs)) (sym items.ensures) c.requires.edges)
    c.loop-coll-test.true)

pub loop-coll-preserved : goal.loop-coll-preserved
loop-coll-preserved c =
    let s = c.args.servers.now in
    let db = (stock s).db in
    let i = c.loop-coll.coll-index in
    let items = c.as_slice-coll-items in
    let colls = c.args.collections.now in
    let d : CollNo = record { 0 = 0 } in
    let es = edges_in db (numbers (take i colls)) in
    let ds = documents_of (stock c.loop-coll.servers).db (get_or items.result.now i d).0 in
    let same = ap (λ (h : Holding). documents_of (stock h).db (get_or items.result.now i d).0)
    c.loop-coll.invariant.same ∙ ap (λ cs. documents_of db (get_or cs i d).0) items.ensures in
    let below = subst (λ cs. i < length cs) items.ensures c.loop-coll-test.true in
    let all = one_more_collection db colls i d below ∙ ap (λ l. es ++ l) (sym same) in
    let counted = sym (counted_after_other c.args.id.now c.args.direction es ds)
    ∙ ap (λ l. edges_found c.args.direction l c.args.id.now) (sym all) in
    record {
      same = still_same s c.loop-coll.servers c.add_all.new.servers _ c.loop-coll.invariant.same
          c.in_ok-add_all.ensures.servers;
      steps = steps_after_other c.args.id.now c.args.direction es ds _ _ _ all c.loop-coll.invariant.steps
          c.in_ok-add_all.ensures.steps;
      tally = both_found c.args.tally.now c.loop-coll.tally c.add_all.new.tally _ _ _
          c.loop-coll.invariant.tally c.in_ok-add_all.ensures.tally counted;
      counts = both_found s.counts c.loop-coll.servers.counts c.add_all.new.servers.counts _ _ _
          c.loop-coll.invariant.counts c.in_ok-add_all.ensures.counts counted;
    }
