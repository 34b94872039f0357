use Rattle.std.proofs.Common.{length, ◌∙◌}
use Rattle.std.proofs.lemmas.List.{length_push}
use Rattle.std.proofs.lemmas.Slice.Zip.{zip_turn, zip_end}
use Rattle.aql_shard.proofs.Collected.{pair_more, pairs_taken}
use Rattle.aql_shard.proofs.known.index_facts.Goals as goal

pub loop-shape-preserved : goal.loop-shape-preserved
loop-shape-preserved c =
    let turn = zip_turn c.args.shapes.now c.args.indexes.now c.loop-shape.yielded
    c.into_iter-shape-iterator.result c.loop-shape.shape-iterator c.next.new.self c.next.result (cc) (cc)
    c.loop-shape.yielded_by (c.in-Some.shape, c.in-Some.index) c.in-Some.is c.next.ensures.steps in
    pair_more c.args.shapes.now c.args.indexes.now (length c.loop-shape.yielded) _ c.in-Some.shape.now
    c.in-Some.index.now c.loop-shape.facts c.push.new.self c.in_ok-index_fact.field-0 turn.0 turn.1
    (turn.2 c.in-Some.shape.now) (turn.3 c.in-Some.index.now) (length_push c.loop-shape.yielded _)
    c.in_ok-index_fact.ensures c.loop-shape.invariant c.in_ok-push.ensures.ok

pub returns : goal.returns
returns c =
    let end = zip_end c.args.shapes.now c.args.indexes.now c.loop-shape.yielded
    c.into_iter-shape-iterator.result c.loop-shape.shape-iterator c.next.new.self c.next.result (cc) (cc)
    c.loop-shape.yielded_by c.in-None.is c.next.ensures.steps in
    c.loop-shape.invariant
    ∙ pairs_taken c.args.shapes.now c.args.indexes.now (length c.loop-shape.yielded) end
