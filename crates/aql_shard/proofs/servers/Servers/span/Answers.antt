use Rattle.std.proofs.Common.{map, length, ap, ◌∙◌}
use Rattle.aql_index.specs.Bounds.{range_of}
use Rattle.aql_index.specs.Usable.{SpanFits}
use Rattle.aql_plan.specs.declared.facts.IndexFact.{IndexFact}
use Rattle.aql_shard.specs.Holding.{Holding}
use Rattle.aql_shard.specs.Parts.{parts_of}
use Rattle.aql_shard.proofs.Searched.{parts_there, is_there, takes_span, within, exactly}
use Rattle.aql_shard.proofs.servers.Servers.span.Goals as goal

pub part_at-part-requires : goal.part_at-part-requires
part_at-part-requires c =
    let theirs = c.self.invariant ∙ ap (λ (h : Holding). map (parts_of h.servers) h.held) c.self.view_is in
    parts_there c.args.self.now c.self.inside.parts theirs c.args.coll.0 c.args.shard c.requires.0

pub index_in-requires : goal.index_in-requires
index_in-requires c =
    let theirs = c.self.invariant ∙ ap (λ (h : Holding). map (parts_of h.servers) h.held) c.self.view_is in
    let last = range_of c.args.low.now c.args.high.now in
    is_there c.args.self.now c.self.inside.parts theirs c.args.coll.0 c.args.shard c.requires.0
    c.part_at-part.result.now c.part_at-part.ensures c.args.index
    (λ (i : IndexFact). SpanFits i.kind (length i.attributes) (length c.args.equal.now) last) c.requires.1

pub range-requires : goal.range-requires
range-requires c =
    let theirs = c.self.invariant ∙ ap (λ (h : Holding). map (parts_of h.servers) h.held) c.self.view_is in
    takes_span c.args.self.now c.self.inside.parts theirs c.args.coll.0 c.args.shard c.requires.0
    c.part_at-part.result.now c.part_at-part.ensures c.args.index c.index_in.result.now c.index_in.ensures
    (length c.args.equal.now) (range_of c.args.low.now c.args.high.now) c.requires.1

pub returns-clause-within : goal.returns-clause-within
returns-clause-within c =
    let theirs = c.self.invariant ∙ ap (λ (h : Holding). map (parts_of h.servers) h.held) c.self.view_is in
    within c.args.self.now c.self.inside.parts theirs c.args.coll.0 c.args.shard c.requires.0
    c.part_at-part.result.now c.part_at-part.ensures c.args.index c.index_in.result.now c.index_in.ensures
    c.range.result c.range.ensures.within

pub returns-clause-exactly : goal.returns-clause-exactly
returns-clause-exactly c =
    let theirs = c.self.invariant ∙ ap (λ (h : Holding). map (parts_of h.servers) h.held) c.self.view_is in
    exactly c.args.self.now c.self.inside.parts theirs c.args.coll.0 c.args.shard c.requires.0
    c.part_at-part.result.now c.part_at-part.ensures c.args.index c.index_in.result.now c.index_in.ensures
    c.args.equal.now (range_of c.args.low.now c.args.high.now) c.range.result c.range.ensures.exactly
