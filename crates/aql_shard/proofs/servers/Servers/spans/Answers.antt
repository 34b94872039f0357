use Rattle.std.proofs.Common.{map, length, ap, ◌∙◌}
use Rattle.aql_value.specs.View.{datum_of}
use Rattle.aql_meaning.specs.Documents.{one_of}
use Rattle.aql_index.specs.Usable.{SpansFit}
use Rattle.aql_plan.specs.declared.facts.IndexFact.{IndexFact}
use Rattle.aql_shard.specs.Holding.{Holding}
use Rattle.aql_shard.specs.Parts.{parts_of}
use Rattle.aql_shard.proofs.Searched.{parts_there, is_there, takes_spans, apart, each_exactly}
use Rattle.aql_shard.proofs.servers.Servers.spans.Goals as goal

pub part_at-part-requires : goal.part_at-part-requires
part_at-part-requires c =
    let theirs = c.self.invariant ∙ ap (λ (h : Holding). map (parts_of h.servers) h.held) c.self.view_is in
    parts_there c.args.self.now c.self.inside.parts theirs c.args.coll.0 c.args.shard c.requires.0

pub index_in-requires : goal.index_in-requires
index_in-requires c =
    let theirs = c.self.invariant ∙ ap (λ (h : Holding). map (parts_of h.servers) h.held) c.self.view_is in
    is_there c.args.self.now c.self.inside.parts theirs c.args.coll.0 c.args.shard c.requires.0
    c.part_at-part.result.now c.part_at-part.ensures c.args.index
    (λ (i : IndexFact). SpansFit i.kind (length i.attributes) (length c.args.equal.now)) c.requires.1

pub spans_of-requires : goal.spans_of-requires
spans_of-requires c =
    let theirs = c.self.invariant ∙ ap (λ (h : Holding). map (parts_of h.servers) h.held) c.self.view_is in
    takes_spans c.args.self.now c.self.inside.parts theirs c.args.coll.0 c.args.shard c.requires.0
    c.part_at-part.result.now c.part_at-part.ensures c.args.index c.index_in.result.now c.index_in.ensures
    (length c.args.equal.now) c.requires.1

pub returns-clause-apart : goal.returns-clause-apart
returns-clause-apart c =
    let theirs = c.self.invariant ∙ ap (λ (h : Holding). map (parts_of h.servers) h.held) c.self.view_is in
    apart c.args.self.now c.self.inside.parts theirs c.args.coll.0 c.args.shard c.requires.0
    c.part_at-part.result.now c.part_at-part.ensures c.args.index c.index_in.result.now c.index_in.ensures
    c.in_ok-spans.spans c.in_ok-spans.ensures.apart

pub returns-clause-exactly : goal.returns-clause-exactly
returns-clause-exactly c =
    let theirs = c.self.invariant ∙ ap (λ (h : Holding). map (parts_of h.servers) h.held) c.self.view_is in
    each_exactly c.args.self.now c.self.inside.parts theirs c.args.coll.0 c.args.shard c.requires.0
    c.part_at-part.result.now c.part_at-part.ensures c.args.index c.index_in.result.now c.index_in.ensures
    c.args.equal.now (one_of (datum_of c.args.list.now)) c.in_ok-spans.spans c.in_ok-spans.ensures.exactly
