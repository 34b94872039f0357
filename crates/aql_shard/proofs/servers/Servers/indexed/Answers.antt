use Rattle.std.proofs.Common.{◌<◌, map, length, subst, ap, sym, refl, ◌∙◌, List, arith}
use Rattle.std.specs.Prelude.{slice_get}
use Rattle.aql_value.specs.Datum.{Datum}
use Rattle.aql_value.specs.View.{datum_of}
use Rattle.aql_doc.specs.Held.{documents_at}
use Rattle.aql_doc.specs.Limits.{IsWithinLimits}
use Rattle.aql_plan.specs.declared.facts.IndexFact.{IndexFact}
use Rattle.aql_shard.specs.Holding.{Holding}
use Rattle.aql_shard.specs.Datasets.{stock, documents_read, one_found}
use Rattle.aql_shard.specs.Parts.{parts_of}
use Rattle.aql_shard.proofs.Collected.{few_there, place_fits}
use Rattle.aql_shard.proofs.Places.{place_there, reads_document}
use Rattle.aql_shard.proofs.Searched.{parts_there, reads, few_read, is_there, place_below, is_found, found_below, found_document}
use Rattle.aql_shard.proofs.servers.Servers.indexed.Goals as goal

pub part_at-part-requires : goal.part_at-part-requires
part_at-part-requires c =
    let theirs = c.self.invariant ∙ ap (λ (h : Holding). map (parts_of h.servers) h.held) c.self.view_is in
    parts_there c.args.self.now c.self.inside.parts theirs c.args.coll.0 c.args.shard c.requires.index.0

pub index_in-requires : goal.index_in-requires
index_in-requires c =
    let theirs = c.self.invariant ∙ ap (λ (h : Holding). map (parts_of h.servers) h.held) c.self.view_is in
    is_there c.args.self.now c.self.inside.parts theirs c.args.coll.0 c.args.shard c.requires.index.0
    c.part_at-part.result.now c.part_at-part.ensures c.args.index (λ (i : IndexFact). Unit {0})
    c.requires.index.1

pub overflow_cast-place : goal.overflow_cast-place
overflow_cast-place c =
    let me = c.args.self.now in
    let coll = c.args.coll.0 in
    let theirs = c.self.invariant ∙ ap (λ (h : Holding). map (parts_of h.servers) h.held) c.self.view_is in
    let few = few_there me.held coll
    (subst (λ (h : Holding). IsWithinLimits h.held) c.self.view_is c.recall_limits.ensures) in
    let below = place_below me c.self.inside.parts theirs coll c.args.shard c.requires.index.0
    c.part_at-part.result.now c.part_at-part.ensures c.args.index c.args.place c.requires.place in
    let most = few_read me c.self.inside.parts theirs coll c.args.shard c.requires.index.0 in
    place_fits c.args.place (length (documents_at me.held coll)) (omega (arith, below, most)) few

pub unreachable-requires : goal.unreachable-requires
unreachable-requires c =
    let theirs = c.self.invariant ∙ ap (λ (h : Holding). map (parts_of h.servers) h.held) c.self.view_is in
    is_found c.args.self.now c.self.inside.parts theirs c.args.coll.0 c.args.shard c.requires.index.0
    c.part_at-part.result.now c.part_at-part.ensures c.args.index c.index_in.result.now c.index_in.ensures
    c.args.place c.requires.place c.in_default.ensures

pub place_in-at-requires : goal.place_in-at-requires
place_in-at-requires c =
    let theirs = c.self.invariant ∙ ap (λ (h : Holding). map (parts_of h.servers) h.held) c.self.view_is in
    found_below c.args.self.now c.self.inside.parts theirs c.args.coll.0 c.args.shard c.requires.index.0
    c.part_at-part.result.now c.part_at-part.ensures c.args.index c.index_in.result.now c.index_in.ensures
    c.args.place c.in-Some.found c.in-Some.ensures

pub document_at-requires : goal.document_at-requires
document_at-requires c =
    let me = c.args.self.now in
    let coll = c.args.coll.0 in
    let shard = c.args.shard in
    let theirs = c.self.invariant ∙ ap (λ (h : Holding). map (parts_of h.servers) h.held) c.self.view_is in
    let reads = reads me c.self.inside.parts theirs coll shard c.requires.index.0
    c.part_at-part.result.now c.part_at-part.ensures in
    let here = ap (λ (h : Holding). documents_at h.held coll) c.self.view_is in
    subst (λ (ds : List Datum). c.place_in-at.result < length ds) (sym here)
    (place_there (documents_at me.held coll) (documents_read (stock me) coll shard)
    c.part_at-part.result.now.places reads c.in-Some.found c.place_in-at.result c.place_in-at.ensures)

pub returns : goal.returns
returns c =
    let me = c.args.self.now in
    let coll = c.args.coll.0 in
    let shard = c.args.shard in
    let theirs = c.self.invariant ∙ ap (λ (h : Holding). map (parts_of h.servers) h.held) c.self.view_is in
    let reads = reads me c.self.inside.parts theirs coll shard c.requires.index.0
    c.part_at-part.result.now c.part_at-part.ensures in
    let here = ap (λ (h : Holding). documents_at h.held coll) c.self.view_is in
    let document = reads_document (documents_at me.held coll) (documents_read (stock me) coll shard)
    c.part_at-part.result.now.places reads c.in-Some.found c.place_in-at.result c.place_in-at.ensures
    (datum_of c.document_at.result.now)
    (ap (λ ds. slice_get ds c.place_in-at.result) (sym here) ∙ c.document_at.ensures) in (
      (
        refl,
        λ _. tt,
        ap (λ t. let h : Holding = record {
          held = c.self.inside.catalog;
          servers = c.self.inside.servers;
          counts = t;
        } in h) c.add_indexed-2.ensures
            ∙ ap (λ (h : Holding). let k : Holding = record h { counts = one_found h.counts } in k)
            c.self.view_is,
      ),
      record {
        document = found_document me c.self.inside.parts theirs coll shard c.requires.index.0
            c.part_at-part.result.now c.part_at-part.ensures c.args.index c.index_in.result.now
            c.index_in.ensures c.args.place c.in-Some.found (datum_of c.document_at.result.now)
            c.in-Some.ensures document;
        tally = c.add_indexed.ensures;
        counts = tt;
      },
    )
