use Rattle.std.proofs.Common.{◌<◌, map, length, subst, ap, sym, refl, ◌∙◌, List}
use Rattle.std.specs.Prelude.{slice_get}
use Rattle.aql_value.specs.Datum.{Datum}
use Rattle.aql_value.specs.View.{datum_of}
use Rattle.aql_doc.specs.Held.{documents_at}
use Rattle.aql_shard.specs.Holding.{Holding}
use Rattle.aql_shard.specs.Datasets.{stock, documents_read, one_read}
use Rattle.aql_shard.specs.Parts.{parts_of}
use Rattle.aql_shard.proofs.Places.{place_there, reads_document}
use Rattle.aql_shard.proofs.Searched.{parts_there, reads, as_many}
use Rattle.aql_shard.proofs.servers.Servers.full.Goals as goal

pub part_at-part-requires : goal.part_at-part-requires
part_at-part-requires c =
    let theirs = c.self.invariant ∙ ap (λ (h : Holding). map (parts_of h.servers) h.held) c.self.view_is in
    parts_there c.args.self.now c.self.inside.parts theirs c.args.coll.0 c.args.shard c.requires.shard

pub place_in-at-requires : goal.place_in-at-requires
place_in-at-requires c =
    let theirs = c.self.invariant ∙ ap (λ (h : Holding). map (parts_of h.servers) h.held) c.self.view_is in
    subst (λ n. c.args.place < n) (sym (as_many c.args.self.now c.self.inside.parts theirs c.args.coll.0
    c.args.shard c.requires.shard c.part_at-part.result.now c.part_at-part.ensures)) c.requires.place

pub document_at-requires : goal.document_at-requires
document_at-requires c =
    let me = c.args.self.now in
    let coll = c.args.coll.0 in
    let shard = c.args.shard in
    let theirs = c.self.invariant ∙ ap (λ (h : Holding). map (parts_of h.servers) h.held) c.self.view_is in
    let reads = reads me c.self.inside.parts theirs coll shard c.requires.shard
    c.part_at-part.result.now c.part_at-part.ensures in
    let here = ap (λ (h : Holding). documents_at h.held coll) c.self.view_is in
    subst (λ (ds : List Datum). c.place_in-at.result < length ds) (sym here)
    (place_there (documents_at me.held coll) (documents_read (stock me) coll shard)
    c.part_at-part.result.now.places reads c.args.place c.place_in-at.result c.place_in-at.ensures)

pub returns : goal.returns
returns c =
    let me = c.args.self.now in
    let coll = c.args.coll.0 in
    let shard = c.args.shard in
    let theirs = c.self.invariant ∙ ap (λ (h : Holding). map (parts_of h.servers) h.held) c.self.view_is in
    let reads = reads me c.self.inside.parts theirs coll shard c.requires.shard
    c.part_at-part.result.now c.part_at-part.ensures in
    let here = ap (λ (h : Holding). documents_at h.held coll) c.self.view_is in (
      (
        refl,
        λ _. tt,
        ap (λ t. let h : Holding = record {
          held = c.self.inside.catalog;
          servers = c.self.inside.servers;
          counts = t;
        } in h) c.add_full-2.ensures
            ∙ ap (λ (h : Holding). let k : Holding = record h { counts = one_read h.counts } in k) c.self.view_is,
      ),
      record {
        document = reads_document (documents_at me.held coll) (documents_read (stock me) coll shard)
            c.part_at-part.result.now.places reads c.args.place c.place_in-at.result c.place_in-at.ensures
            (datum_of c.document_at.result.now)
            (ap (λ ds. slice_get ds c.place_in-at.result) (sym here) ∙ c.document_at.ensures);
        tally = c.add_full.ensures;
        counts = tt;
      },
    )
