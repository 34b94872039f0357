-- What is found in an index that servers keep, as documents.
use Rattle.std.proofs.Common.{◌≡◌, ◌∙◌, ℕ, suc, ◌+◌, ◌<◌, ◌≤◌, List, [], ◌∷◌, map, length, Option, Some, None, refl, ap, sym, subst, arith}
use Rattle.std.specs.Prelude.{All, IsSome, MatchOption, ◌==◌, not, filter, flat_map, option_map, slice_get, unwrap_or}
use Rattle.std.specs.List.{AllByRecursion}
use Rattle.std.proofs.lemmas.List.{length-map}
use Rattle.std.proofs.lemmas.List.Elements.{All-from_recursion}
use Rattle.std.proofs.lemmas.List.Filters.{length-filter_both}
use Rattle.std.proofs.lemmas.List.Sorted.{All-permutation, length_permutation}
use Rattle.std.proofs.lemmas.Option.{slice_get-map, slice_get-get_or, slice_get_within, get_or_from_slice_get}
use Rattle.aql_value.specs.Datum.{Datum, null}
use Rattle.aql_value.specs.Database.{documents_of}
use Rattle.aql_doc.specs.Held.{database, documents_at}
use Rattle.aql_meaning.specs.Documents.{Last, no_last, in_bounds}
use Rattle.aql_plan.specs.declared.facts.IndexKind.{IndexKind}
use Rattle.aql_plan.specs.declared.facts.IndexKind.TheVariants as kind
use Rattle.aql_plan.specs.declared.facts.IndexFact.{IndexFact}
use Rattle.aql_plan.specs.Facts.{shards_in, keys_in, indexes_in, attributes_in}
use Rattle.aql_plan.specs.Fits.{IsShard}
use Rattle.aql_plan.specs.Runs.{Outside}
use Rattle.aql_index.specs.declared.entries.Entry.{Entry}
use Rattle.aql_index.specs.declared.bounds.Span.{Span}
use Rattle.aql_index.specs.Bounds.{BoundsFit}
use Rattle.aql_index.specs.Entries.{IndexView, entries_from, entries_of, document_at, document_of, is_before, entries_within}
use Rattle.aql_index.specs.Found.{in_order_of}
use Rattle.aql_index.specs.IndexOrder.{index_entries, in_index_order, index_of}
use Rattle.aql_index.specs.Spans.{spanned, IsSpan, AreApart}
use Rattle.aql_index.specs.Usable.{SpanFits, SpansFit}
use Rattle.aql_index.specs.inner.Places.{no_entry}
use Rattle.aql_index.specs.laws.InOrder.{sort_permutes, span_is_of_documents, spans_are_of_documents}
use Rattle.aql_shard.specs.Holding.{Holding}
use Rattle.aql_shard.specs.declared.parts.Part.{Part}
use Rattle.aql_shard.specs.declared.parts.Parts.{Parts}
use Rattle.aql_shard.specs.declared.shapes.Shape.{Shape}
use Rattle.aql_shard.specs.Datasets.{stock, documents_read}
use Rattle.aql_shard.specs.Parts.{parts_of, part_at}
use Rattle.aql_shard.specs.Sharding.{shard_by}
use Rattle.aql_shard.specs.laws.ByNumber.{shapes_at, shape_at, IsOne, has_kept, is_kept, of_kept}
use Rattle.aql_shard.specs.laws.Split.{documents_same}
use Rattle.aql_shard.proofs.Kept.{IsPart, is_part, has_part}
use Rattle.aql_shard.proofs.Places.{Reads}

-- ---- which bounds a search takes

alone : (attributes equal : ℕ) (last : Last Datum) → attributes ≡ 1 → (equal ≡ 1) × (last ≡ no_last)
    → BoundsFit attributes equal last
alone attributes equal last one h =
    let fits : equal ≤ attributes = omega (arith, one, h.0) in
    subst (BoundsFit attributes equal) (sym h.1) fits

span_fits : (equal : ℕ) (last : Last Datum) (k : IndexKind) (attributes : ℕ) → IsOne k attributes
    → SpanFits k attributes equal last → BoundsFit attributes equal last
span_fits equal last kind.Sorted attributes one h = h
span_fits equal last kind.Primary attributes one h = alone attributes equal last one h
span_fits equal last kind.Edge attributes one h = alone attributes equal last one h

spans_fit : (equal : ℕ) (k : IndexKind) (attributes : ℕ) → IsOne k attributes
    → SpansFit k attributes equal → equal < attributes
spans_fit equal kind.Sorted attributes one h = h
spans_fit equal kind.Primary attributes one h = omega (arith, one, h)
spans_fit equal kind.Edge attributes one h = omega (arith, one, h)

-- ---- the documents of entries

module _ (names : List (List ℕ)) (documents : List Datum) where
  placed_from : (place : ℕ) (ds : List Datum) → place + length ds ≡ length documents
      → AllByRecursion (λ (e : Entry). e.place < length documents) (entries_from place names ds)
  placed_from place [] e = tt
  placed_from place (d ∷ ds) e = (omega (arith, e), placed_from (place + 1) ds (omega (arith, e)))

  -- each is there
  placed : All (λ (e : Entry). e.place < length documents) (index_entries names documents)
  placed = All-permutation (λ (e : Entry). e.place < length documents) _ _
      (sort_permutes is_before (entries_of names documents))
      (All-from_recursion _ _ (placed_from 0 documents (omega arith)))

  has_document : (place at : ℕ)
      → Some at ≡ option_map (λ (e : Entry). e.place) (slice_get (index_entries names documents) place)
      → at < length documents
  has_document place at h = by (slice_get (index_entries names documents) place) refl h
    where
      by : (o : Option Entry) → slice_get (index_entries names documents) place ≡ o
          → Some at ≡ option_map (λ (e : Entry). e.place) o → at < length documents
      by None f e = cc
      by (Some x) f e =
          let same : at ≡ x.place = cc in
          let within = slice_get_within (index_entries names documents) place x f in
          let there = placed place x within in
          let is = ap (λ (y : Entry). y.place)
          (get_or_from_slice_get (index_entries names documents) place x x f) in
          omega (arith, same, there, is)

  -- the document at a place
  stands_there : (place at : ℕ) (d : Datum)
      → Some at ≡ option_map (λ (e : Entry). e.place) (slice_get (index_entries names documents) place)
      → Some d ≡ slice_get documents at → slice_get (in_index_order names documents) place ≡ Some d
  stands_there place at d h k = slice_get-map (document_of documents) (index_entries names documents) place
      ∙ by (slice_get (index_entries names documents) place) h
    where
      by : (o : Option Entry) → Some at ≡ option_map (λ (e : Entry). e.place) o
          → option_map (document_of documents) o ≡ Some d
      by None e = cc
      by (Some x) e =
          let same : x.place ≡ at = cc in
          ap (λ (o : Option Datum). Some (unwrap_or o null)) (ap (slice_get documents) same ∙ sym k)

-- ---- the part that a reader of servers finds

module _ (me : Holding) (parts : List Parts) (theirs : parts ≡ map (parts_of me.servers) me.held) (coll : ℕ)
    (shard : Option ℕ) (there : IsShard (stock me).facts coll shard) where
  abbrev pub all : List Datum
  all = documents_at me.held coll

  abbrev pub those : List Datum
  those = documents_read (stock me) coll shard

  coll_there : coll < length me.held
  coll_there = has_part me.servers me.held coll shard there

  pub parts_there : coll < length parts
  parts_there = omega (arith, coll_there, ap length theirs, length-map me.held (parts_of me.servers))

  module _ (part : Part) (found : part_at parts coll shard ≡ Some part) where
    part_is : IsPart (shapes_at me.held coll) all those part
    part_is = is_part me.servers me.held coll shard there part
        (ap (λ (ps : List Parts). part_at ps coll shard) (sym theirs) ∙ found)

    pub reads : Reads all those part.places
    reads = part_is.reads

    pub as_many : length part.places ≡ length those
    as_many = sym (length-map part.places (document_at all)) ∙ ap length reads.exactly

    module _ (index : ℕ) where
      kept_is : slice_get part.indexes index
          ≡ option_map (λ (s : Shape). index_of s.attributes those) (shape_at me.held coll index)
      kept_is = ap (λ (vs : List IndexView). slice_get vs index) part_is.indexes
          ∙ slice_get-map (λ (s : Shape). index_of s.attributes those) (shapes_at me.held coll) index

      abbrev Known : (IndexFact → Type 0) → Type 0
      Known P = MatchOption (slice_get (indexes_in (stock me).facts coll) index) ⊥ P

      pub is_there : (P : IndexFact → Type 0) → Known P → IsSome (slice_get part.indexes index)
      is_there P h =
          has_kept me.servers me.held coll index those (slice_get part.indexes index) kept_is P h

      abbrev names : List (List ℕ)
      names = attributes_in (stock me).facts coll index

      abbrev in_order : List Datum
      in_order = in_order_of (stock me) Outside coll shard index

      module _ (v : IndexView) (at_number : slice_get part.indexes index ≡ Some v) where
        index_is : v ≡ index_of names those
        index_is =
            is_kept me.servers me.held coll index those (slice_get part.indexes index) kept_is v at_number

        pub takes_span : (equal : ℕ) (last : Last Datum)
            → Known (λ (i : IndexFact). SpanFits i.kind (length i.attributes) equal last)
            → BoundsFit v.width equal last
        takes_span equal last h =
            of_kept me.servers me.held coll index those (slice_get part.indexes index) kept_is
            (λ k n. SpanFits k n equal last) (λ n. BoundsFit n equal last) (span_fits equal last)
            v at_number h

        pub takes_spans : (equal : ℕ)
            → Known (λ (i : IndexFact). SpansFit i.kind (length i.attributes) equal) → equal < v.width
        takes_spans equal h =
            of_kept me.servers me.held coll index those (slice_get part.indexes index) kept_is
            (λ k n. SpansFit k n equal) (λ n. equal < n) (spans_fit equal) v at_number h

        entries_are : v.entries ≡ index_entries names those
        entries_are = ap (λ (w : IndexView). w.entries) index_is

        as_long : length v.entries ≡ length in_order
        as_long = ap length entries_are
            ∙ sym (length-map (index_entries names those) (document_of those))

        pub within : (span : Span) → IsSpan (length v.entries) span → IsSpan (length in_order) span
        within span h = subst (λ n. IsSpan n span) as_long h

        pub exactly : (equal : List Datum) (last : Last Datum) (span : Span)
            → spanned v.entries span ≡ entries_within equal last v.entries
            → spanned in_order span ≡ filter (in_bounds names equal last) in_order
        exactly equal last span h = span_is_of_documents names those equal last span
            (subst (λ (es : List Entry). spanned es span ≡ entries_within equal last es) entries_are h)

        pub apart : (spans : List Span) → AreApart 0 spans (length v.entries)
            → AreApart 0 spans (length in_order)
        apart spans h = subst (AreApart 0 spans) as_long h

        pub each_exactly : (equal : List Datum) (last : Last Datum) (spans : List Span)
            → flat_map (spanned v.entries) spans ≡ entries_within equal last v.entries
            → flat_map (spanned in_order) spans ≡ filter (in_bounds names equal last) in_order
        each_exactly equal last spans h = spans_are_of_documents names those equal last spans
            (subst (λ (es : List Entry). flat_map (spanned es) spans ≡ entries_within equal last es)
            entries_are h)

        abbrev FoundAt : ℕ → Option ℕ → Type 0
        FoundAt place o = o ≡ option_map (λ (e : Entry). e.place) (slice_get v.entries place)

        -- a place in the order has an entry
        pub is_found : (place : ℕ) → place < length in_order → FoundAt place None → ⊥
        is_found place below h =
            let inside : place < length v.entries = omega (arith, below, as_long) in
            let f = h ∙ ap (option_map (λ (e : Entry). e.place))
            (slice_get-get_or v.entries place no_entry inside) in
            cc f

        pub found_below : (place at : ℕ) → FoundAt place (Some at) → at < length part.places
        found_below place at h =
            let below = has_document names those place at
            (h ∙ ap (λ es. option_map (λ (e : Entry). e.place) (slice_get es place)) entries_are) in
            omega (arith, below, as_many)

        pub found_document : (place at : ℕ) (d : Datum) → FoundAt place (Some at)
            → slice_get those at ≡ Some d → slice_get in_order place ≡ Some d
        found_document place at d h k = stands_there names those place at d
            (h ∙ ap (λ es. option_map (λ (e : Entry). e.place) (slice_get es place)) entries_are) (sym k)

      -- a place in the order is one of the documents that are read
      pub place_below : (place : ℕ) → place < length in_order → place < length those
      place_below place h =
          let seen = length-map (index_entries names those) (document_of those) in
          let sorted = length_permutation _ _ (sort_permutes is_before (entries_of names those)) in
          let entered = entries_long 0 those in
          omega (arith, h, seen, sorted, entered)
        where
          entries_long : (place : ℕ) (ds : List Datum) → length (entries_from place names ds) ≡ length ds
          entries_long place [] = refl
          entries_long place (d ∷ ds) = ap suc (entries_long (place + 1) ds)

  -- no more documents are read than the collection has
  pub few_read : length those ≤ length all
  few_read = by shard
    where
      by : (s : Option ℕ) → length (documents_read (stock me) coll s) ≤ length all
      by None = omega (arith, ap length (documents_same me.held coll))
      by (Some s) = omega (
        arith,
        ap length (documents_same me.held coll),
        length-filter_both
            (λ d. shard_by (shards_in (stock me).facts coll) (keys_in (stock me).facts coll) d == s)
            (λ d. not (shard_by (shards_in (stock me).facts coll) (keys_in (stock me).facts coll) d == s))
            (λ d. refl) (documents_of (database me.held) coll),
      )
