-- The indexes over system attributes: servers keep them, and may search them for one value; and what such a
-- search finds.
use Rattle.std.proofs.Common.{◌≡◌, ◌∙◌, ℕ, zero, suc, ◌<◌, List, [], ◌∷◌, ◌++◌, map, length, filter, Bool, true, false, Option, Some, None, option_map, refl, sym, ap, ap₂, subst, arith}
use Rattle.std.specs.Prelude.{MatchOption, slice_get, unwrap_or}
use Rattle.std.proofs.lemmas.List.{length-map}
use Rattle.std.proofs.lemmas.Option.{slice_get_within}
use Rattle.aql_value.specs.Datum.{Datum}
use Rattle.aql_value.specs.Contents.{at_name, same}
use Rattle.aql_value.specs.Database.{documents_of}
use Rattle.aql_doc.specs.Held.{Held, database, documents_at}
use Rattle.aql_meaning.specs.Documents.{no_last, in_bounds}
use Rattle.aql_plan.specs.declared.facts.IndexKind.{IndexKind}
use Rattle.aql_plan.specs.declared.facts.IndexKind.TheVariants.{Primary, Edge}
use Rattle.aql_plan.specs.declared.facts.IndexFact.{IndexFact}
use Rattle.aql_plan.specs.Facts.{indexes_in, attributes_in}
use Rattle.aql_index.specs.declared.bounds.Span.{Span}
use Rattle.aql_plan.specs.Runs.{Dataset, Outside}
use Rattle.aql_index.specs.Found.{in_order_of}
use Rattle.aql_index.specs.IndexOrder.{in_index_order}
use Rattle.aql_index.specs.Spans.{spanned}
use Rattle.aql_index.specs.Usable.{SpanFits, IsIndexFor, IsSearched}
use Rattle.aql_index.specs.laws.Lookups.{found_in_place}
use Rattle.aql_shard.specs.Known.{lookup, lookups, sorted_by, index_fact, coll_fact, facts_of}
use Rattle.aql_local.specs.declared.lookups.SystemAttribute.{SystemAttribute}
use Rattle.aql_local.specs.declared.lookups.SystemAttribute.TheVariants.{Id, From, To}
use Rattle.aql_local.specs.inner.Lookups.{name_of, index_by, order_by, HasIndexBy}

-- ---- an index that servers keep

abbrev kind_of : SystemAttribute → IndexKind
kind_of Id = Primary
kind_of From = Edge
kind_of To = Edge

abbrev known : List Datum → SystemAttribute → IndexFact
known documents attribute = index_fact documents (lookup (kind_of attribute) (name_of attribute))

by_id : (edge : Bool) (documents : List Datum) (others : List (List (List ℕ)))
    → slice_get (map (index_fact documents) (lookups edge ++ map sorted_by others)) 1
    ≡ Some (known documents Id)
by_id false documents others = refl
by_id true documents others = refl

by_from : (edge : Bool) (documents : List Datum) (others : List (List (List ℕ))) → edge ≡ true
    → slice_get (map (index_fact documents) (lookups edge ++ map sorted_by others)) 2
    ≡ Some (known documents From)
by_from false documents others h = absurd (cc)
by_from true documents others h = refl

by_to : (edge : Bool) (documents : List Datum) (others : List (List (List ℕ))) → edge ≡ true
    → slice_get (map (index_fact documents) (lookups edge ++ map sorted_by others)) 3
    ≡ Some (known documents To)
by_to false documents others h = absurd (cc)
by_to true documents others h = refl

kept : (servers : ℕ) (held : List Held) (coll : ℕ) (attribute : SystemAttribute)
    → HasIndexBy attribute (facts_of servers held) coll
    → slice_get (indexes_in (facts_of servers held) coll) (index_by attribute)
    ≡ Some (known (documents_at held coll) attribute)
kept servers [] coll Id h = absurd (omega arith)
kept servers [] coll From h = absurd h
kept servers [] coll To h = absurd h
kept servers (c ∷ held) zero Id h = by_id c.info.edge c.documents c.info.indexes
kept servers (c ∷ held) zero From h = by_from c.info.edge c.documents c.info.indexes h
kept servers (c ∷ held) zero To h = by_to c.info.edge c.documents c.info.indexes h
kept servers (c ∷ held) (suc coll) Id h = kept servers held coll Id (omega (arith, h))
kept servers (c ∷ held) (suc coll) From h = kept servers held coll From h
kept servers (c ∷ held) (suc coll) To h = kept servers held coll To h

there : {X : Type 0} (P : X → Type 0) (xs : List X) (i : ℕ) → MatchOption (slice_get xs i) ⊥ P → i < length xs
there P [] i h = absurd h
there P (x ∷ xs) zero h = omega arith
there P (x ∷ xs) (suc i) h = let k = there P xs i h in omega (arith, k)

-- what a search for one value finds
found_by : (names : List (List ℕ)) (equal documents : List Datum) (span : Span) (name : List ℕ)
    (value : Datum) → names ≡ name ∷ [] → equal ≡ value ∷ []
    → spanned (in_index_order names documents) span
    ≡ filter (in_bounds names equal no_last) (in_index_order names documents)
    → spanned (in_index_order names documents) span ≡ filter (λ d. same (at_name d name) value) documents
found_by names equal documents span name value n e h =
    h ∙ ap₂ (λ ns vs. filter (in_bounds ns vs no_last) (in_index_order ns documents)) n e
    ∙ found_in_place name value documents

pub is_known : (servers : ℕ) (held : List Held) (coll : ℕ) → coll < length held
    → coll < length (facts_of servers held).collections
is_known servers held coll h = omega (arith, h, length-map held (coll_fact servers))

pub is_held : (held : List Held) (n all : ℕ) → n < all → all ≡ length held → n < length (database held)
is_held held n all h e =
    let same : length (database held) ≡ length held = length-map held _ in omega (arith, h, e, same)

abbrev stock_of : ℕ → List Held → Dataset
stock_of servers held = record { facts = facts_of servers held; db = database held }

module _ (servers : ℕ) (held : List Held) (coll : ℕ) where
  is_declared : (attribute : SystemAttribute) → HasIndexBy attribute (facts_of servers held) coll
      → coll < length (facts_of servers held).collections
  is_declared Id h = h
  is_declared From h = there _ (facts_of servers held).collections coll h
  is_declared To h = there _ (facts_of servers held).collections coll h

  module _ (attribute : SystemAttribute) (index : ℕ) (i : index ≡ index_by attribute)
      (h : HasIndexBy attribute (facts_of servers held) coll) where
    at_index : slice_get (indexes_in (facts_of servers held) coll) index
        ≡ Some (known (documents_at held coll) attribute)
    at_index = ap (slice_get (indexes_in (facts_of servers held) coll)) i ∙ kept servers held coll attribute h

    -- it is there
    pub is_index : IsIndexFor (facts_of servers held) coll None index (λ _. Unit {0})
    is_index = (
      is_declared attribute h,
      subst (λ (o : Option IndexFact). MatchOption o ⊥ (λ _. Unit {0})) (sym at_index) tt,
    )

    fits : (a : SystemAttribute) (values : ℕ) → values ≡ 1 → SpanFits (kind_of a) 1 values no_last
    fits Id values e = (e, refl)
    fits From values e = (e, refl)
    fits To values e = (e, refl)

    -- and may be searched for one value
    pub is_searched : (values : ℕ) → values ≡ 1
        → IsSearched (facts_of servers held) coll None index values no_last
    is_searched values e = (
      is_declared attribute h,
      subst (λ (o : Option IndexFact). MatchOption o ⊥
          (λ (fact : IndexFact). SpanFits fact.kind (length fact.attributes) values no_last))
          (sym at_index) (fits attribute values e),
    )

    attributes_are : attributes_in (facts_of servers held) coll index ≡ name_of attribute ∷ []
    attributes_are =
        ap (λ o. unwrap_or (option_map (λ (fact : IndexFact). fact.attributes) o) []) at_index

    pub found_in : (values : List Datum) (span : Span) (value : Datum) → values ≡ value ∷ []
        → spanned (in_order_of (stock_of servers held) Outside coll None index) span
        ≡ filter (in_bounds (attributes_in (facts_of servers held) coll index) values no_last)
        (in_order_of (stock_of servers held) Outside coll None index)
        → spanned (order_by attribute (stock_of servers held) coll) span
        ≡ filter (λ d. same (at_name d (name_of attribute)) value) (documents_of (database held) coll)
    found_in values span value e f = subst (λ k.
        spanned (in_order_of (stock_of servers held) Outside coll None k) span
        ≡ filter (λ d. same (at_name d (name_of attribute)) value) (documents_of (database held) coll)) i
        (found_by (attributes_in (facts_of servers held) coll index) values
        (documents_of (database held) coll) span (name_of attribute) value attributes_are e f)

    -- a place in it
    pub is_place : (at place : ℕ) (document : Datum) → at ≡ place
        → slice_get (order_by attribute (stock_of servers held) coll) place ≡ Some document
        → at < length (in_order_of (stock_of servers held) Outside coll None index)
    is_place at place document e f =
        subst (λ k. at < length (in_order_of (stock_of servers held) Outside coll None k)) (sym i)
        (subst (λ n. n < length (order_by attribute (stock_of servers held) coll)) (sym e)
        (slice_get_within (order_by attribute (stock_of servers held) coll) place document f))
