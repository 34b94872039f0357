-- The places of the documents of a collection, and of those of a shard.
use Rattle.std.proofs.Common.{◌≡◌, ◌∙◌, ℕ, zero, suc, ◌+◌, ◌<◌, ◌≤◌, List, [], ◌∷◌, ◌++◌, map, length, take, Bool, true, false, cond, append_assoc, length-append, refl, ap, ap₂, sym, arith}
use Rattle.std.specs.Prelude.{All, Some, ◌==◌, option_map, slice_get, unwrap_or}
use Rattle.std.specs.List.{AllByRecursion}
use Rattle.std.proofs.lemmas.List.{length-map, map_push, take_more, take_all}
use Rattle.std.proofs.lemmas.List.Elements.{All-from_recursion}
use Rattle.std.proofs.lemmas.Option.{unwrap_or-slice_get, slice_get-map, slice_get_within, get_or_from_slice_get}
use Rattle.aql_value.specs.Datum.{Datum, null}
use Rattle.aql_value.specs.Shards.{documents_on}
use Rattle.aql_value.specs.laws.Alls.{all_append}
use Rattle.aql_plan.specs.Facts.{numbers_below}
use Rattle.aql_index.specs.Dealing.{places_from}
use Rattle.aql_index.specs.Entries.{document_at, standing_at}
use Rattle.aql_index.specs.laws.Documents.{stands_at}
use Rattle.aql_shard.specs.Sharding.{shard_by}

-- what stands at these places are those documents
pub record Reads (documents those : List Datum) (places : List ℕ) : Type 0 where
  pub within : All (λ place. place < length documents) places
  pub exactly : standing_at documents places ≡ those

-- ---- all

all_below : (most n : ℕ) → n ≤ most → AllByRecursion (λ place. place < most) (numbers_below n)
all_below most zero h = tt
all_below most (suc n) h = all_append (λ place. place < most) (numbers_below n) (n ∷ [])
    (all_below most n (omega (arith, h))) (omega (arith, h), tt)

first_ones : (documents : List Datum) (n : ℕ) → n ≤ length documents
    → standing_at documents (numbers_below n) ≡ take n documents
first_ones documents zero h = refl
first_ones documents (suc n) h =
    let next : n + 1 ≡ suc n = omega arith in
    map_push (document_at documents) (numbers_below n) n
    ∙ ap₂ (λ ds d. ds ++ d ∷ []) (first_ones documents n (omega (arith, h)))
    (unwrap_or-slice_get documents n null)
    ∙ sym (take_more documents n null (omega (arith, h))) ∙ ap (λ (m : ℕ). take m documents) next

pub reads_whole : (documents : List Datum)
    → Reads documents documents (numbers_below (length documents))
reads_whole documents = record {
  within = All-from_recursion _ _ (all_below (length documents) (length documents) (omega arith));
  exactly = first_ones documents (length documents) (omega arith)
      ∙ take_all (length documents) documents (omega arith);
}

-- ---- those of a shard

below_from : (shard most place : ℕ) (shards : List ℕ) → place + length shards ≡ most
    → AllByRecursion (λ at. at < most) (places_from place shard shards)
below_from shard most place [] e = tt
below_from shard most place (s ∷ shards) e =
    by (s == shard) (omega (arith, e)) (below_from shard most (place + 1) shards (omega (arith, e)))
  where
    by : (b : Bool) → place < most → AllByRecursion (λ at. at < most) (places_from (place + 1) shard shards)
        → AllByRecursion (λ at. at < most)
        (cond b (place ∷ places_from (place + 1) shard shards) (places_from (place + 1) shard shards))
    by true h rest = (h, rest)
    by false h rest = rest

module _ (shards : ℕ) (keys : List (List ℕ)) (shard : ℕ) (documents : List Datum) where
  abbrev placed : ℕ → List Datum → List ℕ
  placed place ds = places_from place shard (map (shard_by shards keys) ds)

  abbrev kept : List Datum → List Datum
  kept ds = documents_on shards keys shard ds

  shard_from : (front ds : List Datum) (place : ℕ) → place ≡ length front → documents ≡ front ++ ds
      → standing_at documents (placed place ds) ≡ kept ds
  shard_from front [] place p e = refl
  shard_from front (d ∷ ds) place p e =
      by (shard_by shards keys d == shard) (stands_at documents front d ds place p e)
      (shard_from (front ++ d ∷ []) ds (place + 1) (omega (arith, p, length-append front (d ∷ [])))
      (e ∙ sym (append_assoc front (d ∷ []) ds)))
    where
      by : (b : Bool) → document_at documents place ≡ d
          → standing_at documents (placed (place + 1) ds) ≡ kept ds
          → standing_at documents (cond b (place ∷ placed (place + 1) ds) (placed (place + 1) ds))
          ≡ cond b (d ∷ kept ds) (kept ds)
      by true h rest = ap₂ (λ x xs. x ∷ xs) h rest
      by false h rest = rest

  pub reads_shard : Reads documents (kept documents) (placed 0 documents)
  reads_shard = record {
    within = All-from_recursion _ _
        (below_from shard (length documents) 0 (map (shard_by shards keys) documents)
        (omega (arith, length-map documents (shard_by shards keys))));
    exactly = shard_from [] documents 0 refl refl;
  }

-- ---- the document at a place

module _ (documents those : List Datum) (places : List ℕ) (reads : Reads documents those places)
    (place at : ℕ) (found : slice_get places place ≡ Some at) where
  pub place_there : at < length documents
  place_there =
      let same = get_or_from_slice_get places place at 0 found in
      let below = reads.within place 0 (slice_get_within places place at found) in
      omega (arith, same, below)

  pub reads_document : (d : Datum) → slice_get documents at ≡ Some d → slice_get those place ≡ Some d
  reads_document d e = sym (ap (λ ds. slice_get ds place) reads.exactly)
      ∙ slice_get-map (document_at documents) places place
      ∙ ap (option_map (document_at documents)) found ∙ ap (λ o. Some (unwrap_or o null)) e
