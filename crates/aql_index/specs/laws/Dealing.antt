-- What is dealt to a shard of an index is the index of the documents on the shard: it is in order, since the whole
-- is, and has the entries of these documents, each with its place among them.
use Rattle.std.proofs.Common.{◌≡◌, ◌∙◌, ◌+◌, ◌<◌, ◌≤◌, ℕ, List, [], ◌∷◌, ◌++◌, length, map, take, Bool, true, false, cond, ◌&&◌, refl, sym, ap, ap₂, arith, append_assoc, length-append, eqb-true}
use Rattle.std.specs.Prelude.{◌==◌, filter}
use Rattle.std.specs.Cmp.{IsStrictWeakOrder}
use Rattle.std.specs.List.{AllByRecursion}
use Rattle.std.specs.List.Sorted.{ties}
use Rattle.std.proofs.Math.Bool.{and_comm}
use Rattle.std.proofs.Math.Seq.{get_or-append_seam, take-append_seam}
use Rattle.std.proofs.lemmas.List.Elements.{All-from_recursion, filter-append, filter_agree}
use Rattle.std.proofs.lemmas.List.Sorted.{All-permutation}
use Rattle.aql_value.specs.Datum.{Datum}
use Rattle.aql_meaning.specs.Documents.{index_keys}
use Rattle.aql_index.specs.declared.entries.Entry.{Entry}
use Rattle.aql_index.specs.Dealing.{places_from, count_on, shard_at, rank, is_on, ranked, entries_on, IsOver}
use Rattle.aql_index.specs.Entries.{entries_from, entries_of, standing_at, is_before}
use Rattle.aql_index.specs.IndexOrder.{insert, sort, index_of}
use Rattle.aql_index.specs.Theorems.{DealtIsOfDocuments}
use Rattle.aql_index.specs.laws.Documents.{stands_at}
use Rattle.aql_index.specs.laws.Filters.{filter_twice}
use Rattle.aql_index.specs.laws.InOrder.{sort_permutes}
use Rattle.aql_index.specs.laws.Order.{entries_order}
use Rattle.aql_index.specs.laws.Passing.{pairs_filter, in_pairs, from_pairs}
use Rattle.aql_index.specs.laws.Stable.{one_order, sort_stable, sort_sorted}

-- ---- what is left of a sorted list, and what keeps the order

swapped : {X : Type 0} (p q : X → Bool) (xs : List X) → filter p (filter q xs) ≡ filter q (filter p xs)
swapped p q xs = filter_twice q p xs
    ∙ filter_agree (λ x. q x && p x) (λ x. p x && q x) (λ x. and_comm (q x) (p x)) xs
    ∙ sym (filter_twice p q xs)

module _ {X : Type 0} (lt : X → X → Bool) (o : IsStrictWeakOrder lt) where
  -- to sort and to filter is to filter and to sort
  filter_sorted : (q : X → Bool) (xs : List X) → filter q (sort lt xs) ≡ sort lt (filter q xs)
  filter_sorted q xs = one_order lt o (filter q (sort lt xs)) (sort lt (filter q xs))
      (from_pairs lt o _ (pairs_filter lt q (sort lt xs) (in_pairs lt o (sort lt xs) (sort_sorted lt o xs))))
      (sort_sorted lt o (filter q xs))
      (λ x. swapped (ties lt x) q (sort lt xs) ∙ ap (filter q) (sort_stable lt o xs x)
      ∙ swapped q (ties lt x) xs ∙ sym (sort_stable lt o (filter q xs) x))

module _ {X : Type 0} (lt : X → X → Bool) (f : X → X) (same : (x y : X) → lt (f x) (f y) ≡ lt x y) where
  map_insert : (x : X) (xs : List X) → map f (insert lt x xs) ≡ insert lt (f x) (map f xs)
  map_insert x [] = refl
  map_insert x (y ∷ ys) = by (lt y x) (map_insert x ys)
      ∙ ap (λ b. cond b (f y ∷ insert lt (f x) (map f ys)) (f x ∷ f y ∷ map f ys)) (sym (same y x))
    where
      by : (b : Bool) → map f (insert lt x ys) ≡ insert lt (f x) (map f ys)
          → map f (cond b (y ∷ insert lt x ys) (x ∷ y ∷ ys))
          ≡ cond b (f y ∷ insert lt (f x) (map f ys)) (f x ∷ f y ∷ map f ys)
      by true e = ap (λ zs. f y ∷ zs) e
      by false e = refl

  map_sorted : (xs : List X) → map f (sort lt xs) ≡ sort lt (map f xs)
  map_sorted [] = refl
  map_sorted (x ∷ xs) = map_insert x (sort lt xs) ∙ ap (insert lt (f x)) (map_sorted xs)

-- ---- one document after another

one_counted : (shard : ℕ) (front : List ℕ) (s : ℕ)
    → count_on shard (front ++ s ∷ []) ≡ count_on shard front + cond (s == shard) 1 0
one_counted shard front s =
    ap length (filter-append (λ n. n == shard) front (s ∷ []))
    ∙ length-append (filter (λ n. n == shard) front) (filter (λ n. n == shard) (s ∷ []))
    ∙ ap (λ n. count_on shard front + n) (by (s == shard))
  where
    by : (b : Bool) → length (cond b (s ∷ []) []) ≡ cond b 1 0
    by true = refl
    by false = refl

module _ (names : List (List ℕ)) (documents : List Datum) (shards : List ℕ) (shard : ℕ) where
  -- those from some place on, of the documents and of the shards
  record Seam (front ds : List Datum) (before ss : List ℕ) (place : ℕ) : Type 0 where
    documents_are : documents ≡ front ++ ds
    shards_are : shards ≡ before ++ ss
    front_long : place ≡ length front
    before_long : place ≡ length before
    rest_long : length ss ≡ length ds

  next : (front ds : List Datum) (before ss : List ℕ) (place : ℕ) (d : Datum) (s : ℕ)
      → Seam front (d ∷ ds) before (s ∷ ss) place
      → Seam (front ++ d ∷ []) ds (before ++ s ∷ []) ss (place + 1)
  next front ds before ss place d s seam = record {
    documents_are = seam.documents_are ∙ sym (append_assoc front (d ∷ []) ds);
    shards_are = seam.shards_are ∙ sym (append_assoc before (s ∷ []) ss);
    front_long = (let e = seam.front_long in omega (arith, e, length-append front (d ∷ [])));
    before_long = (let e = seam.before_long in omega (arith, e, length-append before (s ∷ [])));
    rest_long = (let e = seam.rest_long in omega (arith, e));
  }

  shard_there : (before ss : List ℕ) (place s : ℕ) → shards ≡ before ++ s ∷ ss → place ≡ length before
      → shard_at shards place ≡ s
  shard_there before ss place s e p = ap₂ shard_at e p ∙ get_or-append_seam before s ss 0

  rank_there : (before ss : List ℕ) (place s : ℕ) → shards ≡ before ++ s ∷ ss → place ≡ length before
      → rank shards place ≡ count_on s before
  rank_there before ss place s e p =
      ap₂ (λ n xs. count_on n xs) (shard_there before ss place s e p)
      (ap₂ take p e ∙ take-append_seam before (s ∷ ss))

  dealt_from : (front ds : List Datum) (before ss : List ℕ) (place at : ℕ) → at ≡ count_on shard before
      → Seam front ds before ss place
      → entries_on shards shard (entries_from place names ds)
      ≡ entries_from at names (standing_at documents (places_from place shard ss))
  dealt_from front [] before [] place at n seam = refl
  dealt_from front [] before (s ∷ ss) place at n seam = absurd (let e = seam.rest_long in omega (arith, e))
  dealt_from front (d ∷ ds) before [] place at n seam = absurd (let e = seam.rest_long in omega (arith, e))
  dealt_from front (d ∷ ds) before (s ∷ ss) place at n seam =
      ap (λ k. map (ranked shards) (cond (k == shard) (e ∷ rest) rest))
      (shard_there before ss place s seam.shards_are seam.before_long)
      ∙ by (s == shard) refl
      (λ m is. dealt_from (front ++ d ∷ []) ds (before ++ s ∷ []) ss (place + 1) m
      (is ∙ ap (λ k. k + cond (s == shard) 1 0) n ∙ sym (one_counted shard before s))
      (next front ds before ss place d s seam))
    where
      e : Entry
      e = record { keys = index_keys names d; place = place }

      rest : List Entry
      rest = filter (is_on shards shard) (entries_from (place + 1) names ds)

      those : List ℕ
      those = places_from (place + 1) shard ss

      by : (b : Bool) → (s == shard) ≡ b
          → ((m : ℕ) → m ≡ at + cond (s == shard) 1 0
          → map (ranked shards) rest ≡ entries_from m names (standing_at documents those))
          → map (ranked shards) (cond b (e ∷ rest) rest)
          ≡ entries_from at names (standing_at documents (cond b (place ∷ those) those))
      by true h after =
          let one : at + 1 ≡ at + cond (s == shard) 1 0 = ap (λ b. at + cond b 1 0) (sym h) in
          let here : rank shards place ≡ at =
          rank_there before ss place s seam.shards_are seam.before_long
          ∙ ap (λ k. count_on k before) (eqb-true s shard h) ∙ sym n in
          let there = stands_at documents front d ds place seam.front_long seam.documents_are in
          ap₂ (λ (x : Entry) xs. x ∷ xs)
          (ap₂ (λ k (v : Datum). record { keys = index_keys names v; place = k }) here (sym there))
          (after (at + 1) one)
      by false h after =
          let none : at ≡ at + cond (s == shard) 1 0 = sym (ap (λ b. at + cond b 1 0) h ∙ omega arith) in
          after at none

pub dealt_is_of_documents : DealtIsOfDocuments
dealt_is_of_documents names documents shards shard long =
    ap (λ (es : List Entry). record { width = length names; entries = es })
    (ap (map (ranked shards)) (filter_sorted is_before entries_order (is_on shards shard) (entries_of names documents))
    ∙ map_sorted is_before (ranked shards) (λ x y. refl) (filter (is_on shards shard) (entries_of names documents))
    ∙ ap (sort is_before) (dealt_from names documents shards shard [] documents [] shards 0 0 refl
    (record { documents_are = refl; shards_are = refl; front_long = refl; before_long = refl; rest_long = long })))

-- ---- the places of an index are those of its documents

placed_from : (names : List (List ℕ)) (ds : List Datum) (place most : ℕ) → place + length ds ≤ most
    → AllByRecursion (λ (e : Entry). e.place < most) (entries_from place names ds)
placed_from names [] place most h = tt
placed_from names (d ∷ ds) place most h =
    (omega (arith, h), placed_from names ds (place + 1) most (omega (arith, h)))

pub is_over : (names : List (List ℕ)) (documents : List Datum) → IsOver (length documents) (index_of names documents)
is_over names documents = All-permutation (λ (e : Entry). e.place < length documents) _ _
    (sort_permutes is_before (entries_of names documents))
    (All-from_recursion _ _ (placed_from names documents 0 (length documents) (omega arith)))
