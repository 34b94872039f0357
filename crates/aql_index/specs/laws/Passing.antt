-- What passes a test, in the order of an index or against it, is in index order.
use Rattle.std.proofs.Common.{◌≡◌, ◌∙◌, ℕ, List, [], ◌∷◌, ◌++◌, map, reverse, Bool, true, false, cond, refl, sym, ap, subst, arith}
use Rattle.std.specs.Prelude.{filter, IsPermutation}
use Rattle.std.specs.Ordering.{is_lt, ordering_then}
use Rattle.std.specs.Cmp.{IsStrictWeakOrder}
use Rattle.std.specs.List.{AllByRecursion}
use Rattle.std.specs.List.Sorted.{IsSortedBy}
use Rattle.std.proofs.lemmas.List.{reverse-append}
use Rattle.std.proofs.lemmas.List.Sorted.{IsPermutation-refl, IsPermutation-trans, IsPermutation-cons, IsPermutation-swap, IsPermutation-map, IsPermutation-reverse, IsStrictWeakOrder-flip}
use Rattle.aql_value.specs.Datum.{Datum}
use Rattle.aql_value.specs.Compare.{compare}
use Rattle.aql_value.specs.Contents.{at_name}
use Rattle.aql_meaning.specs.Clauses.{keys_cmp}
use Rattle.aql_meaning.specs.Documents.{index_keys, InIndexOrder}
use Rattle.aql_meaning.specs.laws.SomeOrder.{keyed_order, Ascends, AscendsAll, sorted_of_ascends}
use Rattle.aql_index.specs.Entries.{entries_of, document_of, documents_by, is_before}
use Rattle.aql_index.specs.IndexOrder.{insert, sort, index_entries, in_index_order}
use Rattle.aql_index.specs.laws.Documents.{all_there}
use Rattle.aql_index.specs.laws.Filters.{all_filter, filter_map}
use Rattle.aql_index.specs.laws.InOrder.{documents_are_in_order}
use Rattle.aql_index.specs.laws.Stable.{none_less, tail_sorted}

-- ---- lists in order

all_push : {X : Type 0} (P : X → Type 0) (xs : List X) (x : X) → AllByRecursion P xs → P x
    → AllByRecursion P (xs ++ x ∷ [])
all_push P [] x h k = (k, tt)
all_push P (y ∷ ys) x h k = (h.0, all_push P ys x h.1 k)

back : {X : Type 0} (x : X) (xs : List X) → reverse (x ∷ xs) ≡ reverse xs ++ x ∷ []
back x xs = reverse-append (x ∷ []) xs

all_back : {X : Type 0} (P : X → Type 0) (xs : List X) → AllByRecursion P xs → AllByRecursion P (reverse xs)
all_back P [] h = tt
all_back P (x ∷ xs) h =
    subst (AllByRecursion P) (sym (back x xs)) (all_push P (reverse xs) x (all_back P xs h.1) h.0)

module _ {X : Type 0} (lt : X → X → Bool) where
  -- of any two the later one is not less
  abbrev pub InPairs : List X → Type 0
  InPairs [] = Unit {0}
  InPairs (x ∷ xs) = AllByRecursion (λ w. lt w x ≡ false) xs × InPairs xs

  pub pairs_filter : (p : X → Bool) (xs : List X) → InPairs xs → InPairs (filter p xs)
  pairs_filter p [] h = tt
  pairs_filter p (x ∷ xs) h = by (p x) (pairs_filter p xs h.1)
    where
      by : (b : Bool) → InPairs (filter p xs) → InPairs (cond b (x ∷ filter p xs) (filter p xs))
      by true k = (all_filter (λ w. lt w x ≡ false) p xs h.0, k)
      by false k = k

  pub pairs_push : (xs : List X) (x : X) → InPairs xs → AllByRecursion (λ w. lt x w ≡ false) xs
      → InPairs (xs ++ x ∷ [])
  pairs_push [] x h k = (tt, tt)
  pairs_push (y ∷ ys) x h k = (all_push (λ w. lt w y ≡ false) ys x h.0 k.0, pairs_push ys x h.1 k.1)

-- against the order
pub pairs_back : {X : Type 0} (lt : X → X → Bool) (xs : List X) → InPairs lt xs
    → InPairs (λ a b. lt b a) (reverse xs)
pairs_back lt [] h = tt
pairs_back lt (x ∷ xs) h = subst (InPairs (λ a b. lt b a)) (sym (back x xs))
    (pairs_push (λ a b. lt b a) (reverse xs) x (pairs_back lt xs h.1)
    (all_back (λ w. lt w x ≡ false) xs h.0))

module _ {X : Type 0} (lt : X → X → Bool) (o : IsStrictWeakOrder lt) where
  pub in_pairs : (xs : List X) → IsSortedBy lt xs → InPairs lt xs
  in_pairs [] up = tt
  in_pairs (x ∷ xs) up = ((none_less lt o x xs up).1, in_pairs xs (tail_sorted lt o x xs up))

  pairs_ascend : (x : X) (xs : List X) → AllByRecursion (λ w. lt w x ≡ false) xs → InPairs lt xs
      → Ascends lt o x xs
  pairs_ascend x [] h k = tt
  pairs_ascend x (y ∷ ys) h k = (h.0, pairs_ascend y ys k.0 k.1)

  pairs_all : (xs : List X) → InPairs lt xs → AscendsAll lt o xs
  pairs_all [] h = tt
  pairs_all (x ∷ xs) h = pairs_ascend x xs h.0 h.1

  pub from_pairs : (xs : List X) → InPairs lt xs → IsSortedBy lt xs
  from_pairs xs h = sorted_of_ascends lt o xs (pairs_all xs h)

-- ---- a test, before and after a list is sorted

filter_insert : {X : Type 0} (lt : X → X → Bool) (q : X → Bool) (x : X) (xs : List X)
    → IsPermutation (filter q (x ∷ xs)) (filter q (insert lt x xs))
filter_insert lt q x [] = IsPermutation-refl (filter q (x ∷ []))
filter_insert {X = X} lt q x (y ∷ ys) = by (lt y x) (filter_insert lt q x ys)
  where
    move : (a b : Bool) (rest : List X)
        → IsPermutation (cond a (x ∷ cond b (y ∷ rest) rest) (cond b (y ∷ rest) rest))
        (cond b (y ∷ cond a (x ∷ rest) rest) (cond a (x ∷ rest) rest))
    move true true rest =
        IsPermutation-swap (x ∷ y ∷ rest) (y ∷ x ∷ rest) 0 1 (omega arith) (omega arith) refl
    move true false rest = IsPermutation-refl (x ∷ rest)
    move false true rest = IsPermutation-refl (y ∷ rest)
    move false false rest = IsPermutation-refl rest

    under : (b : Bool) (xs zs : List X) → IsPermutation xs zs
        → IsPermutation (cond b (y ∷ xs) xs) (cond b (y ∷ zs) zs)
    under true xs zs p = IsPermutation-cons y xs zs p
    under false xs zs p = p

    by : (b : Bool) → IsPermutation (filter q (x ∷ ys)) (filter q (insert lt x ys))
        → IsPermutation (filter q (x ∷ y ∷ ys)) (filter q (cond b (y ∷ insert lt x ys) (x ∷ y ∷ ys)))
    by true ih = IsPermutation-trans _ _ _ (move (q x) (q y) (filter q ys)) (under (q y) _ _ ih)
    by false ih = IsPermutation-refl (filter q (x ∷ y ∷ ys))

pub filter_sort : {X : Type 0} (lt : X → X → Bool) (q : X → Bool) (xs : List X)
    → IsPermutation (filter q xs) (filter q (sort lt xs))
filter_sort lt q [] = IsPermutation-refl []
filter_sort lt q (x ∷ xs) = IsPermutation-trans _ _ _ (under (q x) (filter_sort lt q xs))
    (filter_insert lt q x (sort lt xs))
  where
    under : (b : Bool) → IsPermutation (filter q xs) (filter q (sort lt xs))
        → IsPermutation (cond b (x ∷ filter q xs) (filter q xs))
        (cond b (x ∷ filter q (sort lt xs)) (filter q (sort lt xs)))
    under true p = IsPermutation-cons x _ _ p
    under false p = p

module _ (names : List (List ℕ)) (documents : List Datum) (test : Datum → Bool) where
  -- those that pass a test, in the order of the collection and in that of the index
  pub passing : IsPermutation (filter test documents) (filter test (in_index_order names documents))
  passing =
      subst (λ ds. IsPermutation (filter test ds) (filter test (in_index_order names documents)))
      (all_there names documents)
      (subst (λ ds. IsPermutation ds (filter test (in_index_order names documents)))
      (sym (filter_map (document_of documents) test (entries_of names documents)))
      (subst (λ ds. IsPermutation
      (documents_by documents (filter (λ e. test (document_of documents e)) (entries_of names documents))) ds)
      (sym (filter_map (document_of documents) test (index_entries names documents)))
      (IsPermutation-map (document_of documents) _ _
      (filter_sort is_before (λ e. test (document_of documents e)) (entries_of names documents)))))

  abbrev asc : Datum → Datum → Bool
  asc a b = is_lt (keys_cmp (map (λ name. false) names) (index_keys names a) (index_keys names b))

  asc_order : IsStrictWeakOrder asc
  asc_order = keyed_order (map (λ name. false) names) (index_keys names)

  sorted_passing : InPairs asc (filter test (in_index_order names documents))
  sorted_passing = pairs_filter asc test (in_index_order names documents)
      (in_pairs asc asc_order (in_index_order names documents) (documents_are_in_order names documents).1)

  turned_keys : (ns : List (List ℕ)) (a b : Datum)
      → keys_cmp (map (λ name. true) ns) (index_keys ns a) (index_keys ns b)
      ≡ keys_cmp (map (λ name. false) ns) (index_keys ns b) (index_keys ns a)
  turned_keys [] a b = refl
  turned_keys (n ∷ ns) a b = ap (ordering_then (compare (at_name b n) (at_name a n))) (turned_keys ns a b)

  -- in the order of the index, and against it
  pub passing_up : InIndexOrder names false (filter test documents)
      (filter test (in_index_order names documents))
  passing_up = (passing, from_pairs asc asc_order _ sorted_passing)

  pub passing_down : InIndexOrder names true (filter test documents)
      (reverse (filter test (in_index_order names documents)))
  passing_down = (
    IsPermutation-trans _ _ _ passing (IsPermutation-reverse (filter test (in_index_order names documents))),
    λ k d low h. ap is_lt (turned_keys names _ _) ∙ sorted_down k d low h,
  )
    where
      sorted_down : IsSortedBy (λ a b. is_lt (keys_cmp (map (λ name. false) names) (index_keys names b)
          (index_keys names a))) (reverse (filter test (in_index_order names documents)))
      sorted_down = from_pairs
          (λ a b. is_lt (keys_cmp (map (λ name. false) names) (index_keys names b) (index_keys names a)))
          (IsStrictWeakOrder-flip asc asc_order) _ (pairs_back asc _ sorted_passing)
