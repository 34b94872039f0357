-- Collections that are known have differing numbers where each name counts once.
use Rattle.std.proofs.Common.{◌≡◌, ◌∙◌, ℕ, suc, List, [], ◌∷◌, map, Bool, true, false, true≢false, cond, refl, sym, subst}
use Rattle.std.specs.Prelude.{Option, Some, None, MatchOption, slice_get, filter, not, bytes_eq, eqb}
use Rattle.std.specs.List.{AllByRecursion, IsDistinct}
use Rattle.std.proofs.lemmas.Bool.{eqb-true}
use Rattle.std.proofs.lemmas.Slice.Eq.{bytes_eq-Decides}
use Rattle.aql_meaning.specs.Visible.{each_once}
use Rattle.aql_plan.specs.declared.facts.Facts.{Facts}
use Rattle.aql_plan.specs.declared.facts.CollFact.{CollFact}
use Rattle.aql_plan.specs.Fits.{IsEdgeCollection}
use Rattle.aql_plan.specs.FirstPlan.{number_among, coll_number}
use Rattle.aql_build.proofs.Collections.{all_kept}

-- the collection at the place of a name has that name
abbrev Named : List ℕ → Option CollFact → Type 0
Named name found = MatchOption found ⊥ (λ (c : CollFact). bytes_eq c.name name ≡ true)

abbrev Edges : Option CollFact → Type 0
Edges found = MatchOption found ⊥ (λ (c : CollFact). c.edge ≡ true)

named_there : (cs : List CollFact) (name : List ℕ) → Edges (slice_get cs (number_among cs name))
    → Named name (slice_get cs (number_among cs name))
named_there [] name h = h
named_there (c ∷ cs) name h = by (bytes_eq c.name name) refl (named_there cs name) h
  where
    by : (b : Bool) → bytes_eq c.name name ≡ b
        → (Edges (slice_get cs (number_among cs name)) → Named name (slice_get cs (number_among cs name)))
        → Edges (slice_get (c ∷ cs) (cond b 0 (suc (number_among cs name))))
        → Named name (slice_get (c ∷ cs) (cond b 0 (suc (number_among cs name))))
    by true e f g = e
    by false e f g = f g

-- one collection has one name
one_name : (n m : List ℕ) (found : Option CollFact) → Named n found → Named m found → bytes_eq n m ≡ true
one_name n m None h k = absurd h
one_name n m (Some c) h k =
    subst (λ (z : List ℕ). bytes_eq z m ≡ true) ((bytes_eq-Decides c.name n).0 h) k

module _ (facts : Facts) where
  apart : (n m : List ℕ) → IsEdgeCollection facts (coll_number facts n)
      → IsEdgeCollection facts (coll_number facts m) → bytes_eq n m ≡ false
      → eqb (coll_number facts n) (coll_number facts m) ≡ false
  apart n m h k e = by (eqb (coll_number facts n) (coll_number facts m)) refl
    where
      by : (b : Bool) → eqb (coll_number facts n) (coll_number facts m) ≡ b → b ≡ false
      by false l = refl
      by true l =
          let one = one_name n m (slice_get facts.collections (coll_number facts m))
          (subst (λ (i : ℕ). Named n (slice_get facts.collections i))
          (eqb-true (coll_number facts n) (coll_number facts m) l)
          (named_there facts.collections n h)) (named_there facts.collections m k) in
          absurd (true≢false (sym one ∙ e))

  others_apart : (n : List ℕ) (ms : List (List ℕ)) → IsEdgeCollection facts (coll_number facts n)
      → AllByRecursion (IsEdgeCollection facts) (map (coll_number facts) ms)
      → AllByRecursion (λ m. bytes_eq n m ≡ false) ms
      → AllByRecursion (λ k. eqb (coll_number facts n) k ≡ false) (map (coll_number facts) ms)
  others_apart n [] h k e = tt
  others_apart n (m ∷ ms) h k e = (apart n m h k.0 e.0, others_apart n ms h k.1 e.1)

  numbers_differ : (ms : List (List ℕ)) → AllByRecursion (IsEdgeCollection facts) (map (coll_number facts) ms)
      → IsDistinct bytes_eq ms → IsDistinct eqb (map (coll_number facts) ms)
  unfolding IsDistinct
  numbers_differ [] h d = tt
  numbers_differ (m ∷ ms) h d = (others_apart m ms h.0 h.1 d.0, numbers_differ ms h.1 d.1)

-- those that are kept differ from the name that is dropped
rest_differs : (n : List ℕ) (ms : List (List ℕ))
    → AllByRecursion (λ m. bytes_eq n m ≡ false) (filter (λ m. not (bytes_eq n m)) ms)
rest_differs n [] = tt
rest_differs n (m ∷ ms) = by (bytes_eq n m) refl (rest_differs n ms)
  where
    by : (b : Bool) → bytes_eq n m ≡ b
        → AllByRecursion (λ k. bytes_eq n k ≡ false) (filter (λ k. not (bytes_eq n k)) ms)
        → AllByRecursion (λ k. bytes_eq n k ≡ false)
        (cond (not b) (m ∷ filter (λ k. not (bytes_eq n k)) ms) (filter (λ k. not (bytes_eq n k)) ms))
    by true e h = h
    by false e h = (e, h)

kept_differ : {X : Type 0} (eq : X → X → Bool) (keeps : X → Bool) (xs : List X) → IsDistinct eq xs
    → IsDistinct eq (filter keeps xs)
unfolding IsDistinct
kept_differ eq keeps [] h = tt
kept_differ eq keeps (x ∷ xs) h =
    by (keeps x) (all_kept (λ y. eq x y ≡ false) keeps xs h.0) (kept_differ eq keeps xs h.1)
  where
    by : (b : Bool) → AllByRecursion (λ y. eq x y ≡ false) (filter keeps xs) → IsDistinct eq (filter keeps xs)
        → IsDistinct eq (cond b (x ∷ filter keeps xs) (filter keeps xs))
    by true k d = (k, d)
    by false k d = d

names_differ : (names : List (List ℕ)) → IsDistinct bytes_eq (each_once names)
unfolding IsDistinct
names_differ [] = tt
names_differ (n ∷ ns) = (
  rest_differs n (each_once ns),
  kept_differ bytes_eq (λ m. not (bytes_eq n m)) (each_once ns) (names_differ ns),
)

pub collections_differ : (facts : Facts) (names : List (List ℕ))
    → AllByRecursion (IsEdgeCollection facts) (map (coll_number facts) (each_once names))
    → IsDistinct eqb (map (coll_number facts) (each_once names))
collections_differ facts names h = numbers_differ facts (each_once names) h (names_differ names)
