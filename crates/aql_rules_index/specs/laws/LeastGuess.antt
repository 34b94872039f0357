-- The best of all candidates is the chosen one.
use Rattle.std.proofs.Common.{◌≡◌, ◌<◌, ◌≤◌, ℕ, List, [], ◌∷◌, ◌++◌, Bool, true, false, cond, ◌⊎◌, inl, inr, Some, None, refl, ap, subst, arith}
use Rattle.std.specs.Prelude.{nat_lt}
use Rattle.std.specs.List.{AllByRecursion}
use Rattle.std.proofs.lemmas.Bool.{ltb-true, ltb-false}
use Rattle.aql_plan.specs.declared.facts.Facts.{Facts}
use Rattle.aql_rules_index.specs.Choice.{Item, Candidate, candidates, guess_of, IsChosen}
use Rattle.aql_rules_index.specs.inner.Least.{better, best_of}
use Rattle.aql_rules_index.specs.laws.Items.{some_same}

module _ (facts : Facts) (coll : ℕ) where
  abbrev size : Candidate → ℕ
  size c = guess_of facts coll c

  abbrev IsAbove : Candidate → Candidate → Type 0
  IsAbove c d = size c < size d

  abbrev IsNotBelow : Candidate → Candidate → Type 0
  IsNotBelow c d = size c ≤ size d

  -- c is a candidate of the list, the first of the least guess
  record IsLeast (cs : List Candidate) (c : Candidate) : Type 0 where
    before : List Candidate
    after : List Candidate
    among : cs ≡ before ++ c ∷ after
    greater : AllByRecursion (IsAbove c) before
    no_smaller : AllByRecursion (IsNotBelow c) after

  -- it is b, or one of the list that is smaller
  abbrev IsBest : Candidate → List Candidate → Candidate → Type 0
  IsBest b cs c = ((b ≡ c) × AllByRecursion (IsNotBelow b) cs) ⊎ ((size c < size b) × IsLeast cs c)

  best_is : (b : Candidate) (cs : List Candidate) (c : Candidate)
      → best_of facts coll (Some b) cs ≡ Some c → IsBest b cs c
  best_is b [] c h = inl (some_same b c h, tt)
  best_is b (d ∷ cs) c h =
      by (nat_lt (size d) (size b)) refl (λ k. best_is d cs c k) (λ k. best_is b cs c k) h
    where
      of_next : size d < size b → IsBest d cs c → IsBest b (d ∷ cs) c
      of_next l (inl (e, all)) =
          let less : size c < size b = omega (arith, l, ap size e) in inr (
            less,
            record {
              before = [];
              after = cs;
              among = ap (λ (f : Candidate). f ∷ cs) e;
              greater = tt;
              no_smaller = subst (λ (f : Candidate). AllByRecursion (IsNotBelow f) cs) e all;
            },
          )
      of_next l (inr (m, k)) =
          let less : size c < size b = omega (arith, l, m) in inr (
            less,
            record {
              before = d ∷ k.before;
              after = k.after;
              among = ap (λ (ds : List Candidate). d ∷ ds) k.among;
              greater = (m, k.greater);
              no_smaller = k.no_smaller;
            },
          )

      of_first : size b ≤ size d → IsBest b cs c → IsBest b (d ∷ cs) c
      of_first l (inl (e, all)) = inl (e, (l, all))
      of_first l (inr (m, k)) =
          let less : size c < size d = omega (arith, l, m) in inr (
            m,
            record {
              before = d ∷ k.before;
              after = k.after;
              among = ap (λ (ds : List Candidate). d ∷ ds) k.among;
              greater = (less, k.greater);
              no_smaller = k.no_smaller;
            },
          )

      by : (t : Bool) → nat_lt (size d) (size b) ≡ t
          → (best_of facts coll (Some d) cs ≡ Some c → IsBest d cs c)
          → (best_of facts coll (Some b) cs ≡ Some c → IsBest b cs c)
          → best_of facts coll (Some (cond t d b)) cs ≡ Some c → IsBest b (d ∷ cs) c
      by true e f g k = of_next (ltb-true (size d) (size b) e) (f k)
      by false e f g k = of_first (ltb-false (size d) (size b) e) (g k)

  least_of : (cs : List Candidate) (c : Candidate) → best_of facts coll None cs ≡ Some c → IsLeast cs c
  least_of [] c h = absurd (cc)
  least_of (b ∷ cs) c h = by (best_is b cs c h)
    where
      by : IsBest b cs c → IsLeast (b ∷ cs) c
      by (inl (e, all)) = record {
        before = [];
        after = cs;
        among = ap (λ (f : Candidate). f ∷ cs) e;
        greater = tt;
        no_smaller = subst (λ (f : Candidate). AllByRecursion (IsNotBelow f) cs) e all;
      }
      by (inr (m, k)) = record {
        before = b ∷ k.before;
        after = k.after;
        among = ap (λ (ds : List Candidate). b ∷ ds) k.among;
        greater = (m, k.greater);
        no_smaller = k.no_smaller;
      }

  pub chosen_is : (is : List Item) (c : Candidate)
      → best_of facts coll None (candidates facts coll is) ≡ Some c → IsChosen facts coll is c
  chosen_is is c h =
      let k = least_of (candidates facts coll is) c h in record {
        before = k.before;
        after = k.after;
        among = k.among;
        greater = k.greater;
        no_smaller = k.no_smaller;
      }

  some_best : (b : Candidate) (cs : List Candidate) → best_of facts coll (Some b) cs ≡ None → ⊥
  some_best b [] h = cc
  some_best b (c ∷ cs) h = some_best (better facts coll (Some b) c) cs h

  pub none_best : (cs : List Candidate) → best_of facts coll None cs ≡ None → cs ≡ []
  none_best [] h = refl
  none_best (c ∷ cs) h = absurd (some_best c cs h)
