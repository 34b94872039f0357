-- The index that is chosen has the bounds that the items give to it, so the rule use-indexes refines.
use Rattle.std.proofs.Common.{◌≡◌, ◌∙◌, ◌+◌, ℕ, suc, List, [], ◌∷◌, ◌++◌, Bool, true, false, cond, Option, Some, None, refl, sym, ap, subst, arith}
use Rattle.std.specs.Prelude.{unwrap_or, option_map, slice_get}
use Rattle.std.specs.List.{AllByRecursion}
use Rattle.aql_meaning.specs.Uses.{Uses}
use Rattle.aql_plan.specs.declared.facts.Facts.{Facts}
use Rattle.aql_plan.specs.declared.facts.IndexFact.{IndexFact}
use Rattle.aql_plan.specs.declared.facts.IndexKind.TheVariants as kind
use Rattle.aql_plan.specs.Facts.{indexes_in, attributes_in}
use Rattle.aql_plan.specs.FirstPlan.{conjuncts}
use Rattle.aql_plan.specs.Plan.{Plan, Over, Index, Filter}
use Rattle.aql_plan.specs.Refines.{dataset}
use Rattle.aql_plan.specs.Runs.{Outside, Runs}
use Rattle.aql_plan_laws.specs.laws.Agreement.{rows_agree}
use Rattle.aql_rewrite.specs.declared.swap.Rename.{Rename}
use Rattle.aql_rewrite.specs.Swaps.{Replaced}
use Rattle.aql_value.specs.laws.Alls.{all_more}
use Rattle.aql_rules_index.specs.Choice.{Item, items_of, Bounds, bounds_for, kind_in, has_bound, Candidate, candidates_from, IsChosen}
use Rattle.aql_rules_index.specs.UseIndexes.{UsesIndex, used}
use Rattle.aql_rules_index.specs.laws.Rules.{uses_index}

module _ (is : List Item) where
  -- a candidate is an index of a list, of which the first has the number n, with a bound or more
  abbrev IsOf : ℕ → List IndexFact → Candidate → Type 0
  IsOf n fs c = (k : ℕ) × (c.index ≡ n + k) × (f : IndexFact) × (slice_get fs k ≡ Some f)
      × (c.bounds ≡ bounds_for f.kind f.attributes is) × (has_bound c.bounds.equal c.bounds.last ≡ true)

  one_more : (n : ℕ) (f : IndexFact) (fs : List IndexFact) (c : Candidate) → IsOf (suc n) fs c
      → IsOf n (f ∷ fs) c
  one_more n f fs c (k, e, g, found, bounds, some) = (suc k, omega (arith, e), g, found, bounds, some)

  all_are : (n : ℕ) (fs : List IndexFact) → AllByRecursion (IsOf n fs) (candidates_from n fs is)
  all_are n [] = tt
  all_are n (f ∷ fs) = by
      (has_bound (bounds_for f.kind f.attributes is).equal (bounds_for f.kind f.attributes is).last) refl
      (all_more (IsOf (suc n) fs) (IsOf n (f ∷ fs)) (one_more n f fs) (candidates_from (suc n) fs is)
      (all_are (suc n) fs))
    where
      by : (b : Bool)
          → has_bound (bounds_for f.kind f.attributes is).equal (bounds_for f.kind f.attributes is).last ≡ b
          → AllByRecursion (IsOf n (f ∷ fs)) (candidates_from (suc n) fs is)
          → AllByRecursion (IsOf n (f ∷ fs)) (cond b
          (record { index = n; bounds = bounds_for f.kind f.attributes is } ∷ candidates_from (suc n) fs is)
          (candidates_from (suc n) fs is))
      by true e k = let same : n ≡ n + 0 = omega arith in ((0, same, f, refl, refl, e), k)
      by false e k = k

one_between : {X : Type 0} (P : X → Type 0) (xs : List X) (x : X) (ys : List X)
    → AllByRecursion P (xs ++ x ∷ ys) → P x
one_between P [] x ys h = h.0
one_between P (z ∷ xs) x ys h = one_between P xs x ys h.1

-- the chosen one is an index of the collection, with the bounds that the items give to it, a bound or more
pub record IsIndexOf (facts : Facts) (coll : ℕ) (is : List Item) (chosen : Candidate) : Type 0 where
  pub fact : IndexFact
  pub there : slice_get (indexes_in facts coll) chosen.index ≡ Some fact
  pub given : chosen.bounds ≡ bounds_for fact.kind fact.attributes is
  pub some : has_bound chosen.bounds.equal chosen.bounds.last ≡ true

pub chosen_of : (facts : Facts) (coll : ℕ) (is : List Item) (chosen : Candidate)
    → IsChosen facts coll is chosen → IsIndexOf facts coll is chosen
chosen_of facts coll is chosen h =
    by (one_between (IsOf is 0 (indexes_in facts coll)) h.before chosen h.after
    (subst (AllByRecursion (IsOf is 0 (indexes_in facts coll))) h.among
    (all_are is 0 (indexes_in facts coll))))
  where
    by : IsOf is 0 (indexes_in facts coll) chosen → IsIndexOf facts coll is chosen
    by (k, e, f, found, bounds, some) =
        let number : chosen.index ≡ k = omega (arith, e) in record {
          fact = f;
          there = ap (slice_get (indexes_in facts coll)) number ∙ found;
          given = bounds;
          some = some;
        }

chosen_bounds : (facts : Facts) (coll : ℕ) (is : List Item) (chosen : Candidate)
    → IsIndexOf facts coll is chosen
    → chosen.bounds ≡ bounds_for (kind_in facts coll chosen.index) (attributes_in facts coll chosen.index) is
chosen_bounds facts coll is chosen h = h.given
    ∙ sym (ap (λ (o : Option IndexFact). bounds_for
    (unwrap_or (option_map (λ (i : IndexFact). i.kind) o) kind.Sorted)
    (unwrap_or (option_map (λ (i : IndexFact). i.attributes) o) []) is) h.there)

pub chosen_refines : (facts : Facts) (us : Uses) (p q : Plan) (r : Option Rename) → UsesIndex facts us p q r
    → Replaced false facts us p q r
chosen_refines facts _ _ _ _ (used {us = us} {b = b} {x = x} {c = c} {chosen = chosen} f a h) =
    λ db meets start out g. (
      out,
      uses_index (kind_in facts x.coll chosen.index) (dataset facts db) x chosen.index c f a b start out
          (subst (λ (bounds : Bounds).
          Runs (Over (Over b (Index x chosen.index bounds.equal bounds.last None)) (Filter c))
          (dataset facts db) Outside start out)
          (chosen_bounds facts x.coll (items_of x.var (conjuncts c)) chosen
          (chosen_of facts x.coll (items_of x.var (conjuncts c)) chosen h)) g),
      rows_agree us out,
    )
