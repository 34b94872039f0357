-- Sets of rules, bit by bit.
use Rattle.std.proofs.Common.{◌≡◌, ◌∙◌, ℕ, ◌≤◌, ◌*◌, ◌^◌, ◌/◌, ◌%◌, Bool, true, false, true≢false, nat_eq, inl, inr, refl, ap, sym, subst, arith}
use Rattle.std.specs.Prelude.{◌⊎◌, ◌↔◌, max, Some, List, [], ◌∷◌, slice_get}
use Rattle.std.specs.Int.{bit_at}
use Rattle.std.specs.Int.RustNames.{bit_or}
use Rattle.std.proofs.lemmas.Bool.{eqb-true, eq-eqb}
use Rattle.std.proofs.lemmas.Nat.Bits.{bit_at-zero, bit_at_or, bit_at-pow_same, bit_at-pow_other}
use Rattle.aql_plan.specs.declared.rules.RuleName.{RuleName}
use Rattle.aql_plan.specs.declared.rules.RuleName.TheVariants as rule
use Rattle.aql_plan.specs.RuleSets.{bit_of}

pub all_have : (r : RuleName) → bit_at 67108863 (bit_of r) ≡ 1
all_have rule.SimplifyConditions = refl
all_have rule.InlineSubqueries = refl
all_have rule.InterchangeAdjacentEnumerations = refl
all_have rule.MoveCalculationsUp = refl
all_have rule.MoveFiltersUp = refl
all_have rule.RemoveRedundantCalculations = refl
all_have rule.RemoveUnnecessaryFilters = refl
all_have rule.RemoveUnnecessaryCalculations = refl
all_have rule.RemoveRedundantSorts = refl
all_have rule.RemoveCollectVariables = refl
all_have rule.ReplaceOrWithIn = refl
all_have rule.FuseFilters = refl
all_have rule.OptimizeTraversals = refl
all_have rule.UseIndexes = refl
all_have rule.RemoveFilterCoveredByIndex = refl
all_have rule.UseIndexForSort = refl
all_have rule.SortLimit = refl
all_have rule.MoveFiltersIntoEnumerate = refl
all_have rule.ReduceExtractionToProjection = refl
all_have rule.ScatterInCluster = refl
all_have rule.DistributeInCluster = refl
all_have rule.RestrictToSingleShard = refl
all_have rule.DistributeFiltercalcToCluster = refl
all_have rule.RemoveUnnecessaryRemoteScatter = refl
all_have rule.CollectInCluster = refl
all_have rule.DistributeSortToCluster = refl

pub none_has : (r : RuleName) → bit_at 0 (bit_of r) ≡ 1 → ⊥
none_has r h = let none = bit_at-zero (bit_of r) in cc

in_order : List RuleName
in_order = rule.SimplifyConditions ∷ rule.InlineSubqueries ∷ rule.InterchangeAdjacentEnumerations ∷ rule.MoveCalculationsUp ∷ rule.MoveFiltersUp ∷ rule.RemoveRedundantCalculations ∷ rule.RemoveUnnecessaryFilters ∷ rule.RemoveUnnecessaryCalculations ∷ rule.RemoveRedundantSorts ∷ rule.RemoveCollectVariables ∷ rule.ReplaceOrWithIn ∷ rule.FuseFilters ∷ rule.OptimizeTraversals ∷ rule.UseIndexes ∷ rule.RemoveFilterCoveredByIndex ∷ rule.UseIndexForSort ∷ rule.SortLimit ∷ rule.MoveFiltersIntoEnumerate ∷ rule.ReduceExtractionToProjection ∷ rule.ScatterInCluster ∷ rule.DistributeInCluster ∷ rule.RestrictToSingleShard ∷ rule.DistributeFiltercalcToCluster ∷ rule.RemoveUnnecessaryRemoteScatter ∷ rule.CollectInCluster ∷ rule.DistributeSortToCluster ∷ []

placed : (r : RuleName) → slice_get in_order (bit_of r) ≡ Some r
unfolding in_order
placed rule.SimplifyConditions = refl
placed rule.InlineSubqueries = refl
placed rule.InterchangeAdjacentEnumerations = refl
placed rule.MoveCalculationsUp = refl
placed rule.MoveFiltersUp = refl
placed rule.RemoveRedundantCalculations = refl
placed rule.RemoveUnnecessaryFilters = refl
placed rule.RemoveUnnecessaryCalculations = refl
placed rule.RemoveRedundantSorts = refl
placed rule.RemoveCollectVariables = refl
placed rule.ReplaceOrWithIn = refl
placed rule.FuseFilters = refl
placed rule.OptimizeTraversals = refl
placed rule.UseIndexes = refl
placed rule.RemoveFilterCoveredByIndex = refl
placed rule.UseIndexForSort = refl
placed rule.SortLimit = refl
placed rule.MoveFiltersIntoEnumerate = refl
placed rule.ReduceExtractionToProjection = refl
placed rule.ScatterInCluster = refl
placed rule.DistributeInCluster = refl
placed rule.RestrictToSingleShard = refl
placed rule.DistributeFiltercalcToCluster = refl
placed rule.RemoveUnnecessaryRemoteScatter = refl
placed rule.CollectInCluster = refl
placed rule.DistributeSortToCluster = refl

same_place : (r s : RuleName) → bit_of r ≡ bit_of s → r ≡ s
same_place r s e =
    let both = sym (placed r) ∙ ap (slice_get in_order) e ∙ placed s in cc

greatest_one : (a b c : ℕ) → c ≡ max a b → b ≡ 1 → a ≤ 1 → c ≡ 1
greatest_one a b c e f h = omega (arith, e, f, h)

greatest_other : (a b c : ℕ) → c ≡ max a b → b ≡ 0 → c ≡ a
greatest_other a b c e f = omega (arith, e, f)

one_or_none : (n : ℕ) → n % 2 ≤ 1
one_or_none n = omega arith

-- a bit of a set with one more rule
pub one_more : (bits : ℕ) (new r : RuleName)
    → (bit_at (bit_or bits (2 ^ bit_of new)) (bit_of r) ≡ 1) ↔ ((r ≡ new) ⊎ (bit_at bits (bit_of r) ≡ 1))
one_more bits new r = by (nat_eq (bit_of r) (bit_of new)) refl
  where
    by : (b : Bool) → nat_eq (bit_of r) (bit_of new) ≡ b
        → (bit_at (bit_or bits (2 ^ bit_of new)) (bit_of r) ≡ 1) ↔ ((r ≡ new) ⊎ (bit_at bits (bit_of r) ≡ 1))
    by true e =
        let same : bit_of r ≡ bit_of new = eqb-true (bit_of r) (bit_of new) e in
        let here : bit_at (2 ^ bit_of new) (bit_of r) ≡ 1 =
        subst (λ (n : ℕ). bit_at (2 ^ bit_of new) n ≡ 1) (sym same) (bit_at-pow_same (bit_of new)) in
        let has = greatest_one (bit_at bits (bit_of r)) (bit_at (2 ^ bit_of new) (bit_of r)) _
        (bit_at_or bits (2 ^ bit_of new) (bit_of r)) here (one_or_none (bits / 2 ^ bit_of r)) in
        (λ _. inl (same_place r new same), λ _. has)
    by false e =
        let other : bit_of r ≡ bit_of new → ⊥ =
        λ f. true≢false (sym (eq-eqb (bit_of r) (bit_of new) f) ∙ e) in
        let old = greatest_other (bit_at bits (bit_of r)) (bit_at (2 ^ bit_of new) (bit_of r)) _
        (bit_at_or bits (2 ^ bit_of new) (bit_of r)) (bit_at-pow_other (bit_of new) (bit_of r) other) in (
          λ h. inr (sym old ∙ h),
          λ h. elim h [ inl f ↦ absurd (other (ap bit_of f)) | inr k ↦ old ∙ k ],
        )

power_fits : (r : RuleName) → 1 * 2 ^ bit_of r % 4294967296 ≡ 2 ^ bit_of r
power_fits rule.SimplifyConditions = refl
power_fits rule.InlineSubqueries = refl
power_fits rule.InterchangeAdjacentEnumerations = refl
power_fits rule.MoveCalculationsUp = refl
power_fits rule.MoveFiltersUp = refl
power_fits rule.RemoveRedundantCalculations = refl
power_fits rule.RemoveUnnecessaryFilters = refl
power_fits rule.RemoveUnnecessaryCalculations = refl
power_fits rule.RemoveRedundantSorts = refl
power_fits rule.RemoveCollectVariables = refl
power_fits rule.ReplaceOrWithIn = refl
power_fits rule.FuseFilters = refl
power_fits rule.OptimizeTraversals = refl
power_fits rule.UseIndexes = refl
power_fits rule.RemoveFilterCoveredByIndex = refl
power_fits rule.UseIndexForSort = refl
power_fits rule.SortLimit = refl
power_fits rule.MoveFiltersIntoEnumerate = refl
power_fits rule.ReduceExtractionToProjection = refl
power_fits rule.ScatterInCluster = refl
power_fits rule.DistributeInCluster = refl
power_fits rule.RestrictToSingleShard = refl
power_fits rule.DistributeFiltercalcToCluster = refl
power_fits rule.RemoveUnnecessaryRemoteScatter = refl
power_fits rule.CollectInCluster = refl
power_fits rule.DistributeSortToCluster = refl

-- the same of the number that the program joins
pub with_one : (bits n : ℕ) (new r : RuleName) → n ≡ bit_of new
    → (bit_at (bit_or bits (1 * 2 ^ n % 4294967296)) (bit_of r) ≡ 1)
    ↔ ((r ≡ new) ⊎ (bit_at bits (bit_of r) ≡ 1))
with_one bits n new r e =
    let same = ap (λ (k : ℕ). 1 * 2 ^ k % 4294967296) e ∙ power_fits new in
    subst (λ (m : ℕ). (bit_at (bit_or bits m) (bit_of r) ≡ 1) ↔ ((r ≡ new) ⊎ (bit_at bits (bit_of r) ≡ 1)))
    (sym same) (one_more bits new r)
