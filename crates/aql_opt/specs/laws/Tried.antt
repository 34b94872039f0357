-- The candidates that are tried, and that what comes of one may stand for the plan.
use Rattle.std.proofs.Common.{◌≡◌, ◌∙◌, ℕ, zero, suc, ◌+◌, ◌<◌, ◌≤◌, List, [], ◌∷◌, ◌++◌, map, length, take, get_or, set, ◌≢◌, false, ap, sym, subst, arith}
use Rattle.std.specs.List.{AllByRecursion}
use Rattle.std.proofs.lemmas.List.{take_more, map-append, length-set, get_or-set_other}
use Rattle.aql_plan.specs.declared.facts.Facts.{Facts}
use Rattle.aql_plan.specs.declared.plan.Plan.{Plan as PlanCode}
use Rattle.aql_plan.specs.declared.rules.RuleName.TheVariants as rule
use Rattle.aql_plan.specs.Plan.{Plan}
use Rattle.aql_plan.specs.View.{plan_tree}
use Rattle.aql_rewrite.specs.Placed.{IsWhole}
use Rattle.aql_rewrite.specs.laws.Steps.{sets_self}
use Rattle.aql_rules_order.specs.StandsFor.{StandsFor}
use Rattle.aql_plan.specs.declared.rule_sets.Rules.{Rules}
use Rattle.aql_plan.specs.RuleSets.{Has}
use Rattle.aql_opt.specs.Chosen.{CandidatesBy, alone}

-- ---- standing for a plan

pub stands_itself : (facts : Facts) (p : Plan) → IsWhole false facts p → StandsFor facts p p
stands_itself facts p whole =
    record { refines = λ db meets start vs a. a; whole = whole; sets = sets_self p }

-- ---- the candidates

pub alone_by : (rules : Rules) (p : Plan) (cs : List Plan)
    → (Has rules rule.InterchangeAdjacentEnumerations → ⊥) → cs ≡ p ∷ [] → CandidatesBy rules p cs
alone_by rules p cs off e = subst (CandidatesBy rules p) (sym e) (alone off)

pub alone_stands : (facts : Facts) (p : Plan) (cs : List Plan) → IsWhole false facts p → cs ≡ p ∷ []
    → AllByRecursion (StandsFor facts p) cs
alone_stands facts p cs whole e =
    subst (AllByRecursion (StandsFor facts p)) (sym e) (stands_itself facts p whole, tt)

-- ---- the candidates as the program holds them

pub front_stand : (facts : Facts) (p : Plan) (all : List PlanCode) (first : PlanCode) (others : List PlanCode)
    → all ≡ first ∷ others → AllByRecursion (StandsFor facts p) (map plan_tree all)
    → StandsFor facts p (plan_tree first) × AllByRecursion (StandsFor facts p) (map plan_tree others)
front_stand facts p all first others e h =
    subst (λ (cs : List PlanCode). AllByRecursion (StandsFor facts p) (map plan_tree cs)) e h

pub all_whole : (facts : Facts) (p : Plan) (qs : List Plan) → AllByRecursion (StandsFor facts p) qs
    → AllByRecursion (IsWhole false facts) qs
all_whole facts p [] h = tt
all_whole facts p (q ∷ qs) h = (h.0.whole, all_whole facts p qs h.1)

pub holds_at : (P : Plan → Type 0) (others : List PlanCode) (at : ℕ) (x : PlanCode) → at < length others
    → x ≡ get_or others at x → AllByRecursion P (map plan_tree others) → P (plan_tree x)
holds_at P [] at x h e k = absurd (omega (arith, h))
holds_at P (y ∷ others) zero x h e k = subst (λ (z : PlanCode). P (plan_tree z)) (sym e) k.0
holds_at P (y ∷ others) (suc at) x h e k = holds_at P others at x (omega (arith, h)) e k.1

pub tried_more : (p : Plan) (others : List PlanCode) (at : ℕ) (x : PlanCode) → at < length others
    → x ≡ get_or others at x
    → (p ∷ map plan_tree (take at others)) ++ plan_tree x ∷ [] ≡ p ∷ map plan_tree (take (at + 1) others)
tried_more p others at x h e =
    ap (λ (cs : List Plan). p ∷ cs)
    (sym (ap (map plan_tree)
    (take_more others at x h ∙ ap (λ (y : PlanCode). take at others ++ y ∷ []) (sym e))
    ∙ map-append plan_tree (take at others) (x ∷ [])))

-- from a place on the candidates are still in their list
abbrev pub Untaken : List PlanCode → ℕ → List PlanCode → Type 0
Untaken all at left = (length left ≡ length all)
    × ((k : ℕ) (d : PlanCode) → at ≤ k → get_or left k d ≡ get_or all k d)

module _ (all : List PlanCode) (at : ℕ) (left : List PlanCode) (untaken : Untaken all at left) where
  -- the one at hand
  pub taken_is : (d x : PlanCode) → d ≡ get_or left at d → x ≡ get_or left at d → x ≡ get_or all at x
  taken_is d x e f = subst (λ (z : PlanCode). z ≡ get_or all at z) (sym (f ∙ sym e))
      (e ∙ untaken.1 at d (omega arith))

  pub taken_out : (y : PlanCode) → Untaken all (at + 1) (set left at y)
  taken_out y = (
    length-set left at y ∙ untaken.0,
    λ k d h. let other : k ≢ at = omega arith in
        get_or-set_other left at k y d other ∙ untaken.1 k d (omega arith),
  )

-- ---- costs as numbers

pub less_costs : (a b m n : ℕ) → a ≡ m → b ≡ n → a < b → m < n
less_costs a b m n e f h = omega (arith, e, f, h)

pub no_less_costs : (a b m n : ℕ) → a ≡ m → b ≡ n → b ≤ a → n ≤ m
no_less_costs a b m n e f h = omega (arith, e, f, h)
