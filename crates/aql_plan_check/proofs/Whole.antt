-- The parts of what is well formed, together.
use Rattle.std.proofs.Common.{◌≡◌, ◌∙◌, ap, sym, [], ◌++◌, Bool, true, false, true≢false}
use Rattle.std.specs.Prelude.{◌↔◌, IsTrue}
use Rattle.std.specs.List.{AllByRecursion}
use Rattle.std.proofs.lemmas.List.{append-nil}
use Rattle.aql_meaning.specs.Numbered.{IsNumber}
use Rattle.aql_plan.specs.declared.facts.Facts.{Facts}
use Rattle.aql_plan.specs.Plan.{Plan}
use Rattle.aql_plan.specs.Variables.{FindsAll, vars_set, numbers, are_distinct}
use Rattle.aql_plan.specs.Shapes.{Shaped, Result}
use Rattle.aql_plan.specs.WellFormed.{CollectionFits, IsWellFormed}
use Rattle.aql_plan_check.specs.inner.Rows.{variables}
use Rattle.aql_plan_check.proofs.Numbered.{numbers_back}

-- the variables by their numbers
same_distinct : (p : Plan) → AllByRecursion IsNumber (vars_set p)
    → are_distinct (vars_set p ++ []) ≡ are_distinct (variables (numbers (vars_set p)))
same_distinct p k = ap are_distinct (append-nil (vars_set p) ∙ sym (numbers_back (vars_set p) k))

pub whole : (facts : Facts) (p : Plan) (r : Bool) → AllByRecursion CollectionFits facts.collections
    → Shaped facts p Result → AllByRecursion IsNumber (vars_set p)
    → are_distinct (variables (numbers (vars_set p))) ≡ true
    → IsTrue r ↔ FindsAll [] p → IsTrue r ↔ IsWellFormed facts [] p
whole facts p r f s k d h =
    ((λ t. (f, s, h.0 t, same_distinct p k ∙ d, k)), (λ w. h.1 w.2))

pub not_distinct : (facts : Facts) (p : Plan) → AllByRecursion IsNumber (vars_set p)
    → are_distinct (variables (numbers (vars_set p))) ≡ false → IsTrue false ↔ IsWellFormed facts [] p
not_distinct facts p k d = (
  (λ t. absurd (true≢false (sym t))),
  (λ w. absurd (true≢false (sym w.3 ∙ same_distinct p k ∙ d))),
)
