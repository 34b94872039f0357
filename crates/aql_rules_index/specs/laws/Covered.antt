-- What is left of a condition holds in the bounds of an Index where the condition does, so the rule
-- remove-filter-covered-by-index refines.
use Rattle.std.proofs.Common.{◌∙◌, [], ◌∷◌, false, Option, sym}
use Rattle.aql_meaning.specs.Row.{bind}
use Rattle.aql_meaning.specs.Uses.{Uses}
use Rattle.aql_plan.specs.declared.facts.Facts.{Facts}
use Rattle.aql_plan.specs.FirstPlan.{conjuncts}
use Rattle.aql_plan.specs.Plan.{Plan}
use Rattle.aql_plan.specs.Refines.{dataset}
use Rattle.aql_plan_laws.specs.laws.Agreement.{rows_agree}
use Rattle.aql_rewrite.specs.declared.swap.Rename.{Rename}
use Rattle.aql_rewrite.specs.Swaps.{Replaced}
use Rattle.aql_rules_filter.specs.Conditions.{all_of}
use Rattle.aql_rules_filter.specs.laws.Joined.{parts_hold, all_hold}
use Rattle.aql_rules_index.specs.RemoveFilterCoveredByIndex.{RemovesCovered, some_left, none_left}
use Rattle.aql_rules_index.specs.laws.Rows.{covered_whole}
use Rattle.aql_rules_index.specs.laws.Rules.{rest_holds, drops_items}

pub covered_refines : (facts : Facts) (us : Uses) (p q : Plan) (r : Option Rename)
    → RemovesCovered facts us p q r → Replaced false facts us p q r
covered_refines facts _ _ _ _
    (some_left {us = us} {b = b} {x = x} {index = index} {equal = equal} {last = last} {ordered = ordered}
    {c = c} {e = e} {left = left} a h) =
    λ db meets start out g. (
      out,
      drops_items (dataset facts db) x index equal last ordered c (all_of (e ∷ left)) (e ∷ left) a h.0
          (λ row. all_hold row (e ∷ left)) b start out g,
      rows_agree us out,
    )
covered_refines facts _ _ _ _
    (none_left {us = us} {b = b} {x = x} {index = index} {equal = equal} {last = last} {ordered = ordered}
    {c = c} a h) =
    λ db meets start out g. (
      out,
      covered_whole (dataset facts db) x index equal last ordered c a
          (λ row d inside. sym (parts_hold (bind x.var row d) c)
          ∙ rest_holds (dataset facts db) x index equal last row d inside (conjuncts c) [] h.0) b start out g,
      rows_agree us out,
    )
