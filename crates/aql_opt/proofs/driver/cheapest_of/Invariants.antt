use Rattle.std.proofs.Common.{◌≡◌, ◌∷◌, ℕ, List, map, take}
use Rattle.std.specs.List.{AllByRecursion}
use Rattle.aql_plan.specs.declared.facts.Facts.{Facts}
use Rattle.aql_plan.specs.declared.plan.Plan.{Plan as PlanCode}
use Rattle.aql_plan.specs.Plan.{Plan}
use Rattle.aql_plan.specs.View.{plan_tree}
use Rattle.aql_rules_order.specs.StandsFor.{StandsFor}
use Rattle.aql_plan.specs.declared.rule_sets.Rules.{Rules}
use Rattle.aql_opt.specs.declared.driver.Candidate.{Candidate}
use Rattle.aql_opt.specs.Chosen.{cost_of}
use Rattle.aql_opt.specs.laws.Cheapest.{Best}
use Rattle.aql_opt.specs.inner.Later.{Finished}
use Rattle.aql_opt.specs.laws.Tried.{Untaken}
use Rattle.aql_opt.proofs.driver.cheapest_of.Given as goal

-- of the first plan and so many others this one ends cheapest
abbrev pub IsBestOf : Facts → Rules → PlanCode → List PlanCode → ℕ → Candidate → Type 0
IsBestOf facts rules first others count found = record {
  best : Best facts rules (plan_tree first ∷ map plan_tree (take count others)) (plan_tree found.plan)
      found.applied found.reordered;
  finished : (p : Plan) → StandsFor facts p (plan_tree first)
      → AllByRecursion (StandsFor facts p) (map plan_tree others) → Finished facts p (plan_tree found.plan);
  cost : found.cost ≡ cost_of facts (plan_tree found.plan);
}

abbrev pub invariant-loop-candidate : goal.invariant-loop-candidate
invariant-loop-candidate l = record {
  best : IsBestOf l.facts l.rules l.fn.first l.fn.others l.candidate-index l.best;
  left : Untaken l.fn.others l.candidate-index l.others;
}
