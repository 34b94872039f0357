-- The list has the first candidate and the others.
use Rattle.std.proofs.Common.{◌∙◌, ◌∷◌, List, map, false, ap, sym, subst}
use Rattle.std.proofs.lemmas.Result.{IfOk-weaker}
use Rattle.aql_plan.specs.declared.plan.Plan.{Plan as PlanCode}
use Rattle.aql_plan.specs.View.{plan_tree}
use Rattle.aql_rewrite.specs.Placed.{IsWhole}
use Rattle.aql_rules_order.specs.StandsFor.{StandsFor}
use Rattle.aql_opt.specs.laws.Cheapest.{Best}
use Rattle.aql_opt.specs.laws.Tried.{front_stand, all_whole}
use Rattle.aql_opt.proofs.driver.cheapest.Goals as goal

pub cheapest_of-requires-clause-first : goal.cheapest_of-requires-clause-first
cheapest_of-requires-clause-first c =
    let facts = c.args.facts.now in
    subst (λ (q : PlanCode). IsWhole false facts (plan_tree q)) (sym c.replace-first.ensures.value)
    (front_stand facts (plan_tree c.args.plan) c.in_ok-candidates.candidates c.in-Some.first.now
    c.in-Some.others.now (sym c.as_mut_slice.ensures.value ∙ c.in-Some.ensures.cases.0)
    c.in_ok-candidates.ensures.stand).0.whole

pub cheapest_of-requires-clause-others : goal.cheapest_of-requires-clause-others
cheapest_of-requires-clause-others c =
    all_whole c.args.facts.now (plan_tree c.args.plan) (map plan_tree c.in-Some.others.now)
    (front_stand c.args.facts.now (plan_tree c.args.plan) c.in_ok-candidates.candidates c.in-Some.first.now
    c.in-Some.others.now (sym c.as_mut_slice.ensures.value ∙ c.in-Some.ensures.cases.0)
    c.in_ok-candidates.ensures.stand).1

pub returns-clause-best : goal.returns-clause-best
returns-clause-best c =
    let all = c.in_ok-candidates.candidates in
    let parts = sym c.as_mut_slice.ensures.value ∙ c.in-Some.ensures.cases.0 in
    IfOk-weaker c.cheapest_of.result _ _ (λ x h. (
      map plan_tree all,
      c.in_ok-candidates.ensures.candidates,
      subst (λ (cs : List PlanCode). Best c.args.facts.now c.args.rules.now (map plan_tree cs)
          (plan_tree x.plan) x.applied x.reordered)
          (ap (λ (q : PlanCode). q ∷ c.in-Some.others.now) c.replace-first.ensures.value ∙ sym parts) h,
    )) c.cheapest_of.ensures.best

pub returns-clause-finished : goal.returns-clause-finished
returns-clause-finished c =
    let facts = c.args.facts.now in
    let p = plan_tree c.args.plan in
    let both = front_stand facts p c.in_ok-candidates.candidates c.in-Some.first.now c.in-Some.others.now
    (sym c.as_mut_slice.ensures.value ∙ c.in-Some.ensures.cases.0) c.in_ok-candidates.ensures.stand in
    IfOk-weaker c.cheapest_of.result _ _ (λ x h. h p
    (subst (λ (q : PlanCode). StandsFor facts p (plan_tree q)) (sym c.replace-first.ensures.value) both.0)
    both.1) c.cheapest_of.ensures.finished
