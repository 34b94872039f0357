-- The parts of the definition, together.
use Rattle.std.proofs.Common.{◌∙◌, ap, sym, subst, List, ℕ}
use Rattle.std.specs.Prelude.{◌↔◌, IsTrue}
use Rattle.std.proofs.lemmas.Result.{IfOk-weaker}
use Rattle.std.specs.List.{AllByRecursion}
use Rattle.aql_plan.specs.declared.facts.CollFact.{CollFact}
use Rattle.aql_plan.specs.Variables.{FindsAll, are_distinct}
use Rattle.aql_plan.specs.View.{plan_tree}
use Rattle.aql_plan.specs.WellFormed.{CollectionFits}
use Rattle.aql_plan_check.specs.inner.Rows.{variables}
use Rattle.aql_plan_check.proofs.Numbered.{result_numbered}
use Rattle.aql_plan_check.proofs.Whole.{whole, not_distinct}
use Rattle.aql_plan_check.proofs.well_formed.Goals as goal

pub result_finds-requires : goal.result_finds-requires
result_finds-requires c = result_numbered c.args.facts.now (plan_tree c.args.plan.now)
    (c.has_result.ensures.0 c.if-not-has_result.false) (c.sets_numbers.ensures.0 c.if-not-sets_numbers.false)

pub returns-then-not-branch : goal.returns-then-not-branch
returns-then-not-branch c = not_distinct c.args.facts.now (plan_tree c.args.plan.now)
    (c.sets_numbers.ensures.0 c.if-not-sets_numbers.false)
    (ap (λ (l : List ℕ). are_distinct (variables l)) (sym c.in_ok-vars.ensures ∙ sym c.as_slice-2.ensures)
    ∙ sym c.in_ok-no_duplicates.ensures ∙ c.if-not-branch.true)

pub returns : goal.returns
returns c =
    let p = plan_tree c.args.plan.now in
    IfOk-weaker c.result_finds.result _ _
    (λ r h. whole c.args.facts.now p r
    (subst (λ (l : List CollFact). AllByRecursion CollectionFits l) c.as_slice.ensures
    (c.collections_fit.ensures.0 c.if-not-collections_fit.false))
    (c.has_result.ensures.0 c.if-not-has_result.false)
    (c.sets_numbers.ensures.0 c.if-not-sets_numbers.false)
    (ap (λ (l : List ℕ). are_distinct (variables l)) (sym c.in_ok-vars.ensures ∙ sym c.as_slice-2.ensures)
    ∙ sym c.in_ok-no_duplicates.ensures ∙ c.if-not-branch.false)
    (subst (λ (l : List ℕ). IsTrue r ↔ FindsAll (variables l) p) c.new.ensures.empty h))
    c.result_finds.ensures.found
