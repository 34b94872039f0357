-- The first collection is looked for among the others.
use Rattle.std.proofs.Common.{◌∙◌, ap, sym, subst, refl, List, true≢false}
use Rattle.std.specs.Prelude.{◌↔◌, IsTrue, not}
use Rattle.aql_value.specs.declared.lists.CollNo.{CollNo}
use Rattle.aql_plan_check.proofs.Once.{Once, none_once, once_over, twice_over}
use Rattle.aql_plan_check.proofs.collections.+are_distinct.Goals as goal

pub returns-in-None : goal.returns-in-None
returns-in-None t c = ((λ e. none_once c.args.all.now c.in-None.ensures.cases), (λ d. refl))

pub returns-then-not-is_among : goal.returns-then-not-is_among
returns-then-not-is_among t c =
    let one = once_over c.in-Some.first.now c.in-Some.others.now
    (sym c.is_among.ensures ∙ c.if-not-is_among.true) in
    subst (λ (cs : List CollNo). IsTrue c.are_distinct.result ↔ Once cs) (sym c.in-Some.ensures.cases.0)
    ((λ e. one.0 (c.are_distinct.ensures.0 e)), (λ d. c.are_distinct.ensures.1 (one.1 d)))

pub returns-else-not-is_among : goal.returns-else-not-is_among
returns-else-not-is_among t c = (
  (λ e. absurd (true≢false (sym e ∙ ap not c.if-not-is_among.false))),
  (λ d. absurd (twice_over c.in-Some.first.now c.in-Some.others.now
      (sym c.is_among.ensures ∙ c.if-not-is_among.false)
      (subst (λ (cs : List CollNo). Once cs) c.in-Some.ensures.cases.0 d))),
)
