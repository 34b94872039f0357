-- The candidates of the rule, or the plan alone.
use Rattle.std.proofs.Common.{◌∙◌, [], ◌∷◌, ◌++◌, map, ap}
use Rattle.std.proofs.lemmas.Result.{IfOk-weaker}
use Rattle.aql_plan.specs.View.{plan_tree}
use Rattle.aql_opt.specs.Chosen.{interchanged}
use Rattle.aql_opt.specs.laws.Tried.{alone_by}
use Rattle.aql_opt.proofs.driver.candidates_by.Goals as goal

pub returns-then-has-clause-candidates : goal.returns-then-has-clause-candidates
returns-then-has-clause-candidates c =
    IfOk-weaker c.candidates.result _ _ (λ all h. interchanged (c.has.ensures.0 c.if-has.true) h)
    c.candidates.ensures.candidates

pub returns-clause-candidates : goal.returns-clause-candidates
returns-clause-candidates c =
    alone_by c.args.rules.now (plan_tree c.args.plan) (map plan_tree c.push.new.self)
    (λ has. (let found = c.has.ensures.1 has in let lacking = c.if-has.false in absurd (cc)))
    (ap (map plan_tree) (c.in_ok-push.ensures.ok ∙ ap (λ xs. xs ++ c.args.plan ∷ []) c.new-all.ensures))
