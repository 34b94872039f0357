use Rattle.std.proofs.Common.{◌≡◌, ◌++◌, ◌∷◌, List, map, refl, append_assoc, sym}
use Rattle.aql_tree.specs.Tree.{ExprTree}
use Rattle.aql_tree.specs.View.{step_part, StepPart, name, at, inline, steps, maybe}
use Rattle.aql_tree.specs.declared.syntax.Step.{Step}
use Rattle.aql_rewrite.specs.Children.{step_children, maybe_children}
use Rattle.aql_rewrite.specs.ExprView.{lent, one_step_children}
use Rattle.aql_rewrite.proofs.Passed.{one_passed, all_passed}
use Rattle.aql_rewrite.proofs.looking.add_steps.Goals as goal

abbrev rest : List Step → List ExprTree
rest = λ ss. step_children (steps (map step_part ss))

step_then : (s : StepPart) (ss : List StepPart)
    → step_children (steps (s ∷ ss)) ≡ one_step_children s ++ step_children (steps ss)
step_then (name n) ss = refl
step_then (at e) ss = refl
step_then (inline f g) ss =
    sym (append_assoc (maybe_children (maybe f)) (maybe_children (maybe g)) (step_children (steps ss)))

pub loop-step-preserved : goal.loop-step-preserved
loop-step-preserved c =
    one_passed rest c.args.all.now c.loop-step.step-index c.step-item.result
    (map lent c.loop-step.to.items) _ _ _ c.loop-step-test.true c.step-item.is
    (step_then (step_part c.step-item.result) _) c.in_ok-add_step.ensures c.loop-step.invariant

pub returns : goal.returns
returns c =
    all_passed rest c.args.all.now c.loop-step.step-index _ _ c.loop-step-test.false refl
    c.loop-step.invariant
