use Rattle.std.proofs.Common.{◌∙◌, ◌++◌, ℕ, List, map, refl, ap}
use Rattle.aql_meaning.specs.Uses.{used_variable}
use Rattle.aql_plan.specs.declared.uses.Use.{Use}
use Rattle.aql_plan.specs.Used.{use_tree, uses_tree}
use Rattle.aql_plan.specs.Variables.{number_of, numbers}
use Rattle.aql_plan.proofs.Appended.{one_passed, all_passed}
use Rattle.aql_plan.proofs.variables.add_variables.Goals as goal

abbrev rest : List Use → List ℕ
rest = λ us. numbers (map used_variable (uses_tree us))

pub loop-used-preserved : goal.loop-used-preserved
loop-used-preserved c =
    let item = c.used-item.result in
    let before = c.loop-used.to in
    one_passed rest c.args.uses.now c.loop-used.used-index item before _
    (number_of (used_variable (use_tree item))) _ c.loop-used-test.true c.used-item.is refl
    (c.in_ok-add_ident.ensures ∙ ap (λ x. before ++ number_of x) c.variable.ensures)
    c.loop-used.invariant

pub returns : goal.returns
returns c =
    all_passed rest c.args.uses.now c.loop-used.used-index _ _ c.loop-used-test.false refl
    c.loop-used.invariant
