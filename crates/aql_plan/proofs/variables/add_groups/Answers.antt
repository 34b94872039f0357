use Rattle.std.proofs.Common.{ℕ, List, map, refl}
use Rattle.aql_tree.specs.View.{let_part}
use Rattle.aql_tree.specs.declared.syntax.Let.{Let}
use Rattle.aql_plan.specs.Variables.{number_of, numbers}
use Rattle.aql_plan.proofs.Appended.{one_passed, all_passed}
use Rattle.aql_plan.proofs.variables.add_groups.Goals as goal

abbrev rest : List Let → List ℕ
rest = λ ls. numbers (map (λ l. l.0) (map let_part ls))

pub loop-group-preserved : goal.loop-group-preserved
loop-group-preserved c =
    let item = c.group-item.result in
    let before = c.loop-group.to in
    one_passed rest c.args.groups.now c.loop-group.group-index item before _ (number_of (let_part item).0) _
    c.loop-group-test.true c.group-item.is refl
    c.in_ok-add_group.ensures c.loop-group.invariant

pub returns : goal.returns
returns c =
    all_passed rest c.args.groups.now c.loop-group.group-index _ _ c.loop-group-test.false refl
    c.loop-group.invariant
