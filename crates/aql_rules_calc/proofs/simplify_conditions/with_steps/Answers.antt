use Rattle.std.proofs.Common.{rules, ◌<◌, ◌∙◌, map, length, ap, arith}
use Rattle.std.proofs.lemmas.List.{length-map}
use Rattle.std.proofs.lemmas.Result.{IfOk-weaker}
use Rattle.aql_tree.specs.Tree.{access}
use Rattle.aql_tree.specs.View.{tree, steps, step_part}
use Rattle.aql_rules_calc.proofs.Taken.{some_steps}
use Rattle.aql_rules_calc.proofs.simplify_conditions.with_steps.Goals as goal

pub returns : goal.returns
returns c =
    let some : 0 < length c.args.rest.now = search (rules, c.is_empty.ensures, c.if-is_empty.false) in
    let more : 0 < length (map step_part c.args.rest.now)
    = omega (arith, some, length-map c.args.rest.now step_part) in
    IfOk-weaker c.access.result _ _
    (λ e h. h ∙ ap (λ ss. access (tree c.args.of) (steps ss)) c.in_ok-steps.ensures
    ∙ some_steps (tree c.args.of) (map step_part c.args.rest.now) more) c.access.ensures
