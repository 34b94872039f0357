use Rattle.std.proofs.Common.{◌≡◌}
use Rattle.aql_tree.specs.View.{tree}
use Rattle.aql_meaning.specs.Plain.{IsPlain}
use Rattle.aql_rewrite.specs.Constant.{IsConstant}
use Rattle.aql_rules_calc.proofs.Chains.{compared_given}
use Rattle.aql_rules_calc.proofs.replace_or_with_in.constants_in.Goals as goal

pub returns-else-not-branch : goal.returns-else-not-branch
returns-else-not-branch c =
    let same : IsPlain (tree c.args.left.now) × (tree c.args.left.now ≡ tree c.in-Some.found.left.now)
    = c.same_expr.ensures.0 c.if-not-same_expr.false in
    let constant : IsConstant (tree c.in-Some.found.right.now)
    = c.in_ok-is_constant-in-Some.ensures.answer.0 c.if-not-branch.false in
    compared_given (tree c.args.left.now) (tree c.args.part.now) (tree c.in-Some.found.left.now)
    (tree c.in-Some.found.right.now) c.in-Some.found.op c.in-Some.ensures same.1 same.0 constant
    c.right_sides.result c.right_sides.ensures
