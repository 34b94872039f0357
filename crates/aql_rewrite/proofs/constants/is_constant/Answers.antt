-- What follows for a constant.
use Rattle.std.proofs.Common.{◌≡◌, []}
use Rattle.std.specs.Prelude.{◌↔◌, IsTrue}
use Rattle.aql_meaning.specs.Plain.{IsPlain}
use Rattle.aql_tree.specs.View.{tree}
use Rattle.aql_rewrite.specs.Constant.{IsConstant, HasOneValue}
use Rattle.aql_rewrite.specs.Keeps.{variables}
use Rattle.aql_rewrite.specs.laws.Constants.{constant_plain, constant_variables, constant_value}
use Rattle.aql_rewrite.proofs.Steps.{if_ok}
use Rattle.aql_rewrite.proofs.constants.is_constant.Goals as goal

pub returns-clause-plain : goal.returns-clause-plain
returns-clause-plain c = if_ok c.is_closed.result
    (λ answer. IsTrue answer ↔ IsConstant (tree c.args.expr.now))
    (λ answer. IsTrue answer → IsPlain (tree c.args.expr.now))
    (λ answer h a. constant_plain (h.0 a)) c.is_closed.ensures

pub returns-clause-variables : goal.returns-clause-variables
returns-clause-variables c = if_ok c.is_closed.result
    (λ answer. IsTrue answer ↔ IsConstant (tree c.args.expr.now))
    (λ answer. IsTrue answer → variables (tree c.args.expr.now) ≡ [])
    (λ answer h a. constant_variables (h.0 a)) c.is_closed.ensures

pub returns-clause-value : goal.returns-clause-value
returns-clause-value c = if_ok c.is_closed.result
    (λ answer. IsTrue answer ↔ IsConstant (tree c.args.expr.now))
    (λ answer. IsTrue answer → HasOneValue (tree c.args.expr.now))
    (λ answer h a. constant_value (h.0 a)) c.is_closed.ensures
