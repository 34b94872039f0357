use Rattle.std.proofs.Common.{◌∙◌, sym}
use Rattle.aql_tree.specs.View.{query_tree}
use Rattle.aql_scope.proofs.Kept.{answers_stay}
use Rattle.aql_scope.proofs.scoping.scope.Goals as goal

pub returns-in_ok-lift-in-None-clause-answers : goal.returns-in_ok-lift-in-None-clause-answers
returns-in_ok-lift-in-None-clause-answers c =
    answers_stay c.args.catalog.now (query_tree c.args.query) (query_tree c.in_ok-lift-in-None.field-0.query)
    (sym c.in_ok-fault.ensures ∙ c.in-None.is) c.in_ok-lift-in-None.ensures.query
