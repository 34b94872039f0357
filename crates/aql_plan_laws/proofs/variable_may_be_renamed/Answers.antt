use Rattle.aql_plan_laws.specs.laws.RenamedAbove.{renamed_below, renamed_answers}
use Rattle.aql_plan_laws.proofs.variable_may_be_renamed.Goals as goal

pub returns-clause-node : goal.returns-clause-node
returns-clause-node c = λ x y free n outside sets us gone facts q p h.
    renamed_below x y n outside sets free us gone facts q p h

pub returns-clause-result : goal.returns-clause-result
returns-clause-result c = renamed_answers
