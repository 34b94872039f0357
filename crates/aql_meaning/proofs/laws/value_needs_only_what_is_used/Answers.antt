use Rattle.aql_meaning.specs.laws.Agrees.{value_same, values_carried}
use Rattle.aql_meaning.proofs.laws.value_needs_only_what_is_used.Goals as goal

pub returns : goal.returns
returns c = λ e cur r s h. (value_same e cur r s h, values_carried e cur r s h)
