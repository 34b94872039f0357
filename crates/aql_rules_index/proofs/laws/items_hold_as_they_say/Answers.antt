use Rattle.aql_rules_index.specs.laws.Items.{item_is}
use Rattle.aql_rules_index.proofs.laws.items_hold_as_they_say.Goals as goal

pub returns : goal.returns
returns c = item_is
