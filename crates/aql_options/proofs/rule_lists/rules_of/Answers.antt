use Rattle.aql_options.proofs.Lists.{of_names}
use Rattle.aql_options.proofs.rule_lists.rules_of.Goals as goal

pub returns-in_default : goal.returns-in_default
returns-in_default c =
    of_names c.args.list.now c.named.result c.in_default.not-all c.in_default.not-none c.named.ensures
