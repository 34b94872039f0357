use Rattle.std.proofs.Common.{rules}
use Rattle.aql_rules_filter.proofs.readers.narrow_node.Goals as goal

pub returns-in-Filter : goal.returns-in-Filter
returns-in-Filter c = search rules
