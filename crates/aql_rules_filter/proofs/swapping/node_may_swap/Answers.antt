use Rattle.std.proofs.Common.{rules}
use Rattle.aql_rules_filter.proofs.swapping.node_may_swap.Goals as goal

pub returns-in-Calculation : goal.returns-in-Calculation
returns-in-Calculation c = search rules
