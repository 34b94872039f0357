use Rattle.std.proofs.Common.{rules}
use Rattle.aql_func.proofs.ranges.range.Goals as goal

pub returns-then-low-high : goal.returns-then-low-high
returns-then-low-high c = search rules

pub returns-else-low-high : goal.returns-else-low-high
returns-else-low-high c = search rules
