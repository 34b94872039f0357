use Rattle.std.proofs.Common.{rules}
use Rattle.aql_index.proofs.sorted_index.SortedIndex.widest.Goals as goal

pub returns : goal.returns
returns c = search rules
