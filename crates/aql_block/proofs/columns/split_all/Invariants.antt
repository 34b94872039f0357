use Rattle.std.proofs.Common.{◌≡◌, take, map}
use Rattle.aql_block.specs.Columns.{first_of, rest_of}
use Rattle.aql_block.proofs.Steps.{Worked}
use Rattle.aql_block.proofs.columns.split_all.Given as goal

abbrev pub invariant-loop-column : goal.invariant-loop-column
invariant-loop-column l =
    Worked (first_of l.at) l.column-index l.column-items l.fn.columns
    × (l.rest.items ≡ map (rest_of l.at) (take l.column-index l.fn.columns))
