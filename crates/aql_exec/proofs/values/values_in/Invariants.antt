use Rattle.std.proofs.Common.{◌≡◌, take}
use Rattle.aql_value.specs.View.{datums_in}
use Rattle.aql_tree.specs.View.{tree}
use Rattle.aql_meaning.specs.AtRows.{values_of}
use Rattle.aql_block.specs.Tables.{rows_of}
use Rattle.aql_exec.proofs.values.values_in.Given as goal

-- the values so far are those of the first rows
abbrev pub invariant-loop-at : goal.invariant-loop-at
invariant-loop-at l = datums_in l.values.items ≡ values_of (tree l.e) (take l.at (rows_of l.block))
