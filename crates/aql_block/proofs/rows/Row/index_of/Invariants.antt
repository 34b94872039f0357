use Rattle.std.proofs.Common.{◌≡◌, drop}
use Rattle.aql_block.proofs.Sought.{value_in, FindsEntry}
use Rattle.aql_block.proofs.rows.Row.index_of.Given as goal

abbrev pub invariant-loop-at : goal.invariant-loop-at
invariant-loop-at l =
    (value_in l.var (drop l.at l.entry-items) ≡ value_in l.var l.entry-items)
    × FindsEntry l.var l.entry-items l.at
