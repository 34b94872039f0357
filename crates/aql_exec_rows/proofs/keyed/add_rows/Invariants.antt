use Rattle.std.proofs.Common.{◌≡◌, ◌++◌, length, map, drop}
use Rattle.aql_plan.specs.View.{key_trees}
use Rattle.aql_block.specs.Tables.{rows_of}
use Rattle.aql_exec_rows.specs.Keys.{with_keys, keyed_in}
use Rattle.aql_exec_rows.proofs.keyed.add_rows.Given as goal

-- with the rows that are left, those that are held are all
abbrev pub invariant-loop-at : goal.invariant-loop-at
invariant-loop-at l = record {
  count : length (rows_of l.block) ≡ length (rows_of l.initial.block);
  rows : keyed_in l.held.items ++ map (with_keys (key_trees l.keys)) (drop l.at (rows_of l.block))
      ≡ keyed_in l.initial.held.items ++ map (with_keys (key_trees l.keys)) (rows_of l.initial.block);
}
