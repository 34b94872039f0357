use Rattle.std.proofs.Common.{◌≡◌, ◌+◌, length}
use Rattle.std.specs.List.{All}
use Rattle.aql_plan.specs.View.{directions, key_trees}
use Rattle.aql_meaning.specs.AtRows.{row_before}
use Rattle.aql_block.specs.Tables.{rows_of}
use Rattle.aql_exec_cluster.specs.Queues.{IsKeyed, count_left, Merges}
use Rattle.aql_exec_cluster.proofs.queues.Queues.merge.Given as goal

-- the rows in the block were merged, and there is room for the others
abbrev pub invariant-loop-row : goal.invariant-loop-row
invariant-loop-row l = record {
  count : length l.self.list.items ≡ length l.fn.self.list.items;
  keyed : All (IsKeyed (key_trees l.keys)) l.self.list.items;
  merges : Merges (row_before (directions l.keys) (key_trees l.keys)) (length l.inputs.progress.items)
      l.inputs.progress.items
      l.self.list.items (rows_of l.block) l.fn.self.list.items;
  rows : length (rows_of l.block) ≡ l._row;
  room : l.block.room ≡ l.room;
  left : count_left l.self.list.items + length (rows_of l.block) ≡ count_left l.fn.self.list.items;
}
