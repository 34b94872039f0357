use Rattle.std.proofs.Common.{◌≡◌, ℕ, [], length}
use Rattle.aql_exec_cluster.specs.Queues.{left_at}
use Rattle.aql_exec_cluster.proofs.queues.Queues.new.Given as goal

abbrev pub invariant-loop-input : goal.invariant-loop-input
invariant-loop-input l = record {
  count : length l.list.items ≡ l._input;
  none_left : (j : ℕ) → left_at l.list.items j ≡ [];
}
