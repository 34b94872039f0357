use Rattle.std.proofs.Common.{◌≡◌, [], length, take}
use Rattle.aql_exec_rows.specs.GroupStates.{AllAccumulate}
use Rattle.aql_exec_rows.proofs.group.Group.new.Given as goal

abbrev pub invariant-loop-kind : goal.invariant-loop-kind
invariant-loop-kind l = record {
  count : length l.accumulators.items ≡ l.kind-index;
  kept : AllAccumulate (take l.kind-index l.kinds) l.accumulators.items [];
}
