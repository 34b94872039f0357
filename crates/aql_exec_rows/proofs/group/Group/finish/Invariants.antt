use Rattle.std.proofs.Common.{◌≡◌, List, length, drop}
use Rattle.aql_value.specs.View.{datums_in}
use Rattle.aql_meaning.specs.Groups.{GroupedRow}
use Rattle.aql_aggregate.specs.declared.staged.StagedKind.{StagedKind}
use Rattle.aql_exec_rows.specs.GroupStates.{AllAccumulate}
use Rattle.aql_exec_rows.proofs.Keeping.{Values}
use Rattle.aql_exec_rows.proofs.group.Group.finish.Given as goal

abbrev pub invariant-loop-accumulator : goal.invariant-loop-accumulator
invariant-loop-accumulator l = record {
  left : drop (length (datums_in l.aggregates.items)) l.fn.self.accumulators.items
      ≡ l.accumulator-iterator.rest.items;
  values : (kinds : List StagedKind) (members : List GroupedRow)
      → AllAccumulate kinds l.fn.self.accumulators.items members
      → length l.fn.self.accumulators.items ≡ length kinds
      → Values (datums_in l.aggregates.items) kinds members;
}
