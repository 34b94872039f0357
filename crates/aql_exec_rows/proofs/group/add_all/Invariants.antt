use Rattle.std.proofs.Common.{◌≡◌, length}
use Rattle.aql_value.specs.View.{datums_in}
use Rattle.aql_exec_rows.proofs.Keeping.{Taking}
use Rattle.aql_exec_rows.proofs.group.add_all.Given as goal

abbrev pub invariant-loop-at : goal.invariant-loop-at
invariant-loop-at l = record {
  count : length l.accumulators ≡ length l.fn.accumulators;
  kept : Taking l.at (datums_in l.arguments) l.fn.accumulators l.accumulators;
}
