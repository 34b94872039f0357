use Rattle.std.proofs.Common.{◌≡◌, ◌≤◌, length, drop}
use Rattle.aql_value.specs.Compare.{compare}
use Rattle.aql_value.specs.Contents.{list}
use Rattle.aql_value.specs.View.{datums_in}
use Rattle.aql_index.proofs.entries.compare_lists.Given as goal

-- the values so far are equal, so the others decide
abbrev pub invariant-loop-i : goal.invariant-loop-i
invariant-loop-i l = record {
  rest : compare (list (datums_in (drop l.i l.left))) (list (datums_in (drop l.i l.right)))
      ≡ compare (list (datums_in l.left)) (list (datums_in l.right));
  within : l.i ≤ length l.right;
}
