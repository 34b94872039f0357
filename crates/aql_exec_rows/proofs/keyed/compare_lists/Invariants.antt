use Rattle.std.proofs.Common.{◌≡◌, drop}
use Rattle.aql_value.specs.View.{datums_in}
use Rattle.aql_plan.specs.View.{directions}
use Rattle.aql_meaning.specs.Clauses.{keys_cmp}
use Rattle.aql_exec_rows.proofs.keyed.compare_lists.Given as goal

-- the keys so far are equal, so the others decide
abbrev pub invariant-loop-at : goal.invariant-loop-at
invariant-loop-at l =
    keys_cmp (directions l.keys) (datums_in l.left) (datums_in l.right)
    ≡ keys_cmp (directions (drop l.at l.keys)) (drop l.at (datums_in l.left)) (drop l.at (datums_in l.right))
