use Rattle.std.proofs.Common.{◌≡◌, ◌++◌, drop}
use Rattle.aql_value.specs.View.{datums_in}
use Rattle.aql_plan.specs.View.{key_trees}
use Rattle.aql_meaning.specs.Plain.{AllPlain}
use Rattle.aql_meaning.specs.AtRows.{keys_of}
use Rattle.aql_block.specs.Rows.{row_of}
use Rattle.aql_exec_rows.proofs.keyed.list_at.Given as goal

-- with the values of the keys that are left the values so far are those of all keys
abbrev pub invariant-loop-key : goal.invariant-loop-key
invariant-loop-key l = record {
  plain : AllPlain (key_trees (drop l.key-index l.keys));
  values : datums_in l.values.items ++ keys_of (key_trees (drop l.key-index l.keys)) (row_of l.row)
      ≡ keys_of (key_trees l.keys) (row_of l.row);
}
