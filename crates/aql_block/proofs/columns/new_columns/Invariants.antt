use Rattle.std.proofs.Common.{◌≡◌, [], replicate}
use Rattle.aql_block.proofs.columns.new_columns.Given as goal

abbrev pub invariant-loop-made : goal.invariant-loop-made
invariant-loop-made l = l.columns.items ≡ replicate l._made (record { room = l.room; held = [] })
