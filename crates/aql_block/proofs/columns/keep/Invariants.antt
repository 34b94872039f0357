use Rattle.std.proofs.Common.{◌≡◌, vec_capacity}
use Rattle.aql_block.proofs.Steps.{Sifted}
use Rattle.aql_block.proofs.columns.keep.Given as goal

abbrev pub invariant-loop-at : goal.invariant-loop-at
invariant-loop-at l =
    Sifted l.fn.values.items l.marks l.at l.kept l.values.items
    × (vec_capacity l.values ≡ vec_capacity l.fn.values)
