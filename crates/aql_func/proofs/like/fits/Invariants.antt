use Rattle.std.proofs.Common.{◌≡◌, ◌≤◌, length, map, drop}
use Rattle.aql_func.specs.inner.Pieces.{piece_of, row_of}
use Rattle.aql_func.proofs.like.fits.Given as goal

abbrev pub invariant-loop-at : goal.invariant-loop-at
invariant-loop-at l = (l.at ≤ length l.pieces)
    × (l.row.items ≡ row_of (map piece_of (drop l.at l.pieces)) l.text)

abbrev pub decreases-loop-at : goal.decreases-loop-at
decreases-loop-at l = l.at
