use Rattle.std.proofs.Common.{◌≡◌, ◌++◌, map, length}
use Rattle.aql_func.specs.Like.{pieces}
use Rattle.aql_func.specs.inner.Pieces.{piece_of}
use Rattle.aql_func.proofs.like.pieces.Given as goal

abbrev pub invariant-loop-c : goal.invariant-loop-c
invariant-loop-c l = map piece_of l.out.items ++ pieces l.rest ≡ pieces l.pattern

abbrev pub decreases-loop-c : goal.decreases-loop-c
decreases-loop-c l = length l.rest
