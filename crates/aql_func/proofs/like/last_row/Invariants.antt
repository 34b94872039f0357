use Rattle.std.proofs.Common.{◌≡◌, ◌++◌, [], drop}
use Rattle.aql_func.specs.inner.Pieces.{row_of}
use Rattle.aql_func.proofs.like.last_row.Given as goal

abbrev pub invariant-loop-c : goal.invariant-loop-c
invariant-loop-c l = l.row.items ++ row_of [] (drop l._c-index l.text) ≡ row_of [] l.text
