use Rattle.std.proofs.Common.{◌≡◌, ◌++◌, length, take, drop}
use Rattle.aql_func.specs.inner.Pieces.{piece_of, shift}
use Rattle.aql_func.proofs.like.put_one.Given as goal

abbrev pub invariant-loop-at : goal.invariant-loop-at
invariant-loop-at l = record {
  len : length l.row.items ≡ length l.initial.row.items;
  shifted : take l.at l.row.items ++ shift (piece_of l.piece) (drop l.at l.text) (drop l.at l.row.items)
      ≡ shift (piece_of l.piece) l.text l.initial.row.items;
}
