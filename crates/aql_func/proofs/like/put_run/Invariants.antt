use Rattle.std.proofs.Common.{◌≡◌, ◌<◌, length, take, drop}
use Rattle.aql_func.specs.inner.Pieces.{ors}
use Rattle.aql_func.proofs.like.put_run.Given as goal

abbrev pub invariant-loop-at : goal.invariant-loop-at
invariant-loop-at l = record {
  inside : l.at < length l.row.items;
  len : length l.row.items ≡ length l.initial.row.items;
  front : take l.at l.row.items ≡ take l.at l.initial.row.items;
  back : drop l.at l.row.items ≡ ors (drop l.at l.initial.row.items);
}

abbrev pub decreases-loop-at : goal.decreases-loop-at
decreases-loop-at l = l.at
