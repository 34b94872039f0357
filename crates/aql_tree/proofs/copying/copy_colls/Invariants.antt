use Rattle.std.proofs.Common.{◌≡◌, take}
use Rattle.aql_tree.proofs.copying.copy_colls.Given as goal

abbrev pub invariant-loop-coll : goal.invariant-loop-coll
invariant-loop-coll l = l.all ≡ take l.coll-index l.colls
