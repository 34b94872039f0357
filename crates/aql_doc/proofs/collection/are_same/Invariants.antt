use Rattle.std.proofs.Common.{◌≡◌, drop}
use Rattle.aql_doc.specs.Declarations.{are_same}
use Rattle.aql_doc.proofs.collection.are_same.Given as goal

-- the rests are the same exactly where the whole lists are
abbrev pub invariant-loop-i : goal.invariant-loop-i
invariant-loop-i l = are_same (drop l.i l.names) (drop l.i l.others) ≡ are_same l.names l.others
