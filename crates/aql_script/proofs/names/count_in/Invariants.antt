use Rattle.std.proofs.Common.{◌≡◌, ◌≤◌, drop, min}
use Rattle.aql_script.specs.Names.{decimal}
use Rattle.aql_script.proofs.names.count_in.Given as goal

-- the rest, read after the count, gives the whole number
abbrev pub invariant-loop-b : goal.invariant-loop-b
invariant-loop-b l =
    (l.count ≤ 33) × (min (decimal l.count (drop l.b-index l.digits)) 33 ≡ min (decimal 0 l.digits) 33)
