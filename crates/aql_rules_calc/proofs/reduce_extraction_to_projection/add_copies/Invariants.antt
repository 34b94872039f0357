use Rattle.std.proofs.Common.{◌≡◌, ◌++◌, take}
use Rattle.aql_rules_calc.proofs.reduce_extraction_to_projection.add_copies.Given as goal

abbrev pub invariant-loop-name : goal.invariant-loop-name
invariant-loop-name l = l.to ≡ l.initial.to ++ take l.name-index l.names
