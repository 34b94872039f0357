use Rattle.std.proofs.Common.{◌≡◌, drop}
use Rattle.aql_scope.specs.Faults.{known_collections}
use Rattle.aql_scope.proofs.checks.known_collections.Given as goal

abbrev pub invariant-loop-name : goal.invariant-loop-name
invariant-loop-name l = known_collections l.at.catalog.now l.names
    ≡ known_collections l.at.catalog.now (drop l.name-index l.names)
