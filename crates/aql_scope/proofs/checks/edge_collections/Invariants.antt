use Rattle.std.proofs.Common.{◌≡◌, drop}
use Rattle.aql_scope.specs.Faults.{edge_collections}
use Rattle.aql_scope.proofs.checks.edge_collections.Given as goal

abbrev pub invariant-loop-name : goal.invariant-loop-name
invariant-loop-name l =
    edge_collections l.at.catalog.now l.names ≡ edge_collections l.at.catalog.now (drop l.name-index l.names)
