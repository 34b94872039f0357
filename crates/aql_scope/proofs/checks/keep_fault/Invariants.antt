use Rattle.std.proofs.Common.{◌≡◌, drop}
use Rattle.aql_scope.specs.Numbering.{idents}
use Rattle.aql_scope.specs.Faults.{keep_fault}
use Rattle.aql_scope.proofs.checks.keep_fault.Given as goal

abbrev pub invariant-loop-name : goal.invariant-loop-name
invariant-loop-name l = keep_fault (idents l.at.scope.now.own) l.keep
    ≡ keep_fault (idents l.at.scope.now.own) (drop l.name-index l.keep)
