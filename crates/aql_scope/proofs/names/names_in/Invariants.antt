use Rattle.std.proofs.Common.{◌≡◌, ◌++◌, drop}
use Rattle.aql_meaning.specs.Groups.{names_of}
use Rattle.aql_scope.specs.Numbering.{idents}
use Rattle.aql_scope.proofs.names.names_in.Given as goal

abbrev pub invariant-loop-entry : goal.invariant-loop-entry
invariant-loop-entry l =
    names_of (idents l.entries) ≡ l.all ++ names_of (idents (drop l.entry-index l.entries))
