use Rattle.std.proofs.Common.{◌≡◌, take}
use Rattle.std.specs.Prelude.{reverse}
use Rattle.aql_scope.specs.Numbering.{number_of}
use Rattle.aql_scope.proofs.names.number_in.Given as goal

abbrev pub invariant-loop-entry : goal.invariant-loop-entry
invariant-loop-entry l = l.found ≡ number_of (reverse (take l.entry-index l.entries)) l.ident
