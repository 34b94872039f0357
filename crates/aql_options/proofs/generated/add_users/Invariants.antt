use Rattle.std.proofs.Common.{◌≡◌, ◌++◌, flat_map}
use Rattle.aql_options.specs.Generated.{user, up_to}
use Rattle.aql_options.proofs.generated.add_users.Given as goal

-- the lines so far
abbrev pub invariant-loop-before : goal.invariant-loop-before
invariant-loop-before l = l.script.items ≡ l.initial.script.items ++ flat_map user (up_to l.before)
