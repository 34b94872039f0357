use Rattle.std.proofs.Common.{◌≡◌, ◌++◌, take}
use Rattle.aql_opt.proofs.driver.add_names.Given as goal

abbrev pub invariant-loop-name : goal.invariant-loop-name
invariant-loop-name l = l.to ≡ l.initial.to ++ take l.name-index l.names
