use Rattle.std.proofs.Common.{◌≡◌, ◌++◌, drop}
use Rattle.aql_plan.specs.Used.{uses_tree}
use Rattle.aql_rewrite.proofs.above.add_copies.Given as goal

abbrev pub invariant-loop-used : goal.invariant-loop-used
invariant-loop-used l =
    uses_tree l.to ++ uses_tree (drop l.used-index l.uses) ≡ uses_tree l.initial.to ++ uses_tree l.uses
