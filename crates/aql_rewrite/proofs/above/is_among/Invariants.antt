use Rattle.std.proofs.Common.{◌≡◌, drop}
use Rattle.aql_tree.specs.declared.syntax.Ident.TheVariants.{Num}
use Rattle.aql_plan.specs.Used.{uses_tree}
use Rattle.aql_meaning.specs.Uses.{is_used}
use Rattle.aql_rewrite.proofs.above.is_among.Given as goal

abbrev pub invariant-loop-used : goal.invariant-loop-used
invariant-loop-used l =
    is_used (Num l.var) (uses_tree l.uses) ≡ is_used (Num l.var) (uses_tree (drop l.used-index l.uses))
