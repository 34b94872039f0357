use Rattle.std.proofs.Common.{true, take}
use Rattle.aql_tree.specs.declared.syntax.Ident.TheVariants.{Num}
use Rattle.aql_plan.specs.Used.{uses_tree}
use Rattle.aql_rules_calc.specs.Projections.{AreAdded}
use Rattle.aql_rules_calc.proofs.reduce_extraction_to_projection.add_uses.Given as goal

abbrev pub invariant-loop-used : goal.invariant-loop-used
invariant-loop-used l =
    AreAdded true l.initial.names (Num l.var) (uses_tree (take l.used-index l.uses)) l.names
