use Rattle.std.proofs.Common.{true, take, map}
use Rattle.aql_tree.specs.declared.syntax.Ident.{Ident}
use Rattle.aql_meaning.specs.Uses.{Attribute}
use Rattle.aql_rules_calc.specs.Projections.{AreAdded}
use Rattle.aql_rules_calc.proofs.reduce_extraction_to_projection.add_attributes.Given as goal

abbrev pub invariant-loop-name : goal.invariant-loop-name
invariant-loop-name l = (x : Ident)
    → AreAdded true l.initial.names x (map (λ name. Attribute x name) (take l.name-index l.order)) l.names
