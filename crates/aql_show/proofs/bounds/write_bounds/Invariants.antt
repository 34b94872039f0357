use Rattle.std.proofs.Common.{◌≡◌, ◌++◌, [], drop}
use Rattle.std.specs.Prelude.{codes}
use Rattle.aql_tree.specs.declared.syntax.Ident.TheVariants.{Num}
use Rattle.aql_meaning.specs.View.{last_tree}
use Rattle.aql_plan.specs.View.{expr_trees}
use Rattle.aql_show.specs.Lists.{listed}
use Rattle.aql_show.specs.Names.{variable_text}
use Rattle.aql_show.specs.Nodes.{bound_texts}
use Rattle.aql_show.proofs.bounds.write_bounds.Given as goal

abbrev pub invariant-loop-i : goal.invariant-loop-i
invariant-loop-i l =
    l.out.items ++ listed l.lead (codes " && ")
    (bound_texts l.known.names.now (variable_text l.known.names.now (Num l.var)) (drop l.i l.attributes)
    (expr_trees (drop l.i l.equal)) (last_tree l.last))
    ≡ l.fn.out.items ++ listed [] (codes " && ")
    (bound_texts l.known.names.now (variable_text l.known.names.now (Num l.var)) l.attributes
    (expr_trees l.equal) (last_tree l.last))
