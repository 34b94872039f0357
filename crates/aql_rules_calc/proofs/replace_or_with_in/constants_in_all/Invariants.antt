use Rattle.std.proofs.Common.{map, take}
use Rattle.aql_tree.specs.View.{tree}
use Rattle.aql_rewrite.specs.ExprView.{lent}
use Rattle.aql_rules_calc.specs.ReplaceOrWithIn.{AllCompare}
use Rattle.aql_rules_calc.proofs.replace_or_with_in.constants_in_all.Given as goal

abbrev pub invariant-loop-part : goal.invariant-loop-part
invariant-loop-part l = AllCompare (tree l.left) (map lent (take l.part-index l.all)) (map tree l.out)
