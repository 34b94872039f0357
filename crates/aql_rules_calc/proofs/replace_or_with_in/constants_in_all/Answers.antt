use Rattle.std.proofs.Common.{map}
use Rattle.aql_tree.specs.View.{tree}
use Rattle.aql_rules_calc.specs.ReplaceOrWithIn.{no_more}
use Rattle.aql_rules_calc.proofs.Chains.{compared_next, not_compared}
use Rattle.aql_rules_calc.proofs.replace_or_with_in.constants_in_all.Goals as goal

pub loop-part-init : goal.loop-part-init
loop-part-init c = rw c.new-out.ensures no_more

pub returns-in-None : goal.returns-in-None
returns-in-None c =
    not_compared (tree c.args.left.now) c.args.all.now c.loop-part.part-index c.part-item.result
    c.loop-part-test.true c.part-item.is (rw c.in-None.is at c.in_ok-right.ensures)

pub loop-part-preserved : goal.loop-part-preserved
loop-part-preserved c =
    compared_next (tree c.args.left.now) c.args.all.now c.loop-part.part-index c.part-item.result
    c.loop-part-test.true c.part-item.is (map tree c.loop-part.out) (map tree c.in-Some.right.now) _
    c.loop-part.invariant (rw c.in-Some.is at c.in_ok-right.ensures) c.in_ok-add_copies-in-Some.ensures
