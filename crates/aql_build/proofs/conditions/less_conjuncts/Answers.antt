use Rattle.std.proofs.Common.{◌≡◌, suc, length, arith}
use Rattle.std.proofs.lemmas.Grind.{common_steps}
use Rattle.aql_tree.specs.declared.syntax.Clause.{the_lemmas}
use Rattle.aql_tree.specs.View.{tree}
use Rattle.aql_plan.specs.FirstPlan.{conjuncts}
use Rattle.aql_build.proofs.Counted.{conjuncts_counted}
use Rattle.aql_build.proofs.conditions.less_conjuncts.Goals as goal

pub returns-in-Chain : goal.returns-in-Chain
returns-in-Chain c =
    let counted : length (conjuncts (tree c.args.cond.now)) ≡ suc (length c.in-Chain.rest) =
    grind (arith, common_steps, the_lemmas, conjuncts_counted) in
    omega (arith, counted, c.saturating_sub.ensures, c.saturating_sub-in-Chain.ensures, c.len.ensures)
