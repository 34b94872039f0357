use Rattle.aql_tree.specs.View.{tree}
use Rattle.aql_rules_calc.proofs.Chains.{no_left}
use Rattle.aql_rules_calc.proofs.replace_or_with_in.ReplaceOrWithInExprRule.at.Goals as goal

pub returns-in-None : goal.returns-in-None
returns-in-None c = no_left (tree c.args.expr.now) c.in-None.ensures
