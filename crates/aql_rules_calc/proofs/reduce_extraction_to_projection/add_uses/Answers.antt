use Rattle.aql_tree.specs.declared.syntax.Ident.TheVariants.{Num}
use Rattle.aql_plan.specs.Used.{use_tree}
use Rattle.aql_rules_calc.specs.laws.NamesUsed.{stops}
use Rattle.aql_rules_calc.proofs.reduce_extraction_to_projection.add_uses.Goals as goal

pub returns-then-not-branch : goal.returns-then-not-branch
returns-then-not-branch c = stops use_tree c.args.uses.now c.loop-used.used-index c.used-item.result
    c.loop-used-test.true c.used-item.is c.args.names.now c.loop-used.names c.add_use.new.names
    (Num c.args.var) c.in_ok-add_use.field-0 c.loop-used.invariant c.in_ok-add_use.ensures
    c.if-not-branch.true
