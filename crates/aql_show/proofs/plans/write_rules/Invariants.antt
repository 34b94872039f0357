use Rattle.std.proofs.Common.{◌≡◌, ◌++◌, drop, map}
use Rattle.std.specs.Prelude.{codes}
use Rattle.aql_plan.specs.RuleNames.{rule_text}
use Rattle.aql_show.specs.Lists.{listed}
use Rattle.aql_show.proofs.plans.write_rules.Given as goal

abbrev pub invariant-loop-rule : goal.invariant-loop-rule
invariant-loop-rule l =
    l.out.items ++ listed l.lead (codes ", ") (map rule_text (drop l.rule-index l.applied))
    ≡ l.fn.out.items ++ listed (codes "rules ") (codes ", ") (map rule_text l.applied)
