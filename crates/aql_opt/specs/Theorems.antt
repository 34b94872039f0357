-- The law of the driver that is the contract of a public function.
use Rattle.std.specs.Prelude.{◌≡◌, List, []}
use Rattle.aql_plan.specs.declared.facts.Facts.{Facts}
use Rattle.aql_plan.specs.declared.rule_sets.Rules.{Rules}
use Rattle.aql_plan.specs.declared.rules.RuleName.{RuleName}
use Rattle.aql_plan.specs.Plan.{Plan}
use Rattle.aql_opt.specs.Chosen.{AfterRules, cluster_rules}

-- without servers the rules of a cluster leave a plan as it is, and none of them is told as one that changed it
abbrev pub NoneWithoutServers : Type 0
NoneWithoutServers = (facts : Facts) (rules : Rules) (p q : Plan) (applied : List RuleName)
    → facts.servers ≡ 0 → AfterRules facts rules p cluster_rules q applied → (q ≡ p) × (applied ≡ [])
