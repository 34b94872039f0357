-- What holds of each application holds of the pass.
use Rattle.std.proofs.Common.{false, refl}
use Rattle.aql_plan.specs.Needs.{result_uses}
use Rattle.aql_plan.specs.View.{plan_tree}
use Rattle.aql_rewrite.specs.laws.PassSteps.{is_pass, pass_sound}
use Rattle.aql_passes.specs.laws.Settling.{no_place}
use Rattle.aql_passes.proofs.exchange_pass.run_exchange_pass.Goals as goal

pub returns-clause-passed : goal.returns-clause-passed
returns-clause-passed g c =
    let rule = c.args.rule.now in
    let facts = c.args.facts.now in
    let ends = c.in_ok-plan.ensures in
    is_pass (g.R.Rule.rewrites rule facts) (plan_tree c.args.plan) (plan_tree c.in_ok-plan.plan) false
    c.settle.new.changed refl (ends.reached result_uses)
    (no_place (g.R.Rule.rewrites rule facts) (g.R.ExchangeRule.swaps rule)
    (g.met.R.ExchangeRule.exchanged rule facts) (g.met.R.ExchangeRule.alone rule facts) result_uses
    (plan_tree c.in_ok-plan.plan) ends.lone ends.settled)

pub returns-clause-refines : goal.returns-clause-refines
returns-clause-refines g c =
    let rule = c.args.rule.now in
    let facts = c.args.facts.now in
    (pass_sound (g.R.Rule.rewrites rule facts) facts (g.R.Rule.fragments rule)
    (g.met.R.ExchangeRule.lone rule) (g.met.R.Rule.refines rule facts) (g.met.R.Rule.keeps rule facts)
    (plan_tree c.args.plan) (plan_tree c.in_ok-plan.plan) false c.settle.new.changed c.requires
    (c.in_ok-plan.ensures.reached result_uses)).refines

pub returns-clause-whole : goal.returns-clause-whole
returns-clause-whole g c =
    let rule = c.args.rule.now in
    let facts = c.args.facts.now in
    (pass_sound (g.R.Rule.rewrites rule facts) facts (g.R.Rule.fragments rule)
    (g.met.R.ExchangeRule.lone rule) (g.met.R.Rule.refines rule facts) (g.met.R.Rule.keeps rule facts)
    (plan_tree c.args.plan) (plan_tree c.in_ok-plan.plan) false c.settle.new.changed c.requires
    (c.in_ok-plan.ensures.reached result_uses)).whole

pub returns-clause-sets : goal.returns-clause-sets
returns-clause-sets g c =
    let rule = c.args.rule.now in
    let facts = c.args.facts.now in
    (pass_sound (g.R.Rule.rewrites rule facts) facts (g.R.Rule.fragments rule)
    (g.met.R.ExchangeRule.lone rule) (g.met.R.Rule.refines rule facts) (g.met.R.Rule.keeps rule facts)
    (plan_tree c.args.plan) (plan_tree c.in_ok-plan.plan) false c.settle.new.changed c.requires
    (c.in_ok-plan.ensures.reached result_uses)).sets
