-- What a rule gives refines and is well formed, by its laws, and so is the whole plan.
use Rattle.aql_plan.specs.View.{plan_tree}
use Rattle.aql_rewrite.specs.View.{above_uses}
use Rattle.aql_rewrite.specs.laws.Steps.{IsStep, some_step}
use Rattle.aql_rewrite.specs.laws.Walk.{placed_whole}
use Rattle.aql_rewrite.proofs.pass.first_place.Goals as goal

pub swap_first-requires : goal.swap_first-requires
swap_first-requires g c = placed_whole (g.R.Rule.fragments c.args.rule.now) c.args.facts.now
    (above_uses c.in_ok-above.above.items) (plan_tree c.args.plan) c.in_ok-above.ensures c.requires

pub returns-in-Some-clause-refines : goal.returns-in-Some-clause-refines
returns-in-Some-clause-refines g c =
    let rule = c.args.rule.now in
    let facts = c.args.facts.now in
    (some_step (g.R.Rule.fragments rule) facts (g.R.Rule.rewrites rule facts)
    (g.met.R.Rule.refines rule facts) (g.met.R.Rule.keeps rule facts) (above_uses c.in_ok-above.above.items)
    (plan_tree c.args.plan) (plan_tree c.in-Some.swap.part) c.in-Some.swap.rename c.in_ok-above.ensures
    c.requires (rw c.in-Some.is at c.in_ok-swap.ensures.found)).refines

pub returns-in-Some-clause-whole : goal.returns-in-Some-clause-whole
returns-in-Some-clause-whole g c =
    let rule = c.args.rule.now in
    let facts = c.args.facts.now in
    (some_step (g.R.Rule.fragments rule) facts (g.R.Rule.rewrites rule facts)
    (g.met.R.Rule.refines rule facts) (g.met.R.Rule.keeps rule facts) (above_uses c.in_ok-above.above.items)
    (plan_tree c.args.plan) (plan_tree c.in-Some.swap.part) c.in-Some.swap.rename c.in_ok-above.ensures
    c.requires (rw c.in-Some.is at c.in_ok-swap.ensures.found)).whole

pub returns-in-Some-clause-sets : goal.returns-in-Some-clause-sets
returns-in-Some-clause-sets g c =
    let rule = c.args.rule.now in
    let facts = c.args.facts.now in
    (some_step (g.R.Rule.fragments rule) facts (g.R.Rule.rewrites rule facts)
    (g.met.R.Rule.refines rule facts) (g.met.R.Rule.keeps rule facts) (above_uses c.in_ok-above.above.items)
    (plan_tree c.args.plan) (plan_tree c.in-Some.swap.part) c.in-Some.swap.rename c.in_ok-above.ensures
    c.requires (rw c.in-Some.is at c.in_ok-swap.ensures.found)).sets
