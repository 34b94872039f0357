-- What holds of each application holds of the pass.
use Rattle.std.proofs.Common.{[], false, refl}
use Rattle.aql_plan.specs.Needs.{result_uses}
use Rattle.aql_plan.specs.View.{plan_tree}
use Rattle.aql_rewrite.specs.laws.Walk.{placed_whole}
use Rattle.aql_passes.specs.laws.Removing.{removed_pass, removed_sound}
use Rattle.aql_passes.specs.laws.StaysPlaced.{placed_unseen}
use Rattle.aql_passes.proofs.removing_pass.run_removing_pass.Goals as goal

pub settle-requires : goal.settle-requires
settle-requires g c =
    let p = plan_tree c.args.plan in
    let facts = c.args.facts.now in record {
      placed = placed_unseen facts result_uses [] p refl
          (placed_whole false facts result_uses p refl c.requires);
      none = c.new-renames.ensures.items;
    }

pub returns-clause-passed : goal.returns-clause-passed
returns-clause-passed g c =
    let rule = c.args.rule.now in
    let facts = c.args.facts.now in
    removed_pass (g.R.Rule.rewrites rule facts) (g.met.R.RemovingRule.blind rule facts)
    (g.met.R.RemovingRule.removes rule facts) (plan_tree c.args.plan) (plan_tree c.in_ok-plan.plan)
    c.settle.new.renames.items false c.settle.new.changed refl c.in_ok-plan.ensures

pub returns-clause-refines : goal.returns-clause-refines
returns-clause-refines g c =
    let rule = c.args.rule.now in
    let facts = c.args.facts.now in
    (removed_sound (g.R.Rule.rewrites rule facts) (g.met.R.RemovingRule.blind rule facts)
    (g.met.R.RemovingRule.removes rule facts) facts (g.R.Rule.fragments rule) (g.met.R.RemovingRule.lone rule)
    (g.met.R.Rule.refines rule facts) (g.met.R.Rule.keeps rule facts) (plan_tree c.args.plan)
    (plan_tree c.in_ok-plan.plan) c.settle.new.renames.items false c.settle.new.changed refl c.requires
    c.in_ok-plan.ensures).refines

pub returns-clause-whole : goal.returns-clause-whole
returns-clause-whole g c =
    let rule = c.args.rule.now in
    let facts = c.args.facts.now in
    (removed_sound (g.R.Rule.rewrites rule facts) (g.met.R.RemovingRule.blind rule facts)
    (g.met.R.RemovingRule.removes rule facts) facts (g.R.Rule.fragments rule) (g.met.R.RemovingRule.lone rule)
    (g.met.R.Rule.refines rule facts) (g.met.R.Rule.keeps rule facts) (plan_tree c.args.plan)
    (plan_tree c.in_ok-plan.plan) c.settle.new.renames.items false c.settle.new.changed refl c.requires
    c.in_ok-plan.ensures).whole

pub returns-clause-sets : goal.returns-clause-sets
returns-clause-sets g c =
    let rule = c.args.rule.now in
    let facts = c.args.facts.now in
    (removed_sound (g.R.Rule.rewrites rule facts) (g.met.R.RemovingRule.blind rule facts)
    (g.met.R.RemovingRule.removes rule facts) facts (g.R.Rule.fragments rule) (g.met.R.RemovingRule.lone rule)
    (g.met.R.Rule.refines rule facts) (g.met.R.Rule.keeps rule facts) (plan_tree c.args.plan)
    (plan_tree c.in_ok-plan.plan) c.settle.new.renames.items false c.settle.new.changed refl c.requires
    c.in_ok-plan.ensures).sets
