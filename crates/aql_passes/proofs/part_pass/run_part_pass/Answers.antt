-- What holds of each application holds of the pass.
use Rattle.std.proofs.Common.{false, refl, subst}
use Rattle.aql_meaning.specs.Uses.{Uses}
use Rattle.aql_plan.specs.View.{plan_tree}
use Rattle.aql_rewrite.specs.View.{above_uses}
use Rattle.aql_rewrite.specs.laws.Walk.{placed_whole}
use Rattle.aql_rewrite.specs.laws.PassSteps.{is_pass, pass_sound}
use Rattle.aql_passes.specs.inner.Finished.{Finishes}
use Rattle.aql_passes.proofs.part_pass.run_part_pass.Goals as goal

pub settle-requires : goal.settle-requires
settle-requires g c = placed_whole false c.args.facts.now (above_uses c.in_ok-above.above.items)
    (plan_tree c.args.plan) c.in_ok-above.ensures c.requires

pub returns-clause-passed : goal.returns-clause-passed
returns-clause-passed g c =
    let rewrites = g.R.Rule.rewrites c.args.rule.now c.args.facts.now in
    let p = plan_tree c.args.plan in
    let q = plan_tree c.in_ok-plan.plan in
    let ends = subst (λ (us : Uses). Finishes rewrites us p q false c.settle.new.changed) c.in_ok-above.ensures
    c.in_ok-plan.ensures.finishes in
    is_pass rewrites p q false c.settle.new.changed refl ends.reached ends.ended

pub returns-clause-refines : goal.returns-clause-refines
returns-clause-refines g c =
    let rule = c.args.rule.now in
    let facts = c.args.facts.now in
    let rewrites = g.R.Rule.rewrites rule facts in
    let p = plan_tree c.args.plan in
    let q = plan_tree c.in_ok-plan.plan in
    let ends = subst (λ (us : Uses). Finishes rewrites us p q false c.settle.new.changed) c.in_ok-above.ensures
    c.in_ok-plan.ensures.finishes in
    (pass_sound rewrites facts (g.R.Rule.fragments rule) (g.met.R.PartRule.lone rule)
    (g.met.R.Rule.refines rule facts) (g.met.R.Rule.keeps rule facts) p q false c.settle.new.changed c.requires
    ends.reached).refines

pub returns-clause-whole : goal.returns-clause-whole
returns-clause-whole g c =
    let rule = c.args.rule.now in
    let facts = c.args.facts.now in
    let rewrites = g.R.Rule.rewrites rule facts in
    let p = plan_tree c.args.plan in
    let q = plan_tree c.in_ok-plan.plan in
    let ends = subst (λ (us : Uses). Finishes rewrites us p q false c.settle.new.changed) c.in_ok-above.ensures
    c.in_ok-plan.ensures.finishes in
    (pass_sound rewrites facts (g.R.Rule.fragments rule) (g.met.R.PartRule.lone rule)
    (g.met.R.Rule.refines rule facts) (g.met.R.Rule.keeps rule facts) p q false c.settle.new.changed c.requires
    ends.reached).whole

pub returns-clause-sets : goal.returns-clause-sets
returns-clause-sets g c =
    let rule = c.args.rule.now in
    let facts = c.args.facts.now in
    let rewrites = g.R.Rule.rewrites rule facts in
    let p = plan_tree c.args.plan in
    let q = plan_tree c.in_ok-plan.plan in
    let ends = subst (λ (us : Uses). Finishes rewrites us p q false c.settle.new.changed) c.in_ok-above.ensures
    c.in_ok-plan.ensures.finishes in
    (pass_sound rewrites facts (g.R.Rule.fragments rule) (g.met.R.PartRule.lone rule)
    (g.met.R.Rule.refines rule facts) (g.met.R.Rule.keeps rule facts) p q false c.settle.new.changed c.requires
    ends.reached).sets
