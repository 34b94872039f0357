-- What holds of each application holds of the pass.
use Rattle.std.proofs.Common.{false, refl}
use Rattle.aql_plan.specs.Needs.{result_uses}
use Rattle.aql_plan.specs.View.{plan_tree}
use Rattle.aql_passes.specs.AtExprs.{AtExprs}
use Rattle.aql_rewrite.specs.laws.PassSteps.{is_pass, pass_sound}
use Rattle.aql_passes.specs.laws.Rewritten.{at_top_refines, at_top_keeps}
use Rattle.aql_passes.proofs.expr_pass.run_expr_pass.Goals as goal

pub to_end-requires : goal.to_end-requires
to_end-requires g c = c.requires.1

pub returns-clause-passed : goal.returns-clause-passed
returns-clause-passed g c =
    let ends = c.in_ok-to_end.ensures in
    is_pass (AtExprs (g.R.ExprRule.rewrites c.args.rule.now)) (plan_tree c.args.plan)
    (plan_tree c.to_end.new.plan) false c.to_end.new.changed refl (ends.reached result_uses)
    (ends.ended result_uses)

pub returns-clause-refines : goal.returns-clause-refines
returns-clause-refines g c =
    let rewrites = g.R.ExprRule.rewrites c.args.rule.now in
    let keeps = g.met.R.ExprRule.keeps c.args.rule.now in
    let facts = c.args.facts.now in
    (pass_sound (AtExprs rewrites) facts false refl (at_top_refines rewrites keeps facts)
    (at_top_keeps rewrites keeps facts) (plan_tree c.args.plan) (plan_tree c.to_end.new.plan) false
    c.to_end.new.changed c.requires (c.in_ok-to_end.ensures.reached result_uses)).refines

pub returns-clause-whole : goal.returns-clause-whole
returns-clause-whole g c =
    let rewrites = g.R.ExprRule.rewrites c.args.rule.now in
    let keeps = g.met.R.ExprRule.keeps c.args.rule.now in
    let facts = c.args.facts.now in
    (pass_sound (AtExprs rewrites) facts false refl (at_top_refines rewrites keeps facts)
    (at_top_keeps rewrites keeps facts) (plan_tree c.args.plan) (plan_tree c.to_end.new.plan) false
    c.to_end.new.changed c.requires (c.in_ok-to_end.ensures.reached result_uses)).whole

pub returns-clause-sets : goal.returns-clause-sets
returns-clause-sets g c =
    let rewrites = g.R.ExprRule.rewrites c.args.rule.now in
    let keeps = g.met.R.ExprRule.keeps c.args.rule.now in
    let facts = c.args.facts.now in
    (pass_sound (AtExprs rewrites) facts false refl (at_top_refines rewrites keeps facts)
    (at_top_keeps rewrites keeps facts) (plan_tree c.args.plan) (plan_tree c.to_end.new.plan) false
    c.to_end.new.changed c.requires (c.in_ok-to_end.ensures.reached result_uses)).sets
