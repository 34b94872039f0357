-- A part comes to its end by its input, and then by the body of its top node, or by this node.
use Rattle.std.proofs.Common.{rules, ◌∙◌, ◌<◌, sym}
use Rattle.std.proofs.lemmas.Result.{IfOk-weaker}
use Rattle.aql_plan.specs.Nodes.{weight}
use Rattle.aql_plan.specs.Plan.{top}
use Rattle.aql_plan.specs.View.{plan_tree}
use Rattle.aql_rewrite.specs.laws.Taken.{taken, bodied}
use Rattle.aql_rules_cluster.specs.laws.Walking.{start_walked, lighter_input, lighter_body, inside_walked}
use Rattle.aql_rules_cluster.specs.laws.Walking.{rewritten_walked, body_walked}
use Rattle.aql_rules_cluster.proofs.cluster_pass.+walk.Goals as goal

pub returns-then-is_start : goal.returns-then-is_start
returns-then-is_start g t c =
    start_walked (g.R.Rule.rewrites c.args.rule.now c.args.facts.now) c.args.inside (plan_tree c.args.plan)
    c.args.changed.now (sym c.is_start.ensures ∙ c.if-is_start.true)

pub walk-requires : goal.walk-requires
walk-requires g t c κs within =
    let p = plan_tree c.args.plan in
    let m = plan_tree c.replace_below-below.new.node in
    let b = plan_tree c.replace_below-below.result in
    let parts = taken p m b (sym c.is_start.ensures ∙ c.if-is_start.false) c.replace_below-below.ensures.over
    c.replace_below-below.ensures.input in
    let k : weight b < weight p = lighter_input p m b parts in
    (search (rules, k), (search rules, (search rules, (search rules, c.requires))))

pub returns-then-inside : goal.returns-then-inside
returns-then-inside g t c =
    let R = g.R.Rule.rewrites c.args.rule.now c.args.facts.now in
    let p = plan_tree c.args.plan in
    let m = plan_tree c.replace_below-below.new.node in
    let b = plan_tree c.replace_below-below.result in
    let parts = taken p m b (sym c.is_start.ensures ∙ c.if-is_start.false) c.replace_below-below.ensures.over
    c.replace_below-below.ensures.input in
    inside_walked R p m b (plan_tree c.in_ok-below.below) c.args.changed.now c.walk.new.changed c.args.inside
    c.input_inside-within.result parts c.input_inside-within.ensures c.in_ok-below.ensures c.if-inside.true
    (plan_tree c.with_below.result) c.with_below.ensures

pub walk-requires-then-has_body : goal.walk-requires-then-has_body
walk-requires-then-has_body g t c κs within =
    let p = plan_tree c.args.plan in
    let m = plan_tree c.replace_below-below.new.node in
    let b = plan_tree c.replace_below-below.result in
    let s = plan_tree c.replace_body-body.result in
    let parts = taken p m b (sym c.is_start.ensures ∙ c.if-is_start.false) c.replace_below-below.ensures.over
    c.replace_below-below.ensures.input in
    let body = bodied (top m) m s (sym c.has_body.ensures ∙ c.if-has_body.true) parts.left
    c.replace_body-body.ensures.had in
    let k : weight s < weight p = lighter_body p m b s parts body in
    (search (rules, k), (search rules, (search rules, (search rules, c.requires))))

pub returns-then-has_body : goal.returns-then-has_body
returns-then-has_body g t c =
    let R = g.R.Rule.rewrites c.args.rule.now c.args.facts.now in
    let p = plan_tree c.args.plan in
    let m = plan_tree c.replace_below-below.new.node in
    let b = plan_tree c.replace_below-below.result in
    let s = plan_tree c.replace_body-body.result in
    let parts = taken p m b (sym c.is_start.ensures ∙ c.if-is_start.false) c.replace_below-below.ensures.over
    c.replace_below-below.ensures.input in
    let body = bodied (top m) m s (sym c.has_body.ensures ∙ c.if-has_body.true) parts.left
    c.replace_body-body.ensures.had in
    body_walked R p m b (plan_tree c.in_ok-below.below) c.args.changed.now c.walk.new.changed c.args.inside
    c.input_inside-within.result parts c.input_inside-within.ensures c.in_ok-below.ensures c.if-inside.false
    (g.met.R.ClusterRule.for_cluster c.args.rule.now c.args.facts.now).bodies s
    (plan_tree c.in_ok-body.body) (plan_tree c.replace_body-body.new.node) (plan_tree c.with_body-node.result)
    (plan_tree c.with_below-then-has_body.result) c.walk-then-has_body.new.changed body
    c.replace_body-body.ensures.with c.with_body-node.ensures c.with_below-then-has_body.ensures
    c.in_ok-body.ensures

pub returns : goal.returns
returns g t c =
    let R = g.R.Rule.rewrites c.args.rule.now c.args.facts.now in
    let p = plan_tree c.args.plan in
    let m = plan_tree c.replace_below-below.new.node in
    let b = plan_tree c.replace_below-below.result in
    let parts = taken p m b (sym c.is_start.ensures ∙ c.if-is_start.false) c.replace_below-below.ensures.over
    c.replace_below-below.ensures.input in
    IfOk-weaker c.rewrite.result _ _
    (λ o h. rewritten_walked R p m b (plan_tree c.in_ok-below.below) c.args.changed.now c.walk.new.changed
    c.args.inside c.input_inside-within.result parts c.input_inside-within.ensures c.in_ok-below.ensures
    c.if-inside.false (g.met.R.ClusterRule.for_cluster c.args.rule.now c.args.facts.now).adds
    (plan_tree c.with_below-part.result) (plan_tree o) c.rewrite.new.changed c.with_below-part.ensures
    (sym c.has_body.ensures ∙ c.if-has_body.false) h) c.rewrite.ensures
