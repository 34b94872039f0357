-- A plan comes to its end by its input, then by its top node, and then by the body of this.
use Rattle.std.proofs.Common.{rules, ◌∙◌, ◌<◌, ◌+◌, ◌*◌, sym}
use Rattle.std.proofs.lemmas.Result.{IfOk-weaker}
use Rattle.aql_plan.specs.Nodes.{weight}
use Rattle.aql_plan.specs.Plan.{Over, top}
use Rattle.aql_plan.specs.View.{plan_tree}
use Rattle.aql_rewrite.specs.laws.Taken.{taken, bodied, lone_input, lone_inside}
use Rattle.aql_passes.specs.laws.Forms.{taken_where}
use Rattle.aql_passes.specs.laws.Forms.{fewer_below, as_many, fewer_under, fewer_inside}
use Rattle.aql_passes.specs.laws.Forms.{lone_under, settled_input}
use Rattle.aql_passes.specs.laws.Forms.{start_settled, plan_settled, node_stayed, node_sunk, node_bodied}
use Rattle.aql_passes.proofs.exchange_pass.+settle.Goals as goal

pub settle-returns-then-is_start : goal.settle-returns-then-is_start
settle-returns-then-is_start g t c =
    start_settled (g.R.Rule.rewrites c.args.rule.now c.args.facts.now) (g.R.ExchangeRule.swaps c.args.rule.now)
    (plan_tree c.args.plan) c.args.changed.now (sym c.is_start.ensures ∙ c.if-is_start.true)

pub settle-settle-requires : goal.settle-settle-requires
settle-settle-requires g t c κs within =
    let p = plan_tree c.args.plan in
    let m = plan_tree c.replace_below-below.new.node in
    let b = plan_tree c.replace_below-below.result in
    let parts = taken p m b (sym c.is_start.ensures ∙ c.if-is_start.false) c.replace_below-below.ensures.over
    c.replace_below-below.ensures.input in
    let k : 3 * weight b + 2 < 3 * weight p + 2 = fewer_below p m b parts in
    (search (rules, k), (search rules, (lone_input p m b parts c.requires).0))

pub settle-sink-requires : goal.settle-sink-requires
settle-sink-requires g t c κs within =
    let p = plan_tree c.args.plan in
    let m = plan_tree c.replace_below-below.new.node in
    let b = plan_tree c.replace_below-below.result in
    let d = plan_tree c.in_ok-below.below in
    let parts = taken p m b (sym c.is_start.ensures ∙ c.if-is_start.false) c.replace_below-below.ensures.over
    c.replace_below-below.ensures.input in
    let k : 3 * weight (Over d (top m)) + 1 < 3 * weight p + 2
    = as_many p m b d parts c.in_ok-below.ensures.nodes in (
      search (rules, k),
      (
        search rules,
        (
          parts.left,
          (
            (c.in_ok-below.ensures.lone, (lone_input p m b parts c.requires).1),
            c.in_ok-below.ensures.settled,
          ),
        ),
      ),
    )

pub settle-returns : goal.settle-returns
settle-returns g t c =
    let p = plan_tree c.args.plan in
    let m = plan_tree c.replace_below-below.new.node in
    let b = plan_tree c.replace_below-below.result in
    let parts = taken p m b (sym c.is_start.ensures ∙ c.if-is_start.false) c.replace_below-below.ensures.over
    c.replace_below-below.ensures.input in
    IfOk-weaker c.sink.result _ _
    (λ q h. plan_settled (g.R.Rule.rewrites c.args.rule.now c.args.facts.now)
    (g.R.ExchangeRule.swaps c.args.rule.now) p m b (plan_tree c.in_ok-below.below) (plan_tree q)
    c.args.changed.now c.settle.new.changed c.sink.new.changed c.requires parts c.in_ok-below.ensures h)
    c.sink.ensures

pub sink-sink-requires : goal.sink-sink-requires
sink-sink-requires g t c κs within =
    let n = top (plan_tree c.args.node) in
    let p = plan_tree c.args.below in
    let m = plan_tree c.replace_below-input.new.node in
    let b = plan_tree c.replace_below-input.result in
    let parts = taken_where (g.R.ExchangeRule.swaps c.args.rule.now) n p m b
    (sym c.in_ok-goes_below.ensures ∙ c.if-not-branch.false) c.replace_below-input.ensures.over
    c.replace_below-input.ensures.input in
    let k : 3 * weight (Over b n) + 1 < 3 * weight (Over p n) + 1 = fewer_under n p m b parts in (
      search (rules, k),
      (
        search rules,
        (
          c.requires.node,
          (
            lone_under n p m b parts c.requires.lone,
            settled_input (g.R.ExchangeRule.swaps c.args.rule.now) p m b parts c.requires.settled,
          ),
        ),
      ),
    )

pub sink-returns : goal.sink-returns
sink-returns g t c =
    let n = top (plan_tree c.args.node) in
    let p = plan_tree c.args.below in
    let m = plan_tree c.replace_below-input.new.node in
    let b = plan_tree c.replace_below-input.result in
    let goes = sym c.in_ok-goes_below.ensures ∙ c.if-not-branch.false in
    node_sunk (g.R.Rule.rewrites c.args.rule.now c.args.facts.now) (g.R.ExchangeRule.swaps c.args.rule.now)
    (g.met.R.ExchangeRule.exchanged c.args.rule.now c.args.facts.now)
    (g.met.R.ExchangeRule.alone c.args.rule.now c.args.facts.now) (g.met.R.ExchangeRule.apart c.args.rule.now)
    n p m b (plan_tree c.in_ok-upper.upper) (plan_tree c.with_below.result) c.args.changed.now
    c.sink.new.changed c.requires.lone c.requires.settled goes
    (taken_where (g.R.ExchangeRule.swaps c.args.rule.now) n p m b goes c.replace_below-input.ensures.over
    c.replace_below-input.ensures.input) c.in_ok-upper.ensures c.with_below.ensures

pub settle_body-returns-then-not-has_body : goal.settle_body-returns-then-not-has_body
settle_body-returns-then-not-has_body g t c =
    node_stayed (g.R.Rule.rewrites c.args.rule.now c.args.facts.now) (g.R.ExchangeRule.swaps c.args.rule.now)
    (plan_tree c.args.node) (plan_tree c.args.below) (plan_tree c.with_below.result) c.args.changed.now
    c.requires.node c.requires.lone c.requires.settled c.requires.stays
    (sym c.has_body.ensures ∙ c.if-not-has_body.true) c.with_below.ensures

pub settle_body-settle-requires : goal.settle_body-settle-requires
settle_body-settle-requires g t c κs within =
    let m = plan_tree c.args.node in
    let b = plan_tree c.args.below in
    let s = plan_tree c.replace_body-body.result in
    let inside = bodied (top m) m s (sym c.has_body.ensures ∙ c.if-not-has_body.false) c.requires.node
    c.replace_body-body.ensures.had in
    let k : 3 * weight s + 2 < 3 * weight (Over b (top m)) = fewer_inside (top m) b s inside in
    (search (rules, k), (search rules, lone_inside (top m) s inside c.requires.lone.1))

pub settle_body-returns : goal.settle_body-returns
settle_body-returns g t c =
    let m = plan_tree c.args.node in
    let s = plan_tree c.replace_body-body.result in
    node_bodied (g.R.Rule.rewrites c.args.rule.now c.args.facts.now) (g.R.ExchangeRule.swaps c.args.rule.now)
    (g.met.R.ExchangeRule.exchanged c.args.rule.now c.args.facts.now)
    (g.met.R.ExchangeRule.alone c.args.rule.now c.args.facts.now)
    (g.met.R.ExchangeRule.steady c.args.rule.now c.args.facts.now) (top m) m
    (plan_tree c.replace_body-body.new.node) (plan_tree c.with_body-node.result) (plan_tree c.args.below) s
    (plan_tree c.in_ok-body.body) (plan_tree c.with_below-2.result) c.args.changed.now c.settle.new.changed
    c.requires.node c.requires.lone c.requires.settled c.requires.stays
    (bodied (top m) m s (sym c.has_body.ensures ∙ c.if-not-has_body.false) c.requires.node
    c.replace_body-body.ensures.had) c.replace_body-body.ensures.with c.with_body-node.ensures
    c.with_below-2.ensures c.in_ok-body.ensures
