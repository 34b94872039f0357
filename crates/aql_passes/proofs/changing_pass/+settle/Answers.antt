-- A part comes to its end by its input, and then by its top node, or by the body of this.
use Rattle.std.proofs.Common.{rules, ◌∙◌, ◌+◌, ◌<◌, true, false, ap, sym, subst, arith}
use Rattle.std.proofs.lemmas.Result.{IfOk-weaker}
use Rattle.aql_meaning.specs.Uses.{Uses}
use Rattle.aql_plan.specs.Nodes.{weight}
use Rattle.aql_plan.specs.Plan.{top}
use Rattle.aql_plan.specs.View.{plan_tree}
use Rattle.aql_rewrite.specs.View.{above_uses}
use Rattle.aql_rewrite.specs.laws.Walk.{above_new, above_old}
use Rattle.aql_rewrite.specs.laws.Taken.{taken, bodied, lone_input, lone_inside}
use Rattle.aql_rewrite.specs.Changed.{IsChanged}
use Rattle.aql_passes.specs.inner.Finished.{Finishes}
use Rattle.aql_passes.specs.laws.Finishing.{start_finishes}
use Rattle.aql_passes.specs.laws.Changing.{twice_below, twice_inside, changed_finishes, bare_finishes}
use Rattle.aql_passes.specs.laws.Changing.{body_finishes}
use Rattle.aql_passes.proofs.changing_pass.+settle.Goals as goal

pub settle-returns-then-is_start-clause-finishes : goal.settle-returns-then-is_start-clause-finishes
settle-returns-then-is_start-clause-finishes g t c =
    start_finishes (g.R.Rule.rewrites c.args.rule.now c.args.facts.now) (above_uses c.args.above.now.items)
    (plan_tree c.args.plan) c.args.changed.now (sym c.is_start.ensures ∙ c.if-is_start.true)

pub settle-settle_below-requires : goal.settle-settle_below-requires
settle-settle_below-requires g t c κs within =
    let p = plan_tree c.args.plan in
    let m = plan_tree c.replace_below-below.new.node in
    let b = plan_tree c.replace_below-below.result in
    let parts = taken p m b (sym c.is_start.ensures ∙ c.if-is_start.false) c.replace_below-below.ensures.over
    c.replace_below-below.ensures.input in
    let k : weight b + (weight b + 1) < weight p + weight p = twice_below p m b parts in
    (search (rules, k), (search rules, (lone_input p m b parts c.requires).0))

pub settle-settle-requires : goal.settle-settle-requires
settle-settle-requires g t c κs within =
    let p = plan_tree c.args.plan in
    let m = plan_tree c.replace_below-below.new.node in
    let b = plan_tree c.replace_below-below.result in
    let s = plan_tree c.replace_body-body.result in
    let parts = taken p m b (sym c.is_start.ensures ∙ c.if-is_start.false) c.replace_below-below.ensures.over
    c.replace_below-below.ensures.input in
    let inside = bodied (top m) m s (sym c.has_body.ensures ∙ c.if-has_body.true) parts.left
    c.replace_body-body.ensures.had in
    let k : weight s + weight s < weight p + weight p = twice_inside p m b s parts inside in
    (search (rules, k), (search rules, lone_inside (top m) s inside (lone_input p m b parts c.requires).1))

pub settle-returns-then-has_body-clause-finishes : goal.settle-returns-then-has_body-clause-finishes
settle-returns-then-has_body-clause-finishes g t c =
    let rewrites = g.R.Rule.rewrites c.args.rule.now c.args.facts.now in
    let p = plan_tree c.args.plan in
    let m = plan_tree c.replace_below-below.new.node in
    let b = plan_tree c.replace_below-below.result in
    let s = plan_tree c.replace_body-body.result in
    let d = plan_tree c.in_ok-body.body in
    let parts = taken p m b (sym c.is_start.ensures ∙ c.if-is_start.false) c.replace_below-below.ensures.over
    c.replace_below-below.ensures.input in
    let inside = bodied (top m) m s (sym c.has_body.ensures ∙ c.if-has_body.true) parts.left
    c.replace_body-body.ensures.had in
    body_finishes rewrites (g.met.R.ChangingRule.changes c.args.rule.now c.args.facts.now)
    (above_uses c.args.above.now.items) p m b (plan_tree c.in_ok-below.below) c.args.changed.now
    c.settle_below.new.changed c.requires parts c.in_ok-below.ensures.finishes s d
    (plan_tree c.replace_body-body.new.node) (plan_tree c.with_body-node.result)
    (plan_tree c.with_below.result) c.settle.new.changed inside c.replace_body-body.ensures.with
    c.with_body-node.ensures c.with_below.ensures
    (subst (λ (us : Uses). Finishes rewrites us s d c.settle_below.new.changed c.settle.new.changed)
    c.in_ok-results.ensures c.in_ok-body.ensures.finishes)

pub settle-returns-then-not-branch-clause-finishes : goal.settle-returns-then-not-branch-clause-finishes
settle-returns-then-not-branch-clause-finishes g t c =
    let rewrites = g.R.Rule.rewrites c.args.rule.now c.args.facts.now in
    let us = above_uses c.args.above.now.items in
    let p = plan_tree c.args.plan in
    let m = plan_tree c.replace_below-below.new.node in
    let b = plan_tree c.replace_below-below.result in
    let k = plan_tree c.with_below-part.result in
    let q = plan_tree c.change.new.part in
    let parts = taken p m b (sym c.is_start.ensures ∙ c.if-is_start.false) c.replace_below-below.ensures.over
    c.replace_below-below.ensures.input in
    let stayed = subst (IsChanged rewrites us k q) c.if-not-branch.true
    (subst (λ (vs : Uses). IsChanged rewrites vs k q c.in_ok-change.field-0)
    (ap above_uses (c.as_slice.ensures.value ∙ c.in_ok-below.ensures.kept)) c.in_ok-change.ensures) in
    bare_finishes rewrites (g.met.R.ChangingRule.changes c.args.rule.now c.args.facts.now) us p m b
    (plan_tree c.in_ok-below.below) c.args.changed.now c.settle_below.new.changed c.requires parts
    c.in_ok-below.ensures.finishes k q c.with_below-part.ensures (sym c.has_body.ensures ∙ c.if-has_body.false)
    stayed.0 stayed.1

pub settle-returns-clause-finishes : goal.settle-returns-clause-finishes
settle-returns-clause-finishes g t c =
    let rewrites = g.R.Rule.rewrites c.args.rule.now c.args.facts.now in
    let us = above_uses c.args.above.now.items in
    let p = plan_tree c.args.plan in
    let m = plan_tree c.replace_below-below.new.node in
    let b = plan_tree c.replace_below-below.result in
    let k = plan_tree c.with_below-part.result in
    let q = plan_tree c.change.new.part in
    let parts = taken p m b (sym c.is_start.ensures ∙ c.if-is_start.false) c.replace_below-below.ensures.over
    c.replace_below-below.ensures.input in
    changed_finishes rewrites (g.met.R.ChangingRule.changes c.args.rule.now c.args.facts.now) us p m b
    (plan_tree c.in_ok-below.below) c.args.changed.now c.settle_below.new.changed c.requires parts
    c.in_ok-below.ensures.finishes k q c.with_below-part.ensures
    (subst (IsChanged rewrites us k q) c.if-not-branch.false
    (subst (λ (vs : Uses). IsChanged rewrites vs k q c.in_ok-change.field-0)
    (ap above_uses (c.as_slice.ensures.value ∙ c.in_ok-below.ensures.kept)) c.in_ok-change.ensures))

pub settle_below-settle-requires : goal.settle_below-settle-requires
settle_below-settle-requires g t c κs within =
    let b = plan_tree c.args.below in
    let k : weight b + weight b < weight b + (weight b + 1) = omega arith in
    (search (rules, k), (search rules, c.requires))

pub settle_below-returns-then-gives_new_rows-clause-finishes :
    goal.settle_below-returns-then-gives_new_rows-clause-finishes
settle_below-returns-then-gives_new_rows-clause-finishes g t c =
    let rewrites = g.R.Rule.rewrites c.args.rule.now c.args.facts.now in
    let b = plan_tree c.args.below in
    let n = top (plan_tree c.args.node.now) in
    IfOk-weaker c.settle.result _ _
    (λ o h. subst
    (λ (vs : Uses). Finishes rewrites vs b (plan_tree o) c.args.changed.now c.settle.new.changed)
    (above_new c.in_ok-alone.alone.items c.in_ok-own.own n (above_uses c.args.above.now.items)
    c.in_ok-alone.ensures c.in_ok-own.ensures (sym c.gives_new_rows.ensures ∙ c.if-gives_new_rows.true)) h)
    c.settle.ensures.finishes

pub settle_below-settle-requires-2 : goal.settle_below-settle-requires-2
settle_below-settle-requires-2 g t c κs within =
    let b = plan_tree c.args.below in
    let k : weight b + weight b < weight b + (weight b + 1) = omega arith in
    (search (rules, k), (search rules, c.requires))

pub settle_below-returns-clause-finishes : goal.settle_below-returns-clause-finishes
settle_below-returns-clause-finishes g t c =
    let n = top (plan_tree c.args.node.now) in
    subst
    (λ (vs : Uses). Finishes (g.R.Rule.rewrites c.args.rule.now c.args.facts.now) vs
    (plan_tree c.args.below) (plan_tree c.in_ok-below.below) c.args.changed.now c.settle-2.new.changed)
    (above_old c.args.above.now.items c.push.new.self.items c.in_ok-own.own n
    c.in_ok-push.ensures.items c.in_ok-own.ensures
    (sym c.gives_new_rows.ensures ∙ c.if-gives_new_rows.false)) c.in_ok-below.ensures.finishes
