-- A part comes to its end by its input, and then by what the rule makes of it, at its top node or in the body
-- of this.
use Rattle.std.proofs.Common.{rules, ◌∙◌, ◌+◌, ◌<◌, true, false, refl, ap, sym, subst, arith}
use Rattle.std.specs.Prelude.{None}
use Rattle.std.proofs.lemmas.Result.{IfOk-weaker}
use Rattle.aql_meaning.specs.Uses.{Uses}
use Rattle.aql_plan.specs.Needs.{under}
use Rattle.aql_plan.specs.Plan.{Plan, top}
use Rattle.aql_plan.specs.View.{plan_tree}
use Rattle.aql_rewrite.specs.Placed.{IsPlaced}
use Rattle.aql_rewrite.specs.View.{above_uses}
use Rattle.aql_rewrite.specs.laws.Walk.{above_new, above_old}
use Rattle.aql_rewrite.specs.laws.Taken.{taken}
use Rattle.aql_passes.specs.inner.Finished.{Finishes, IsRewrittenHere}
use Rattle.aql_passes.specs.laws.Finishing.{work, work_below, start_finishes, input_reached}
use Rattle.aql_passes.specs.laws.Finishing.{stayed_finishes, then_stepped, then_lower, then_finishes}
use Rattle.aql_passes.specs.laws.Finishing.{finishes_seen}
use Rattle.aql_passes.specs.laws.StaysPlaced.{stays_placed, placed_under, placed_unseen, placed_for}
use Rattle.aql_passes.proofs.part_pass.+settle.Goals as goal

pub settle-returns-then-is_start-clause-finishes :
    goal.settle-returns-then-is_start-clause-finishes
settle-returns-then-is_start-clause-finishes g t c =
    start_finishes (g.R.Rule.rewrites c.args.rule.now c.args.facts.now) (above_uses c.args.above.now.items)
    (plan_tree c.args.plan) c.args.changed.now (sym c.is_start.ensures ∙ c.if-is_start.true)

pub settle-settle_below-requires : goal.settle-settle_below-requires
settle-settle_below-requires g t c κs within =
    let size = g.R.PartRule.size c.args.rule.now in
    let p = plan_tree c.args.plan in
    let m = plan_tree c.replace_below-below.new.node in
    let b = plan_tree c.replace_below-below.result in
    let parts = taken p m b (sym c.is_start.ensures ∙ c.if-is_start.false) c.replace_below-below.ensures.over
    c.replace_below-below.ensures.input in
    let k : work size b + (work size b + 1) < work size p + work size p
    = omega (arith, work_below size p m b parts) in (
      search (rules, k),
      (
        search rules,
        subst
            (λ (o : Plan). IsPlaced false false c.args.facts.now (above_uses c.args.above.now.items) o)
            parts.was c.requires,
      ),
    )

pub settle-rewrite_here-requires : goal.settle-rewrite_here-requires
settle-rewrite_here-requires g t c =
    let rule = c.args.rule.now in
    let facts = c.args.facts.now in
    let rewrites = g.R.Rule.rewrites rule facts in
    let us = above_uses c.args.above.now.items in
    let p = plan_tree c.args.plan in
    let m = plan_tree c.replace_below-below.new.node in
    let b = plan_tree c.replace_below-below.result in
    let d = plan_tree c.in_ok-below.below in
    let k = plan_tree c.with_below-part.result in
    let x = c.args.changed.now in
    let y = c.settle_below.new.changed in
    let parts = taken p m b (sym c.is_start.ensures ∙ c.if-is_start.false) c.replace_below-below.ensures.over
    c.replace_below-below.ensures.input in
    placed_for facts false us (above_uses c.as_slice.result.now) k refl
    (ap above_uses (c.as_slice.ensures.value ∙ c.in_ok-below.ensures.kept))
    (stays_placed rewrites facts (g.R.Rule.fragments rule) (g.met.R.PartRule.lone rule)
    (g.met.R.Rule.refines rule facts) (g.met.R.Rule.keeps rule facts) us p k x y c.requires
    (input_reached rewrites us p m b d k x y c.requires.2.suits parts c.with_below-part.ensures
    c.in_ok-below.ensures.finishes))

pub settle-settle-requires : goal.settle-settle-requires
settle-settle-requires g t c κs within =
    let rule = c.args.rule.now in
    let facts = c.args.facts.now in
    let rewrites = g.R.Rule.rewrites rule facts in
    let size = g.R.PartRule.size rule in
    let us = above_uses c.args.above.now.items in
    let p = plan_tree c.args.plan in
    let m = plan_tree c.replace_below-below.new.node in
    let b = plan_tree c.replace_below-below.result in
    let d = plan_tree c.in_ok-below.below in
    let k = plan_tree c.with_below-part.result in
    let q = plan_tree c.rewrite_here.new.part in
    let x = c.args.changed.now in
    let y = c.settle_below.new.changed in
    let parts = taken p m b (sym c.is_start.ensures ∙ c.if-is_start.false) c.replace_below-below.ensures.over
    c.replace_below-below.ensures.input in
    let first = subst (IsRewrittenHere rewrites us k q) c.if-not-branch.false
    (subst (λ (vs : Uses). IsRewrittenHere rewrites vs k q c.in_ok-rewrite_here.field-0)
    (ap above_uses (c.as_slice.ensures.value ∙ c.in_ok-below.ensures.kept)) c.in_ok-rewrite_here.ensures) in
    let less = then_lower rewrites (g.met.R.PartRule.nameless rule facts) size
    (g.met.R.PartRule.lowers rule facts) us p m b d k q None x y c.requires.2.suits parts
    c.with_below-part.ensures c.in_ok-below.ensures.finishes first in
    let fewer : work size q + work size q < work size p + work size p = omega (arith, less) in (
      search (rules, fewer),
      (
        search rules,
        placed_for facts false us (above_uses c.settle_below.new.above.items) q refl
            (ap above_uses c.in_ok-below.ensures.kept)
            (stays_placed rewrites facts (g.R.Rule.fragments rule) (g.met.R.PartRule.lone rule)
            (g.met.R.Rule.refines rule facts) (g.met.R.Rule.keeps rule facts) us p q x true c.requires
            (then_stepped rewrites (g.met.R.PartRule.nameless rule facts) us p m b d k q
            None x y c.requires.2.suits parts c.with_below-part.ensures
            c.in_ok-below.ensures.finishes first)),
      ),
    )

pub settle-returns-then-not-branch-clause-finishes : goal.settle-returns-then-not-branch-clause-finishes
settle-returns-then-not-branch-clause-finishes g t c =
    let rewrites = g.R.Rule.rewrites c.args.rule.now c.args.facts.now in
    let us = above_uses c.args.above.now.items in
    let p = plan_tree c.args.plan in
    let m = plan_tree c.replace_below-below.new.node in
    let b = plan_tree c.replace_below-below.result in
    let k = plan_tree c.with_below-part.result in
    let parts = taken p m b (sym c.is_start.ensures ∙ c.if-is_start.false) c.replace_below-below.ensures.over
    c.replace_below-below.ensures.input in
    let q = plan_tree c.rewrite_here.new.part in
    let stays = subst (IsRewrittenHere rewrites us k q) c.if-not-branch.true
    (subst (λ (vs : Uses). IsRewrittenHere rewrites vs k q c.in_ok-rewrite_here.field-0)
    (ap above_uses (c.as_slice.ensures.value ∙ c.in_ok-below.ensures.kept)) c.in_ok-rewrite_here.ensures) in
    subst (λ (o : Plan). Finishes rewrites us p o c.args.changed.now c.settle_below.new.changed) (sym stays.1)
    (stayed_finishes rewrites us p m b (plan_tree c.in_ok-below.below) k c.args.changed.now
    c.settle_below.new.changed c.requires.2.suits parts c.with_below-part.ensures
    c.in_ok-below.ensures.finishes stays.0)

pub settle-returns-clause-finishes : goal.settle-returns-clause-finishes
settle-returns-clause-finishes g t c =
    let rule = c.args.rule.now in
    let facts = c.args.facts.now in
    let rewrites = g.R.Rule.rewrites rule facts in
    let us = above_uses c.args.above.now.items in
    let p = plan_tree c.args.plan in
    let m = plan_tree c.replace_below-below.new.node in
    let b = plan_tree c.replace_below-below.result in
    let d = plan_tree c.in_ok-below.below in
    let k = plan_tree c.with_below-part.result in
    let q = plan_tree c.rewrite_here.new.part in
    let x = c.args.changed.now in
    let y = c.settle_below.new.changed in
    let parts = taken p m b (sym c.is_start.ensures ∙ c.if-is_start.false) c.replace_below-below.ensures.over
    c.replace_below-below.ensures.input in
    let first = subst (IsRewrittenHere rewrites us k q) c.if-not-branch.false
    (subst (λ (vs : Uses). IsRewrittenHere rewrites vs k q c.in_ok-rewrite_here.field-0)
    (ap above_uses (c.as_slice.ensures.value ∙ c.in_ok-below.ensures.kept)) c.in_ok-rewrite_here.ensures) in
    let way = then_stepped rewrites (g.met.R.PartRule.nameless rule facts) us p m b d k q
    None x y c.requires.2.suits parts c.with_below-part.ensures
    c.in_ok-below.ensures.finishes first in
    IfOk-weaker c.settle.result _ _
    (λ o h. then_finishes rewrites us p q (plan_tree o) x c.settle.new.changed way
    (subst (λ (vs : Uses). Finishes rewrites vs q (plan_tree o) true c.settle.new.changed)
    (ap above_uses c.in_ok-below.ensures.kept) h)) c.settle.ensures.finishes

pub settle_below-settle-requires : goal.settle_below-settle-requires
settle_below-settle-requires g t c κs within =
    let size = g.R.PartRule.size c.args.rule.now in
    let us = above_uses c.args.above.now.items in
    let b = plan_tree c.args.below in
    let n = top (plan_tree c.args.node.now) in
    let k : work size b + work size b < work size b + (work size b + 1) = omega arith in (
      search (rules, k),
      (
        search rules,
        placed_unseen c.args.facts.now (under n us) (above_uses c.new-unseen.result.items) b
            (ap above_uses c.new-unseen.ensures.items)
            (placed_under c.args.facts.now us (under n us) b n refl c.requires),
      ),
    )

pub settle_below-returns-then-not-looks_above-clause-finishes :
    goal.settle_below-returns-then-not-looks_above-clause-finishes
settle_below-returns-then-not-looks_above-clause-finishes g t c =
    let rule = c.args.rule.now in
    let facts = c.args.facts.now in
    let n = top (plan_tree c.args.node.now) in
    IfOk-weaker c.settle.result _ _
    (λ o h. finishes_seen (g.R.Rule.rewrites rule facts)
    (g.met.R.PartRule.blind rule (sym c.looks_above.ensures ∙ c.if-not-looks_above.true) facts)
    (above_uses c.new-unseen.result.items) (under n (above_uses c.args.above.now.items))
    (plan_tree c.args.below) (plan_tree o) c.args.changed.now c.settle.new.changed h)
    c.settle.ensures.finishes

pub settle_below-settle-requires-then-gives_new_rows :
    goal.settle_below-settle-requires-then-gives_new_rows
settle_below-settle-requires-then-gives_new_rows g t c κs within =
    let size = g.R.PartRule.size c.args.rule.now in
    let us = above_uses c.args.above.now.items in
    let b = plan_tree c.args.below in
    let n = top (plan_tree c.args.node.now) in
    let k : work size b + work size b < work size b + (work size b + 1) = omega arith in (
      search (rules, k),
      (
        search rules,
        placed_under c.args.facts.now us (above_uses c.in_ok-alone.alone.items) b n
            (above_new c.in_ok-alone.alone.items c.in_ok-own.own n us c.in_ok-alone.ensures
            c.in_ok-own.ensures (sym c.gives_new_rows.ensures ∙ c.if-gives_new_rows.true)) c.requires,
      ),
    )

pub settle_below-settle-requires-2 : goal.settle_below-settle-requires-2
settle_below-settle-requires-2 g t c κs within =
    let size = g.R.PartRule.size c.args.rule.now in
    let us = above_uses c.args.above.now.items in
    let b = plan_tree c.args.below in
    let n = top (plan_tree c.args.node.now) in
    let k : work size b + work size b < work size b + (work size b + 1) = omega arith in (
      search (rules, k),
      (
        search rules,
        placed_under c.args.facts.now us (above_uses c.push.new.self.items) b n
            (above_old c.args.above.now.items c.push.new.self.items c.in_ok-own.own n
            c.in_ok-push.ensures.items c.in_ok-own.ensures
            (sym c.gives_new_rows.ensures ∙ c.if-gives_new_rows.false)) c.requires,
      ),
    )

pub settle_below-returns-clause-finishes : goal.settle_below-returns-clause-finishes
settle_below-returns-clause-finishes g t c =
    let n = top (plan_tree c.args.node.now) in
    subst
    (λ (vs : Uses). Finishes (g.R.Rule.rewrites c.args.rule.now c.args.facts.now) vs
    (plan_tree c.args.below) (plan_tree c.in_ok-below.below) c.args.changed.now c.settle-2.new.changed)
    (above_old c.args.above.now.items c.push.new.self.items c.in_ok-own.own n
    c.in_ok-push.ensures.items c.in_ok-own.ensures
    (sym c.gives_new_rows.ensures ∙ c.if-gives_new_rows.false)) c.in_ok-below.ensures.finishes
