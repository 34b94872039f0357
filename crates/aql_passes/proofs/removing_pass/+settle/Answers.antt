-- A part comes to its end by its input, and then by its top node, which goes or stays with its body.
use Rattle.std.proofs.Common.{rules, ◌∙◌, ◌+◌, ◌<◌, List, [], true, false, refl, ap, sym, subst, arith}
use Rattle.std.proofs.lemmas.Result.{IfOk-weaker}
use Rattle.aql_plan.specs.Needs.{under, result_uses}
use Rattle.aql_plan.specs.Nodes.{weight}
use Rattle.aql_plan.specs.Plan.{Plan, top}
use Rattle.aql_plan.specs.View.{plan_tree}
use Rattle.aql_rewrite.specs.declared.swap.Rename.{Rename}
use Rattle.aql_rewrite.specs.Placed.{IsPlaced}
use Rattle.aql_rewrite.specs.Plain.{NodePlain}
use Rattle.aql_rewrite.specs.Renames.{over_each}
use Rattle.aql_rewrite.specs.laws.RenamedPlans.{placed_plain}
use Rattle.aql_rewrite.specs.laws.Walk.{placed_inside}
use Rattle.aql_rewrite.specs.laws.Taken.{taken}
use Rattle.aql_passes.specs.inner.Removed.{Removes}
use Rattle.aql_passes.specs.laws.Removing.{body_of, body_within, way_weight, start_removes, input_reached}
use Rattle.aql_passes.specs.laws.Removing.{input_ended, then_inside, then_gone, bare_removes, body_removes}
use Rattle.aql_passes.specs.laws.Removing.{stays_placed}
use Rattle.aql_passes.specs.laws.StaysPlaced.{placed_under, placed_unseen}
use Rattle.aql_passes.proofs.removing_pass.+settle.Goals as goal

pub settle-returns-then-is_start : goal.settle-returns-then-is_start
settle-returns-then-is_start g t c =
    let rule = c.args.rule.now in
    let facts = c.args.facts.now in
    start_removes (g.R.Rule.rewrites rule facts) (g.met.R.RemovingRule.blind rule facts)
    (g.met.R.RemovingRule.removes rule facts) (plan_tree c.args.plan) c.args.renames.now.items
    c.args.changed.now (sym c.is_start.ensures ∙ c.if-is_start.true) c.requires.none

pub settle-settle-requires : goal.settle-settle-requires
settle-settle-requires g t c κs within =
    let p = plan_tree c.args.plan in
    let m = plan_tree c.replace_below-below.new.node in
    let b = plan_tree c.replace_below-below.result in
    let parts = taken p m b (sym c.is_start.ensures ∙ c.if-is_start.false) c.replace_below-below.ensures.over
    c.replace_below-below.ensures.input in
    let k : weight b + (weight b + 1) < weight p + (weight p + 1) = omega (arith, ap weight parts.was) in (
      search (rules, k),
      (
        search rules,
        (
          placed_unseen c.args.facts.now (under (top m) []) [] b refl
              (placed_under c.args.facts.now [] (under (top m) []) b (top m) refl
              (subst (λ (o : Plan). IsPlaced false false c.args.facts.now [] o) parts.was c.requires.placed)),
          c.requires.none,
        ),
      ),
    )

pub settle-renamed_over-requires : goal.settle-renamed_over-requires
settle-renamed_over-requires g t c =
    let p = plan_tree c.args.plan in
    let m = plan_tree c.replace_below-below.new.node in
    let b = plan_tree c.replace_below-below.result in
    let parts = taken p m b (sym c.is_start.ensures ∙ c.if-is_start.false) c.replace_below-below.ensures.over
    c.replace_below-below.ensures.input in
    subst NodePlain (ap top parts.was) (placed_plain false false c.args.facts.now [] p c.requires.placed)

pub settle-removal-requires : goal.settle-removal-requires
settle-removal-requires g t c =
    let rule = c.args.rule.now in
    let facts = c.args.facts.now in
    let rewrites = g.R.Rule.rewrites rule facts in
    let p = plan_tree c.args.plan in
    let m = plan_tree c.replace_below-below.new.node in
    let b = plan_tree c.replace_below-below.result in
    let d = plan_tree c.in_ok-below.below in
    let k = plan_tree c.in_ok-part.part in
    let rs = c.settle.new.renames.items in
    let parts = taken p m b (sym c.is_start.ensures ∙ c.if-is_start.false) c.replace_below-below.ensures.over
    c.replace_below-below.ensures.input in
    let made = c.in_ok-part.ensures ∙ ap (λ (qs : List Rename). over_each qs m d) c.as_slice.ensures.value in
    stays_placed rewrites (g.met.R.RemovingRule.blind rule facts) (g.met.R.RemovingRule.removes rule facts)
    facts (g.R.Rule.fragments rule) (g.met.R.RemovingRule.lone rule) (g.met.R.Rule.refines rule facts)
    (g.met.R.Rule.keeps rule facts) p k rs c.args.changed.now c.settle.new.changed c.requires.placed
    (input_reached rewrites (g.met.R.RemovingRule.blind rule facts) (g.met.R.RemovingRule.removes rule facts)
    p m b d k rs c.args.changed.now c.settle.new.changed c.requires.placed.2.suits parts made
    c.in_ok-below.ensures)

pub settle-settle_body-requires : goal.settle-settle_body-requires
settle-settle_body-requires g t c κs within =
    let rule = c.args.rule.now in
    let facts = c.args.facts.now in
    let rewrites = g.R.Rule.rewrites rule facts in
    let blind = g.met.R.RemovingRule.blind rule facts in
    let removes = g.met.R.RemovingRule.removes rule facts in
    let p = plan_tree c.args.plan in
    let m = plan_tree c.replace_below-below.new.node in
    let b = plan_tree c.replace_below-below.result in
    let d = plan_tree c.in_ok-below.below in
    let k = plan_tree c.in_ok-part.part in
    let rs = c.settle.new.renames.items in
    let x = c.args.changed.now in
    let y = c.settle.new.changed in
    let parts = taken p m b (sym c.is_start.ensures ∙ c.if-is_start.false) c.replace_below-below.ensures.over
    c.replace_below-below.ensures.input in
    let made = c.in_ok-part.ensures ∙ ap (λ (qs : List Rename). over_each qs m d) c.as_slice.ensures.value in
    let way = input_reached rewrites blind removes p m b d k rs x y c.requires.placed.2.suits parts made
    c.in_ok-below.ensures in
    let less : weight k + weight k < weight p + (weight p + 1)
    = omega (arith, way_weight rewrites blind removes way) in (
      search (rules, less),
      (
        search rules,
        (
          stays_placed rewrites blind removes facts (g.R.Rule.fragments rule) (g.met.R.RemovingRule.lone rule)
              (g.met.R.Rule.refines rule facts) (g.met.R.Rule.keeps rule facts) p k rs x y c.requires.placed way,
          (
            input_ended rewrites blind removes p m b d k rs x y c.requires.placed.2.suits parts made
                c.in_ok-below.ensures,
            c.in-None.ensures,
          ),
        ),
      ),
    )

pub settle-returns-in-None : goal.settle-returns-in-None
settle-returns-in-None g t c =
    let rule = c.args.rule.now in
    let facts = c.args.facts.now in
    let p = plan_tree c.args.plan in
    let m = plan_tree c.replace_below-below.new.node in
    let b = plan_tree c.replace_below-below.result in
    let d = plan_tree c.in_ok-below.below in
    let k = plan_tree c.in_ok-part.part in
    let parts = taken p m b (sym c.is_start.ensures ∙ c.if-is_start.false) c.replace_below-below.ensures.over
    c.replace_below-below.ensures.input in
    let made = c.in_ok-part.ensures ∙ ap (λ (qs : List Rename). over_each qs m d) c.as_slice.ensures.value in
    IfOk-weaker c.settle_body.result _ _
    (λ o h. then_inside (g.R.Rule.rewrites rule facts) (g.met.R.RemovingRule.blind rule facts)
    (g.met.R.RemovingRule.removes rule facts) p m b d k c.settle.new.renames.items c.args.changed.now
    c.settle.new.changed c.requires.placed.2.suits parts made c.in_ok-below.ensures (plan_tree o)
    c.settle_body.new.changed h) c.settle_body.ensures

pub settle-returns-in_ok-push-in-Some : goal.settle-returns-in_ok-push-in-Some
settle-returns-in_ok-push-in-Some g t c =
    let rule = c.args.rule.now in
    let facts = c.args.facts.now in
    let rewrites = g.R.Rule.rewrites rule facts in
    let p = plan_tree c.args.plan in
    let m = plan_tree c.replace_below-below.new.node in
    let b = plan_tree c.replace_below-below.result in
    let d = plan_tree c.in_ok-below.below in
    let k = plan_tree c.in_ok-part.part in
    let q = plan_tree c.replace_below.result in
    let rs = c.settle.new.renames.items in
    let parts = taken p m b (sym c.is_start.ensures ∙ c.if-is_start.false) c.replace_below-below.ensures.over
    c.replace_below-below.ensures.input in
    let made = c.in_ok-part.ensures ∙ ap (λ (qs : List Rename). over_each qs m d) c.as_slice.ensures.value in
    subst (λ (qs : List Rename). Removes rewrites p q qs c.args.changed.now true) (sym c.in_ok-push-in-Some.ensures.items)
    (then_gone rewrites (g.met.R.RemovingRule.blind rule facts) (g.met.R.RemovingRule.removes rule facts)
    p m b d k rs c.args.changed.now c.settle.new.changed c.requires.placed.2.suits parts made
    c.in_ok-below.ensures q c.in-Some.rename c.in-Some.ensures c.replace_below.ensures.input)

pub settle_body-returns-then-not-has_body : goal.settle_body-returns-then-not-has_body
settle_body-returns-then-not-has_body g t c =
    let rule = c.args.rule.now in
    let facts = c.args.facts.now in
    bare_removes (g.R.Rule.rewrites rule facts) (g.met.R.RemovingRule.blind rule facts)
    (g.met.R.RemovingRule.removes rule facts) (plan_tree c.args.part) c.requires.placed.2.suits
    c.requires.input c.requires.stays c.args.changed.now (sym c.has_body.ensures ∙ c.if-not-has_body.true)

pub settle_body-settle-requires : goal.settle_body-settle-requires
settle_body-settle-requires g t c κs within =
    let k = plan_tree c.args.part in
    let s = plan_tree c.replace_body-body.result in
    let d = body_of k s (sym c.has_body.ensures ∙ c.if-not-has_body.false) c.replace_body-body.ensures.had in
    let within_it = body_within k s d in
    let less : weight s + (weight s + 1) < weight k + weight k = omega (arith, within_it.1) in (
      search (rules, less),
      (
        search rules,
        (
          placed_unseen c.args.facts.now result_uses [] s refl
              (placed_inside false false c.args.facts.now [] result_uses k s within_it.0 refl
              c.requires.placed),
          c.new-renames.ensures.items,
        ),
      ),
    )

pub settle_body-returns : goal.settle_body-returns
settle_body-returns g t c =
    let rule = c.args.rule.now in
    let facts = c.args.facts.now in
    let k = plan_tree c.args.part in
    let s = plan_tree c.replace_body-body.result in
    let d = body_of k s (sym c.has_body.ensures ∙ c.if-not-has_body.false) c.replace_body-body.ensures.had in
    body_removes (g.R.Rule.rewrites rule facts) (g.met.R.RemovingRule.blind rule facts)
    (g.met.R.RemovingRule.removes rule facts) k c.requires.placed.2.suits c.requires.input c.requires.stays
    (plan_tree c.replace_body-body.new.node) s (plan_tree c.in_ok-body.body) (plan_tree c.with_body.result)
    c.settle.new.renames.items c.args.changed.now c.settle.new.changed d c.replace_body-body.ensures.with
    c.with_body.ensures c.in_ok-body.ensures
