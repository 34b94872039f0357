-- Each place that is found is the first one, by the case of the walk.
use Rattle.std.proofs.Common.{rules, ◌≡◌, ◌∙◌, ◌+◌, ◌<◌, true, false, refl, ap, sym, subst, arith}
use Rattle.std.specs.Prelude.{Some}
use Rattle.std.proofs.lemmas.Result.{IfOk-weaker}
use Rattle.aql_meaning.specs.Uses.{Uses}
use Rattle.aql_plan.specs.Needs.{under}
use Rattle.aql_plan.specs.Nodes.{weight, body_in}
use Rattle.aql_plan.specs.Plan.{Plan, top}
use Rattle.aql_plan.specs.View.{plan_tree}
use Rattle.aql_rewrite.specs.Changed.{IsChanged}
use Rattle.aql_rewrite.specs.Placed.{IsPlaced}
use Rattle.aql_rewrite.specs.View.{above_uses}
use Rattle.aql_rewrite.specs.laws.Taken.{taken}
use Rattle.aql_rewrite.specs.laws.Walk.{above_new, above_old, placed_inside, weight_body}
use Rattle.aql_passes.specs.inner.Finished.{IsRewritten, IsRewrittenHere}
use Rattle.aql_passes.specs.laws.FirstRewritten.{start_rewritten, weight_taken, input_rewritten, input_back}
use Rattle.aql_passes.specs.laws.FirstRewritten.{node_rewritten, top_rewritten, bare_stays, body_held}
use Rattle.aql_passes.specs.laws.FirstRewritten.{body_rewritten, rewritten_seen}
use Rattle.aql_passes.specs.laws.StaysPlaced.{placed_under, placed_unseen, placed_for}
use Rattle.aql_passes.proofs.first_rewrite.+rewrite.Goals as goal

pub rewrite_first-returns-then-is_start-clause-rewritten :
    goal.rewrite_first-returns-then-is_start-clause-rewritten
rewrite_first-returns-then-is_start-clause-rewritten g t c =
    start_rewritten (g.R.Rule.rewrites c.args.rule.now c.args.facts.now) (above_uses c.args.above.now.items)
    (plan_tree c.args.plan.now) (sym c.is_start.ensures ∙ c.if-is_start.true)

pub rewrite_first-rewrite_below-requires : goal.rewrite_first-rewrite_below-requires
rewrite_first-rewrite_below-requires g t c κs within =
    let p = plan_tree c.args.plan.now in
    let m = plan_tree c.replace_below-below.new.node in
    let b = plan_tree c.replace_below-below.result in
    let parts = taken p m b (sym c.is_start.ensures ∙ c.if-is_start.false) c.replace_below-below.ensures.over
    c.replace_below-below.ensures.input in
    let k : weight b + (weight b + 2) < weight p + (weight p + 1)
    = omega (arith, weight_taken p m b parts) in (
      search (rules, k),
      (
        search rules,
        subst
            (λ (o : Plan). IsPlaced false false c.args.facts.now (above_uses c.args.above.now.items) o)
            parts.was c.requires,
      ),
    )

pub rewrite_first-returns-then-found-clause-rewritten :
    goal.rewrite_first-returns-then-found-clause-rewritten
rewrite_first-returns-then-found-clause-rewritten g t c =
    let rewrites = g.R.Rule.rewrites c.args.rule.now c.args.facts.now in
    let us = above_uses c.args.above.now.items in
    let p = plan_tree c.args.plan.now in
    let m = plan_tree c.replace_below-below.new.node in
    let b = plan_tree c.replace_below-below.result in
    let d = plan_tree c.rewrite_below.new.below in
    let parts = taken p m b (sym c.is_start.ensures ∙ c.if-is_start.false) c.replace_below-below.ensures.over
    c.replace_below-below.ensures.input in
    input_rewritten rewrites us p m b d (plan_tree c.replace_below.new.node) c.requires.2.suits parts
    c.replace_below.ensures.over
    (subst (IsRewritten rewrites (under (top m) us) b d) c.if-found.true c.in_ok-found.ensures.rewritten)

pub rewrite_first-rewrite_here-requires : goal.rewrite_first-rewrite_here-requires
rewrite_first-rewrite_here-requires g t c κs within =
    let rewrites = g.R.Rule.rewrites c.args.rule.now c.args.facts.now in
    let us = above_uses c.args.above.now.items in
    let p = plan_tree c.args.plan.now in
    let m = plan_tree c.replace_below-below.new.node in
    let b = plan_tree c.replace_below-below.result in
    let d = plan_tree c.rewrite_below.new.below in
    let q = plan_tree c.replace_below.new.node in
    let parts = taken p m b (sym c.is_start.ensures ∙ c.if-is_start.false) c.replace_below-below.ensures.over
    c.replace_below-below.ensures.input in
    let none = subst (IsRewritten rewrites (under (top m) us) b d) c.if-found.false
    c.in_ok-found.ensures.rewritten in
    let back = input_back rewrites us p m b d q parts c.replace_below.ensures.over none.1 in
    let k : weight q + weight q < weight p + (weight p + 1)
    = subst (λ (o : Plan). weight q + weight q < weight o + (weight o + 1)) back (omega arith) in (
      search (rules, k),
      (
        search rules,
        placed_for c.args.facts.now false us (above_uses c.as_slice.result.now) q refl
            (ap above_uses (c.as_slice.ensures.value ∙ c.in_ok-found.ensures.kept))
            (subst (λ (o : Plan). IsPlaced false false c.args.facts.now us o) (sym back) c.requires),
      ),
    )

pub rewrite_first-returns-clause-rewritten : goal.rewrite_first-returns-clause-rewritten
rewrite_first-returns-clause-rewritten g t c =
    let rewrites = g.R.Rule.rewrites c.args.rule.now c.args.facts.now in
    let us = above_uses c.args.above.now.items in
    let p = plan_tree c.args.plan.now in
    let m = plan_tree c.replace_below-below.new.node in
    let b = plan_tree c.replace_below-below.result in
    let d = plan_tree c.rewrite_below.new.below in
    let k = plan_tree c.replace_below.new.node in
    let q = plan_tree c.rewrite_here.new.part in
    let parts = taken p m b (sym c.is_start.ensures ∙ c.if-is_start.false) c.replace_below-below.ensures.over
    c.replace_below-below.ensures.input in
    IfOk-weaker c.rewrite_here.result _ _
    (λ x h. node_rewritten rewrites us p m b d k q x c.requires.2.suits parts c.replace_below.ensures.over
    (subst (IsRewritten rewrites (under (top m) us) b d) c.if-found.false c.in_ok-found.ensures.rewritten)
    (subst (λ (vs : Uses). IsRewrittenHere rewrites vs k q x)
    (ap above_uses (c.as_slice.ensures.value ∙ c.in_ok-found.ensures.kept)) h)) c.rewrite_here.ensures

pub rewrite_below-rewrite_first-requires : goal.rewrite_below-rewrite_first-requires
rewrite_below-rewrite_first-requires g t c κs within =
    let us = above_uses c.args.above.now.items in
    let b = plan_tree c.args.below.now in
    let n = top (plan_tree c.args.node.now) in
    let k : weight b + (weight b + 1) < weight b + (weight b + 2) = omega arith in (
      search (rules, k),
      (
        search rules,
        placed_unseen c.args.facts.now (under n us) (above_uses c.new-unseen.result.items) b
            (ap above_uses c.new-unseen.ensures.items)
            (placed_under c.args.facts.now us (under n us) b n refl c.requires),
      ),
    )

pub rewrite_below-returns-then-not-looks_above-clause-rewritten :
    goal.rewrite_below-returns-then-not-looks_above-clause-rewritten
rewrite_below-returns-then-not-looks_above-clause-rewritten g t c =
    let rule = c.args.rule.now in
    let facts = c.args.facts.now in
    let n = top (plan_tree c.args.node.now) in
    IfOk-weaker c.rewrite_first.result _ _
    (λ x h. rewritten_seen (g.R.Rule.rewrites rule facts) (above_uses c.new-unseen.result.items)
    (g.met.R.PartRule.blind rule (sym c.looks_above.ensures ∙ c.if-not-looks_above.true) facts)
    (under n (above_uses c.args.above.now.items))
    (plan_tree c.args.below.now) (plan_tree c.rewrite_first.new.plan) x h)
    c.rewrite_first.ensures.rewritten

pub rewrite_below-rewrite_first-requires-then-gives_new_rows :
    goal.rewrite_below-rewrite_first-requires-then-gives_new_rows
rewrite_below-rewrite_first-requires-then-gives_new_rows g t c κs within =
    let us = above_uses c.args.above.now.items in
    let b = plan_tree c.args.below.now in
    let n = top (plan_tree c.args.node.now) in
    let k : weight b + (weight b + 1) < weight b + (weight b + 2) = omega arith in (
      search (rules, k),
      (
        search rules,
        placed_under c.args.facts.now us (above_uses c.in_ok-alone.alone.items) b n
            (above_new c.in_ok-alone.alone.items c.in_ok-own.own n us c.in_ok-alone.ensures
            c.in_ok-own.ensures (sym c.gives_new_rows.ensures ∙ c.if-gives_new_rows.true)) c.requires,
      ),
    )

pub rewrite_below-returns-then-gives_new_rows-clause-rewritten :
    goal.rewrite_below-returns-then-gives_new_rows-clause-rewritten
rewrite_below-returns-then-gives_new_rows-clause-rewritten g t c =
    let n = top (plan_tree c.args.node.now) in
    IfOk-weaker c.rewrite_first-then-gives_new_rows.result _ _
    (λ x h. subst
    (λ (vs : Uses). IsRewritten (g.R.Rule.rewrites c.args.rule.now c.args.facts.now) vs
    (plan_tree c.args.below.now) (plan_tree c.rewrite_first-then-gives_new_rows.new.plan) x)
    (above_new c.in_ok-alone.alone.items c.in_ok-own.own n (above_uses c.args.above.now.items)
    c.in_ok-alone.ensures c.in_ok-own.ensures (sym c.gives_new_rows.ensures ∙ c.if-gives_new_rows.true)) h)
    c.rewrite_first-then-gives_new_rows.ensures.rewritten

pub rewrite_below-rewrite_first-requires-2 : goal.rewrite_below-rewrite_first-requires-2
rewrite_below-rewrite_first-requires-2 g t c κs within =
    let us = above_uses c.args.above.now.items in
    let b = plan_tree c.args.below.now in
    let n = top (plan_tree c.args.node.now) in
    let k : weight b + (weight b + 1) < weight b + (weight b + 2) = omega arith in (
      search (rules, k),
      (
        search rules,
        placed_under c.args.facts.now us (above_uses c.push.new.self.items) b n
            (above_old c.args.above.now.items c.push.new.self.items c.in_ok-own.own n
            c.in_ok-push.ensures.items c.in_ok-own.ensures
            (sym c.gives_new_rows.ensures ∙ c.if-gives_new_rows.false)) c.requires,
      ),
    )

pub rewrite_below-returns-clause-rewritten : goal.rewrite_below-returns-clause-rewritten
rewrite_below-returns-clause-rewritten g t c =
    let n = top (plan_tree c.args.node.now) in
    subst
    (λ (vs : Uses). IsRewritten (g.R.Rule.rewrites c.args.rule.now c.args.facts.now) vs
    (plan_tree c.args.below.now) (plan_tree c.rewrite_first-2.new.plan) c.in_ok-found.found)
    (above_old c.args.above.now.items c.push.new.self.items c.in_ok-own.own n
    c.in_ok-push.ensures.items c.in_ok-own.ensures
    (sym c.gives_new_rows.ensures ∙ c.if-gives_new_rows.false)) c.in_ok-found.ensures.rewritten

pub rewrite_here-rewrite-requires : goal.rewrite_here-rewrite-requires
rewrite_here-rewrite-requires g t c =
    placed_for c.args.facts.now (g.R.Rule.fragments c.args.rule.now) (above_uses c.args.above.now)
    (above_uses c.args.above.now) (plan_tree c.args.part.now) (g.met.R.PartRule.lone c.args.rule.now) refl
    c.requires

pub rewrite_here-returns-then-branch : goal.rewrite_here-returns-then-branch
rewrite_here-returns-then-branch g t c =
    let rewrites = g.R.Rule.rewrites c.args.rule.now c.args.facts.now in
    let us = above_uses c.args.above.now in
    let p = plan_tree c.args.part.now in
    let q = plan_tree c.rewrite.new.part in
    top_rewritten rewrites us p q
    (subst (IsChanged rewrites us p q) c.if-branch.true c.in_ok-rewrite.ensures)

pub rewrite_here-returns-then-not-has_body : goal.rewrite_here-returns-then-not-has_body
rewrite_here-returns-then-not-has_body g t c =
    let rewrites = g.R.Rule.rewrites c.args.rule.now c.args.facts.now in
    let us = above_uses c.args.above.now in
    let p = plan_tree c.args.part.now in
    let q = plan_tree c.rewrite.new.part in
    bare_stays rewrites us p q
    (subst (IsChanged rewrites us p q) c.if-branch.false c.in_ok-rewrite.ensures)
    (sym c.has_body.ensures ∙ c.if-not-has_body.true)

pub rewrite_here-rewrite_first-requires : goal.rewrite_here-rewrite_first-requires
rewrite_here-rewrite_first-requires g t c κs within =
    let rewrites = g.R.Rule.rewrites c.args.rule.now c.args.facts.now in
    let us = above_uses c.args.above.now in
    let p = plan_tree c.args.part.now in
    let q = plan_tree c.rewrite.new.part in
    let s = plan_tree c.replace_body-body.result in
    let stays = subst (IsChanged rewrites us p q) c.if-branch.false c.in_ok-rewrite.ensures in
    let held = body_held q s (sym c.has_body.ensures ∙ c.if-not-has_body.false)
    c.replace_body-body.ensures.had in
    let inside = subst (λ (o : Plan). body_in (top o) ≡ Some s) stays.1 held in
    let k : weight s + (weight s + 1) < weight p + weight p
    = omega (arith, weight_body p s inside) in (
      search (rules, k),
      (
        search rules,
        placed_inside false false c.args.facts.now us (above_uses c.in_ok-results.results.items) p s inside
            c.in_ok-results.ensures c.requires,
      ),
    )

pub rewrite_here-returns : goal.rewrite_here-returns
rewrite_here-returns g t c =
    let rewrites = g.R.Rule.rewrites c.args.rule.now c.args.facts.now in
    let us = above_uses c.args.above.now in
    let p = plan_tree c.args.part.now in
    let q = plan_tree c.rewrite.new.part in
    body_rewritten rewrites us (above_uses c.in_ok-results.results.items) p q
    (plan_tree c.replace_body-body.new.node) (plan_tree c.replace_body-body.result)
    (plan_tree c.rewrite_first.new.plan) (plan_tree c.replace_body.new.node) c.in_ok-found.found
    (subst (IsChanged rewrites us p q) c.if-branch.false c.in_ok-rewrite.ensures)
    (sym c.has_body.ensures ∙ c.if-not-has_body.false) c.replace_body-body.ensures.with
    c.replace_body-body.ensures.had c.replace_body.ensures.with c.in_ok-results.ensures
    c.in_ok-found.ensures.rewritten
