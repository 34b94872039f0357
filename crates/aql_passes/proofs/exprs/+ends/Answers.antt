-- Each expression comes to its end by its parts and then by itself.
use Rattle.std.proofs.Common.{rules, ◌∙◌, ◌<◌, ◌+◌, ◌*◌, List, map, ap, arith, unwrap_or, option_map}
use Rattle.std.proofs.lemmas.Result.{IfOk-weaker}
use Rattle.aql_tree.specs.Tree.{ExprTree}
use Rattle.aql_tree.specs.View.{tree}
use Rattle.aql_rewrite.specs.Size.{size, size_all}
use Rattle.aql_rewrite.specs.ExprView.{lent}
use Rattle.aql_rewrite.specs.laws.LentExprs.{is_smaller}
use Rattle.aql_rewrite.specs.laws.PartSizes.{parts_smaller}
use Rattle.aql_passes.specs.inner.Ends.{AllEnd}
use Rattle.aql_passes.specs.laws.Ended.{none_yet, no_part, whole_ends, no_larger, at_end, goes_on, made_of_own}
use Rattle.aql_passes.proofs.EndSteps.{one_ended}
use Rattle.aql_passes.proofs.exprs.+ends.Goals as goal

pub all_to_end-loop-at-init : goal.all_to_end-loop-at-init
all_to_end-loop-at-init g t c = none_yet (g.R.ExprRule.rewrites c.args.rule.now) c.args.changed.now

pub all_to_end-to_end-requires : goal.all_to_end-to_end-requires
all_to_end-to_end-requires g t c κs within =
    let k : 2 * size (lent c.index-all-at.result) + 1 < 2 * size_all (map lent c.args.all.now) + 2
    = omega (
      arith,
      is_smaller c.args.all.now c.loop-at.at c.index-all-at.result c.loop-at-test.true c.index-all-at.is,
    ) in
    (search (rules, k), search rules)

pub all_to_end-loop-at-preserved : goal.all_to_end-loop-at-preserved
all_to_end-loop-at-preserved g t c =
    one_ended (g.R.ExprRule.rewrites c.args.rule.now) c.args.all.now c.loop-at.at c.index-all-at.result
    c.loop-at-test.true c.index-all-at.is
    (λ (es : List ExprTree). unwrap_or (option_map (λ q. map tree q.items) c.add_new.new.out) es) _ _
    c.args.changed.now c.loop-at.changed c.to_end.new.changed c.loop-at.invariant c.in_ok-new.ensures
    c.in_ok-add_new.ensures

pub to_end-all_to_end-requires : goal.to_end-all_to_end-requires
to_end-all_to_end-requires g t c κs within =
    let looked = ap (map lent) c.deref.ensures.value ∙ c.in_ok-all.ensures in
    let k : 2 * size_all (map lent c.deref.result.now) + 2 < 2 * size (tree c.args.expr.now) + 1
    = omega (arith, parts_smaller (tree c.args.expr.now), ap size_all looked) in
    (search (rules, k), search rules)

pub to_end-whole_to_end-requires : goal.to_end-whole_to_end-requires
to_end-whole_to_end-requires g t c κs within =
    let rewrites = g.R.ExprRule.rewrites c.args.rule.now in
    let e = tree c.args.expr.now in
    let whole = tree c.in_ok-whole-in-Some.whole in
    let es = map lent c.deref.result.now in
    let ps = map tree c.in-Some.new.items in
    let looked = ap (map lent) c.deref.ensures.value ∙ c.in_ok-all.ensures in
    let parts : AllEnd rewrites es ps c.args.changed.now c.all_to_end.new.changed
    = rw c.in-Some.is at c.in_ok-new.ensures in
    let n = no_part rewrites e whole es ps c.args.changed.now c.all_to_end.new.changed looked parts
    c.in_ok-whole-in-Some.ensures in
    let l = no_larger rewrites e whole es ps c.args.changed.now c.all_to_end.new.changed looked parts
    c.in_ok-whole-in-Some.ensures (g.met.R.ExprRule.falls c.args.rule.now) in
    let k : 2 * size whole < 2 * size e + 1 = omega (arith, l) in
    (search (rules, k), search (rules, n))

pub to_end-returns-in-Some-2 : goal.to_end-returns-in-Some-2
to_end-returns-in-Some-2 g t c =
    whole_ends (g.R.ExprRule.rewrites c.args.rule.now) (tree c.args.expr.now) (tree c.in_ok-whole-in-Some.whole)
    (map lent c.deref.result.now) (map tree c.in-Some.new.items) c.args.changed.now c.all_to_end.new.changed
    (ap (map lent) c.deref.ensures.value ∙ c.in_ok-all.ensures) (rw c.in-Some.is at c.in_ok-new.ensures)
    c.in_ok-whole-in-Some.ensures (tree c.in-Some-2.next) c.whole_to_end.new.changed
    (rw c.in-Some-2.is at c.in_ok-next-in-Some.ensures)

pub to_end-returns-in-Some : goal.to_end-returns-in-Some
to_end-returns-in-Some g t c =
    whole_ends (g.R.ExprRule.rewrites c.args.rule.now) (tree c.args.expr.now) (tree c.in_ok-whole-in-Some.whole)
    (map lent c.deref.result.now) (map tree c.in-Some.new.items) c.args.changed.now c.all_to_end.new.changed
    (ap (map lent) c.deref.ensures.value ∙ c.in_ok-all.ensures) (rw c.in-Some.is at c.in_ok-new.ensures)
    c.in_ok-whole-in-Some.ensures (tree c.in_ok-whole-in-Some.whole) c.whole_to_end.new.changed
    (rw c.in-None-2.is at c.in_ok-next-in-Some.ensures)

pub to_end-returns : goal.to_end-returns
to_end-returns g t c =
    let rewrites = g.R.ExprRule.rewrites c.args.rule.now in
    let e = tree c.args.expr.now in
    let es = map lent c.deref.result.now in
    let looked = ap (map lent) c.deref.ensures.value ∙ c.in_ok-all.ensures in
    let parts : AllEnd rewrites es es c.args.changed.now c.all_to_end.new.changed
    = rw c.in-None.is at c.in_ok-new.ensures in
    IfOk-weaker c.whole_to_end-in-None.result _ _
    (λ new h. whole_ends rewrites e e es es c.args.changed.now c.all_to_end.new.changed looked parts
    (made_of_own e es looked) (unwrap_or (option_map tree new) e) c.whole_to_end-in-None.new.changed h)
    c.whole_to_end-in-None.ensures

pub whole_to_end-returns-in-Some-2 : goal.whole_to_end-returns-in-Some-2
whole_to_end-returns-in-Some-2 g t c =
    goes_on (g.R.ExprRule.rewrites c.args.rule.now) (tree c.args.whole.now) c.args.changed.now c.requires
    (tree c.in-Some.next) (tree c.in-Some-2.last) c.to_end.new.changed (rw c.in-Some.is at c.in_ok-next.ensures)
    (rw c.in-Some-2.is at c.in_ok-last-in-Some.ensures)

pub whole_to_end-returns-in-None-2 : goal.whole_to_end-returns-in-None-2
whole_to_end-returns-in-None-2 g t c =
    goes_on (g.R.ExprRule.rewrites c.args.rule.now) (tree c.args.whole.now) c.args.changed.now c.requires
    (tree c.in-Some.next) (tree c.in-Some.next) c.to_end.new.changed (rw c.in-Some.is at c.in_ok-next.ensures)
    (rw c.in-None-2.is at c.in_ok-last-in-Some.ensures)

pub whole_to_end-returns-in-None : goal.whole_to_end-returns-in-None
whole_to_end-returns-in-None g t c =
    at_end (g.R.ExprRule.rewrites c.args.rule.now) (tree c.args.whole.now) c.args.changed.now c.requires
    (rw c.in-None.is at c.in_ok-next.ensures)
