-- Each part that is found is the first one, by the case of the walk.
use Rattle.std.proofs.Common.{rules, ◌∙◌, ◌<◌, ◌+◌, ◌*◌, map, ap, arith}
use Rattle.aql_tree.specs.View.{tree}
use Rattle.aql_rewrite.specs.FirstInExpr.{none_left}
use Rattle.aql_rewrite.specs.Size.{size, size_all}
use Rattle.aql_rewrite.specs.ExprView.{lent}
use Rattle.aql_rewrite.specs.laws.PartSizes.{parts_smaller}
use Rattle.aql_rewrite.specs.laws.LentExprs.{is_smaller}
use Rattle.aql_rewrite.proofs.Steps.{none_next, found_next, found_in, found_whole}
use Rattle.aql_rewrite.proofs.Steps.{none_whole}
use Rattle.aql_rewrite.proofs.expr_search.+first.Goals as goal

pub first_among-loop-at-init : goal.first_among-loop-at-init
first_among-loop-at-init g t c = none_left

pub first_among-first_in-requires : goal.first_among-first_in-requires
first_among-first_in-requires g t c κs within =
    let k : 2 * size (lent c.index-all-at.result) < 2 * size_all (map lent c.args.all.now) + 1
    = omega (
      arith,
      is_smaller c.args.all.now c.loop-at.at c.index-all-at.result c.loop-at-test.true
          c.index-all-at.is,
    ) in
    (search (rules, k), search rules)

pub first_among-returns-in-Some : goal.first_among-returns-in-Some
first_among-returns-in-Some g t c =
    found_next (g.R.ExprRule.rewrites c.args.rule.now) c.args.all.now c.loop-at.at c.index-all-at.result
    c.loop-at-test.true c.index-all-at.is (tree c.in-Some.new) _ c.loop-at.invariant
    (rw c.in-Some.is at c.in_ok-new.ensures) c.in_ok-out-in-Some.ensures

pub first_among-loop-at-preserved : goal.first_among-loop-at-preserved
first_among-loop-at-preserved g t c =
    none_next (g.R.ExprRule.rewrites c.args.rule.now) c.args.all.now c.loop-at.at c.index-all-at.result
    c.loop-at-test.true c.index-all-at.is c.loop-at.invariant (rw c.in-None.is at c.in_ok-new.ensures)

pub first_in-first_among-requires : goal.first_in-first_among-requires
first_in-first_among-requires g t c κs within =
    let looked = ap (map lent) c.deref.ensures.value ∙ c.in_ok-all.ensures in
    let k : 2 * size_all (map lent c.deref.result.now) + 1 < 2 * size (tree c.args.expr.now)
    = omega (arith, parts_smaller (tree c.args.expr.now), ap size_all looked) in
    (search (rules, k), search rules)

pub first_in-returns-in-Some : goal.first_in-returns-in-Some
first_in-returns-in-Some g t c =
    found_in _ _ _ _ _ (ap (map lent) c.deref.ensures.value ∙ c.in_ok-all.ensures)
    (rw c.in-Some.is at c.in_ok-new.ensures) c.in_ok-whole-in-Some.ensures

pub first_in-returns-in-Some-2 : goal.first_in-returns-in-Some-2
first_in-returns-in-Some-2 g t c =
    found_whole _ _ _ _ (ap (map lent) c.deref.ensures.value ∙ c.in_ok-all.ensures)
    (rw c.in-None.is at c.in_ok-new.ensures) (rw c.in-Some-2.is at c.in_ok-new-in-None.ensures)

pub first_in-returns : goal.first_in-returns
first_in-returns g t c =
    none_whole _ _ _ (ap (map lent) c.deref.ensures.value ∙ c.in_ok-all.ensures)
    (rw c.in-None.is at c.in_ok-new.ensures) (rw c.in-None-2.is at c.in_ok-new-in-None.ensures)
