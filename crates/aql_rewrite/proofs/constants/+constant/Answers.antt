-- The walk looks at each part.
use Rattle.std.proofs.Common.{rules, ◌∙◌, ◌<◌, ◌+◌, ◌*◌, map, true≢false, ap, sym, arith}
use Rattle.std.specs.Prelude.{◌↔◌, IsTrue}
use Rattle.aql_tree.specs.View.{tree}
use Rattle.aql_rewrite.specs.Constant.{IsConstant, AreConstant, no_more}
use Rattle.aql_rewrite.specs.Size.{size, size_all}
use Rattle.aql_rewrite.specs.ExprView.{lent}
use Rattle.aql_rewrite.specs.laws.PartSizes.{parts_smaller}
use Rattle.aql_rewrite.specs.laws.LentExprs.{is_smaller}
use Rattle.aql_rewrite.proofs.Steps.{constant_next, constant_at, whole_constant, if_ok}
use Rattle.aql_rewrite.proofs.constants.+constant.Goals as goal

pub are_closed-loop-expr-init : goal.are_closed-loop-expr-init
are_closed-loop-expr-init t c = no_more

pub are_closed-is_closed-requires : goal.are_closed-is_closed-requires
are_closed-is_closed-requires t c =
    let k : 2 * size (lent c.expr-item.result) < 2 * size_all (map lent c.args.all.now) + 1
    = omega (
      arith,
      is_smaller c.args.all.now c.loop-expr.expr-index c.expr-item.result c.loop-expr-test.true
          c.expr-item.is,
    ) in
    (search (rules, k), tt)

pub are_closed-returns-then-not-branch : goal.are_closed-returns-then-not-branch
are_closed-returns-then-not-branch t c =
    let part : IsTrue c.in_ok-is_closed.field-0 ↔ IsConstant (lent c.expr-item.result)
    = c.in_ok-is_closed.ensures in (
      (λ f. absurd (true≢false (sym f))),
      (λ h. absurd (true≢false (sym (part.1 (constant_at c.args.all.now c.loop-expr.expr-index c.expr-item.result
          c.loop-expr-test.true c.expr-item.is h)) ∙ c.if-not-branch.true))),
    )

pub are_closed-loop-expr-preserved : goal.are_closed-loop-expr-preserved
are_closed-loop-expr-preserved t c =
    let part : IsTrue c.in_ok-is_closed.field-0 ↔ IsConstant (lent c.expr-item.result)
    = c.in_ok-is_closed.ensures in
    constant_next c.args.all.now c.loop-expr.expr-index c.expr-item.result c.loop-expr-test.true c.expr-item.is
    c.loop-expr.invariant (part.0 c.if-not-branch.false)

pub is_closed-are_closed-requires : goal.is_closed-are_closed-requires
is_closed-are_closed-requires t c =
    let looked = ap (map lent) c.deref.ensures.value ∙ c.in_ok-all.ensures in
    let k : 2 * size_all (map lent c.deref.result.now) + 1 < 2 * size (tree c.args.expr.now)
    = omega (arith, parts_smaller (tree c.args.expr.now), ap size_all looked) in
    (search (rules, k), tt)

pub is_closed-returns : goal.is_closed-returns
is_closed-returns t c =
    let looked = ap (map lent) c.deref.ensures.value ∙ c.in_ok-all.ensures in
    if_ok c.are_closed.result (λ answer. IsTrue answer ↔ AreConstant (map lent c.deref.result.now))
    (λ answer. IsTrue answer ↔ IsConstant (tree c.args.expr.now))
    (λ answer h. whole_constant (map lent c.deref.result.now) (tree c.args.expr.now) looked
    (sym c.is_open.ensures ∙ c.if-is_open.false) answer h) c.are_closed.ensures
