use Rattle.std.proofs.Common.{◌≡◌, ◌∙◌, length, true≢false, refl, sym, arith}
use Rattle.aql_rules_order.proofs.Keys.{constant_next, one_constant, all_constant}
use Rattle.aql_rules_order.proofs.remove_redundant_sorts.are_constant.Goals as goal

pub returns-then-not-branch : goal.returns-then-not-branch
returns-then-not-branch c = (
  (λ f. absurd (true≢false (sym f))),
  (λ h. absurd (true≢false (sym (c.in_ok-is_constant.ensures.answer.1
      (one_constant c.args.keys.now c.loop-key.key-index c.key-item.result c.loop-key-test.true c.key-item.is
      c.loop-key.invariant h)) ∙ c.if-not-branch.true))),
)

pub loop-key-preserved : goal.loop-key-preserved
loop-key-preserved c = constant_next c.args.keys.now c.loop-key.key-index c.key-item.result
    c.loop-key-test.true c.key-item.is (c.in_ok-is_constant.ensures.answer.0 c.if-not-branch.false)
    c.loop-key.invariant

pub returns : goal.returns
returns c =
    let e : c.loop-key.key-index ≡ length c.args.keys.now
    = omega (arith, c.loop-key-test.false, c.loop-key.auto.key-index-end) in (
      (λ f. all_constant c.args.keys.now c.loop-key.key-index e c.loop-key.invariant),
      (λ h. refl),
    )
