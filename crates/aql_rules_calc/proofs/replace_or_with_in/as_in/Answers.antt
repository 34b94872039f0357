use Rattle.std.proofs.Common.{◌≡◌, ◌∙◌, true≢false, map, ap, subst, sym}
use Rattle.std.specs.Prelude.{List}
use Rattle.aql_tree.specs.Tree.{ExprTree}
use Rattle.aql_tree.specs.View.{tree}
use Rattle.aql_rewrite.specs.Children.{children}
use Rattle.aql_rewrite.specs.ExprView.{lent}
use Rattle.aql_rules_calc.specs.ReplaceOrWithIn.{AllCompare}
use Rattle.aql_rules_calc.proofs.Chains.{stays_constant, stays_apart, replaced}
use Rattle.aql_rules_calc.proofs.replace_or_with_in.as_in.Goals as goal

pub returns-then-branch : goal.returns-then-branch
returns-then-branch c = stays_constant (tree c.args.left.now) (tree c.args.expr.now) c.requires
    (c.in_ok-is_constant.ensures.answer.0 c.if-branch.true)

pub returns-in-Some : goal.returns-in-Some
returns-in-Some c =
    let looked : map lent c.deref.result.now ≡ children (tree c.args.expr.now)
    = ap (map lent) c.deref.ensures.value ∙ c.in_ok-all.ensures in
    let ks : List ExprTree = map tree c.in-Some.right in
    replaced (tree c.args.left.now) (tree c.args.expr.now) (tree c.in_ok-new-in-Some.new) ks c.requires
    (λ k. true≢false (sym (c.in_ok-is_constant.ensures.answer.1 k) ∙ c.if-branch.false))
    (subst (λ (ds : List ExprTree). AllCompare (tree c.args.left.now) ds ks) looked
    (rw c.in-Some.is at c.in_ok-right.ensures))
    c.in_ok-new-in-Some.ensures

pub returns : goal.returns
returns c =
    let looked : map lent c.deref.result.now ≡ children (tree c.args.expr.now)
    = ap (map lent) c.deref.ensures.value ∙ c.in_ok-all.ensures in
    let none : (ks : List ExprTree) → AllCompare (tree c.args.left.now) (map lent c.deref.result.now) ks → ⊥
    = rw c.in-None.is at c.in_ok-right.ensures in
    stays_apart (tree c.args.left.now) (tree c.args.expr.now) c.requires
    (λ ks h. none ks (subst (λ (ds : List ExprTree). AllCompare (tree c.args.left.now) ds ks) (sym looked) h))
