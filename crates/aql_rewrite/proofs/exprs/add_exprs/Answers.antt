use Rattle.std.proofs.Common.{◌∙◌, [], ◌∷◌, List, map, refl, ap}
use Rattle.std.proofs.lemmas.List.{map-append}
use Rattle.aql_tree.specs.Tree.{ExprTree}
use Rattle.aql_tree.specs.View.{tree, trees}
use Rattle.aql_tree.specs.declared.syntax.Expr.{Expr}
use Rattle.aql_rewrite.specs.Children.{list_children}
use Rattle.aql_rewrite.specs.ExprView.{lent}
use Rattle.aql_rewrite.proofs.Passed.{one_passed, all_passed}
use Rattle.aql_rewrite.proofs.exprs.add_exprs.Goals as goal

abbrev rest : List Expr → List ExprTree
rest = λ es. list_children (trees (map tree es))

pub loop-expr-preserved : goal.loop-expr-preserved
loop-expr-preserved c =
    let item = c.expr-item.result in
    one_passed rest c.args.all.now c.loop-expr.expr-index item (map lent c.loop-expr.to.items) _
    (tree item ∷ []) _ c.loop-expr-test.true c.expr-item.is refl
    (ap (map lent) c.in_ok-push.ensures.items ∙ map-append lent c.loop-expr.to.items _) c.loop-expr.invariant

pub returns : goal.returns
returns c =
    all_passed rest c.args.all.now c.loop-expr.expr-index _ _ c.loop-expr-test.false refl
    c.loop-expr.invariant
