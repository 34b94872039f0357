-- An expression is renamed by its parts.
use Rattle.std.proofs.Common.{rules, ◌∙◌, ◌<◌, ◌+◌, ◌*◌, List, map, ap, sym, subst, arith, unwrap_or, option_map}
use Rattle.std.specs.List.{AllByRecursion}
use Rattle.aql_tree.specs.Tree.{ExprTree}
use Rattle.aql_tree.specs.View.{tree}
use Rattle.aql_meaning.specs.Plain.{IsPlain}
use Rattle.aql_rewrite.specs.OverChildren.{over_children}
use Rattle.aql_rewrite.specs.Size.{size, size_all}
use Rattle.aql_rewrite.specs.ExprView.{lent}
use Rattle.aql_rewrite.specs.laws.LentExprs.{is_smaller}
use Rattle.aql_rewrite.specs.laws.PartSizes.{parts_smaller}
use Rattle.aql_rewrite.specs.laws.PlainParts.{plain_parts}
use Rattle.aql_rewrite.specs.Renames.{put_each}
use Rattle.aql_rewrite.specs.laws.RenamedExprs.{whole_each, whole_stays, of_variable}
use Rattle.aql_rewrite.proofs.RenamingSteps.{is_plain, one_renamed}
use Rattle.aql_rewrite.proofs.renaming.+exprs.Goals as goal

pub renamed_exprs-renamed_expr-requires : goal.renamed_exprs-renamed_expr-requires
renamed_exprs-renamed_expr-requires t c =
    let k : 2 * size (lent c.index-all-at.result) < 2 * size_all (map lent c.args.all.now) + 1
    = omega (
      arith,
      is_smaller c.args.all.now c.loop-at.at c.index-all-at.result c.loop-at-test.true
          c.index-all-at.is,
    ) in (
      search (rules, k),
      is_plain c.args.all.now c.loop-at.at c.index-all-at.result c.loop-at-test.true
          c.index-all-at.is c.requires,
    )

pub renamed_exprs-loop-at-preserved : goal.renamed_exprs-loop-at-preserved
renamed_exprs-loop-at-preserved t c =
    one_renamed c.args.all.now c.loop-at.at c.index-all-at.result c.loop-at-test.true c.index-all-at.is
    (put_each c.args.renames.now)
    (λ (es : List ExprTree). unwrap_or (option_map (λ q. map tree q.items) c.add_new.new.out) es) _ _
    c.loop-at.invariant c.in_ok-new.ensures c.in_ok-add_new.ensures

pub renamed_expr-renamed_exprs-requires : goal.renamed_expr-renamed_exprs-requires
renamed_expr-renamed_exprs-requires t c =
    let looked = ap (map lent) c.deref.ensures.value ∙ c.in_ok-all-in-None.ensures in
    let k : 2 * size_all (map lent c.deref.result.now) + 1 < 2 * size (tree c.args.expr.now)
    = omega (arith, parts_smaller (tree c.args.expr.now), ap size_all looked) in (
      search (rules, k),
      subst (λ (es : List ExprTree). AllByRecursion IsPlain es) (sym looked)
          (plain_parts (tree c.args.expr.now) c.requires),
    )

pub renamed_expr-returns-in-Some : goal.renamed_expr-returns-in-Some
renamed_expr-returns-in-Some t c =
    let is = of_variable (tree c.args.expr.now) c.in-Some.var.now c.in-Some.ensures in
    ap (λ (e : ExprTree). unwrap_or (option_map tree c.renamed_variable.result) e) is
    ∙ c.renamed_variable.ensures ∙ ap (put_each c.args.renames.now) (sym is)

pub renamed_expr-returns-in-Some-2 : goal.renamed_expr-returns-in-Some-2
renamed_expr-returns-in-Some-2 t c =
    let e = tree c.args.expr.now in
    let looked = ap (map lent) c.deref.ensures.value ∙ c.in_ok-all-in-None.ensures in
    c.in_ok-whole-in-Some-2.ensures ∙ ap (over_children e)
    ((rw c.in-Some-2.is at c.in_ok-new-in-None.ensures) ∙ ap (map (put_each c.args.renames.now)) looked)
    ∙ whole_each c.args.renames.now e c.requires c.in-None.ensures

pub renamed_expr-returns : goal.renamed_expr-returns
renamed_expr-returns t c =
    let looked = ap (map lent) c.deref.ensures.value ∙ c.in_ok-all-in-None.ensures in
    whole_stays c.args.renames.now (tree c.args.expr.now) c.requires c.in-None.ensures
    (sym looked ∙ (rw c.in-None-2.is at c.in_ok-new-in-None.ensures) ∙ ap (map (put_each c.args.renames.now)) looked)
