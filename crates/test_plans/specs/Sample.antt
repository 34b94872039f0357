-- A well-formed plan with `!false` at five places, of which one is in a body and two are in one expression.
use Rattle.std.specs.Prelude.{◌≡◌, [], false, refl}
use Rattle.std.proofs.Common.{sym, subst}
use Rattle.std.specs.List.{AllByRecursion}
use Rattle.aql_tree.specs.declared.syntax.Ident.TheVariants.{Num}
use Rattle.aql_tree.specs.Tree.{ExprTree, array_literal, no_exprs, expr_then}
use Rattle.aql_plan.specs.declared.facts.Facts.{Facts}
use Rattle.aql_plan.specs.declared.facts.CollFact.{CollFact}
use Rattle.aql_plan.specs.Plan.{Plan, Singleton, Over, Filter, Subquery, Return}
use Rattle.aql_plan.specs.Shapes.{one_row, with_subquery, plain_rows, returning}
use Rattle.aql_plan.specs.WellFormed.{CollectionFits}
use Rattle.aql_rewrite.specs.Placed.{IsWhole}
use Rattle.test_plans.specs.NotFalse.{not_false}

abbrev pub two_of : ExprTree
two_of = array_literal (expr_then not_false (expr_then not_false no_exprs))

abbrev pub sample_body : Plan
sample_body = Over (Over Singleton (Filter not_false)) (Return false not_false)

abbrev pub sample : Plan
sample = Over (Over (Over Singleton (Filter not_false)) (Subquery (Num 1) sample_body)) (Return false two_of)

-- whatever the facts are, with no collection
pub sample_whole : (facts : Facts) → facts.collections ≡ [] → IsWhole false facts sample
sample_whole facts e = (
  (
    subst (λ cs. AllByRecursion CollectionFits cs) (sym e) tt,
    returning (tt, (tt, tt))
        (with_subquery (returning tt (plain_rows tt tt one_row)) (plain_rows tt tt one_row)),
    ((((tt, refl, refl, tt)), refl, refl, ((tt, refl, refl, tt), refl, refl, tt)), refl, refl, tt),
    refl,
    (tt, tt),
  ),
  (((tt, tt), ((tt, tt), tt)), tt),
)

pub whole_of : (facts : Facts) (p : Plan) → facts.collections ≡ [] → p ≡ sample → IsWhole false facts p
whole_of facts p known is = subst (λ (q : Plan). IsWhole false facts q) (sym is) (sample_whole facts known)
