-- What a rule on plans shows of itself, for one that is made of a rule on expressions.
use Rattle.std.proofs.Common.{◌≡◌, ◌≤◌, List, ◌++◌, true, false, sym, ap, subst, arith}
use Rattle.std.specs.Prelude.{Option, Some, None}
use Rattle.std.specs.List.{list_any, AllByRecursion}
use Rattle.aql_tree.specs.declared.syntax.Ident.{Ident}
use Rattle.aql_tree.specs.Tree.{ExprTree}
use Rattle.aql_meaning.specs.Plain.{IsPlain}
use Rattle.aql_meaning.specs.Row.{same_ident}
use Rattle.aql_meaning.specs.Uses.{Uses}
use Rattle.aql_plan.specs.declared.facts.Facts.{Facts}
use Rattle.aql_plan.specs.Plan.{Plan, Singleton, Over, Node, Subquery}
use Rattle.aql_plan.specs.Refines.{RefinesFor}
use Rattle.aql_plan.specs.Variables.{vars_of, vars_set, count}
use Rattle.aql_rewrite.specs.FirstInExpr.{FirstOf}
use Rattle.aql_rewrite.specs.Keeps.{Keeps}
use Rattle.aql_rewrite.specs.laws.FirstKept.{first_of_keeps}
use Rattle.aql_rewrite.specs.declared.swap.Rename.{Rename}
use Rattle.aql_rewrite.specs.NodeExprs.{node_exprs, over_exprs}
use Rattle.aql_rewrite.specs.Placed.{Placed}
use Rattle.aql_rewrite.specs.Plain.{NodePlain}
use Rattle.aql_rewrite.specs.Swaps.{Replaced, KeepsVariables, KeepsPlaced}
use Rattle.aql_rewrite.specs.laws.PlainPlans.{plan_plain}
use Rattle.aql_passes.specs.AtExprs.{AtTop, RewritesAtTop}
use Rattle.aql_passes.specs.laws.Standing.{AllStand, kept_stand}
use Rattle.aql_passes.specs.laws.StillFound.{same_set_once, same_vars, still_found}
use Rattle.aql_passes.specs.laws.SameRows.{exprs_refine}
use Rattle.aql_passes.specs.laws.SameShape.{no_fragment, shape_kept}

each_plain : (n : Node) → NodePlain n → AllByRecursion IsPlain (node_exprs n)
each_plain (Subquery x s) h = tt
each_plain n h = h

module _ (R : ExprTree → ExprTree → Type 0) (keeps : (p q : ExprTree) → R p q → Keeps p q)
    (facts : Facts) (outer away : List Ident) (us : Uses) where
  all_stand : (b : Plan) (n : Node) (es : List ExprTree) → Placed false false facts outer away us (Over b n)
      → FirstOf R (node_exprs n) es → AllStand (node_exprs n) es
  all_stand b n es placed h = kept_stand (node_exprs n) es
      (each_plain n (plan_plain facts placed.shaped.2).1) (first_of_keeps R keeps h)

  refines_at : (p q : Plan) → Placed false false facts outer away us p → AtTop R p q
      → RefinesFor us facts q p
  refines_at Singleton q placed h = absurd h
  refines_at (Over b n) q placed h = subst (λ (s : Plan). RefinesFor us facts s (Over b n)) (sym h.2)
      (exprs_refine us facts b n h.0 (all_stand b n h.0 placed h.1) placed.suits.1)

  pub at_top_refines : (p q : Plan) (r : Option Rename) → Placed false false facts outer away us p
      → RewritesAtTop R p q r → Replaced false facts us p q r
  at_top_refines p q None placed h = refines_at p q placed h
  at_top_refines p q (Some r) placed h = absurd h

  same_kept : (xs ys : List Ident) → ys ≡ xs → KeepsVariables None us xs ys
  same_kept xs ys e x used h = subst (λ (zs : List Ident). list_any (same_ident x) zs ≡ true) (sym e) h

  no_more : (x : Ident) (xs ys : List Ident) → xs ≡ ys → count x xs ≤ count x ys
  no_more x xs ys e = let k = ap (count x) e in omega (arith, k)

  keeps_over : (b : Plan) (n : Node) (es : List ExprTree) → Placed false false facts outer away us (Over b n)
      → FirstOf R (node_exprs n) es
      → KeepsPlaced false false facts outer us (Over b n) (Over b (over_exprs n es)) None
  keeps_over b n es placed h =
      let k = all_stand b n es placed h in record {
        suits = no_fragment b n es placed.suits;
        shape = shape_kept facts b n es k placed.suits.1;
        found = still_found outer b n es k placed.suits.1 placed.found;
        vars = same_kept (vars_of outer (Over b n)) (vars_of outer (Over b (over_exprs n es)))
            (same_vars outer b n es);
        fewer = λ x. no_more x (vars_set (Over b (over_exprs n es))) (vars_set (Over b n))
            (ap (λ ys. ys ++ vars_set b) (same_set_once n es));
      }

  keeps_at : (p q : Plan) → Placed false false facts outer away us p → AtTop R p q
      → KeepsPlaced false false facts outer us p q None
  keeps_at Singleton q placed h = absurd h
  keeps_at (Over b n) q placed h =
      subst (λ (s : Plan). KeepsPlaced false false facts outer us (Over b n) s None) (sym h.2)
      (keeps_over b n h.0 placed h.1)

  pub at_top_keeps : (p q : Plan) (r : Option Rename) → Placed false false facts outer away us p
      → RewritesAtTop R p q r → KeepsPlaced false false facts outer us p q r
  at_top_keeps p q None placed h = keeps_at p q placed h
  at_top_keeps p q (Some r) placed h = absurd h
