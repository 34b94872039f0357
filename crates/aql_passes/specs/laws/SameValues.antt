-- The parts of a node have the same values over new expressions that stand for the old ones.
use Rattle.std.proofs.Common.{◌≡◌, List, ◌∷◌, ◌++◌, refl, ap, ap₂}
use Rattle.std.specs.Prelude.{Option, Some, None, option_map}
use Rattle.aql_value.specs.Datum.{Datum, null}
use Rattle.aql_tree.specs.Tree.{ExprTree, ExprTrees, no_exprs, expr_then, MaybeExpr, no_expr, one_expr}
use Rattle.aql_tree.specs.Tree.{AggregateTrees, no_aggregates, aggregate_then, IntoTree, no_into, into}
use Rattle.aql_meaning.specs.Row.{Row}
use Rattle.aql_meaning.specs.Value.{values, value_or}
use Rattle.aql_meaning.specs.AtRows.{value_of}
use Rattle.aql_meaning.specs.Documents.{End, Last, no_last, one_of, between, end_map, last_map}
use Rattle.aql_meaning.specs.Stages.{arguments_at, taken_at}
use Rattle.aql_rewrite.specs.Children.{list_children, maybe_children}
use Rattle.aql_rewrite.specs.OverChildren.{first_or, after_first, over_list, over_maybe, after_maybe}
use Rattle.aql_rewrite.specs.laws.Related.{rest_related, after_maybe_related}
use Rattle.aql_rewrite.specs.NodeExprs.{end_exprs, last_exprs, aggregate_exprs, into_exprs, over_end, after_end, over_last, over_aggregates, over_into}
use Rattle.aql_passes.specs.laws.Standing.{StandsFor, AllStand, first_stands, regrouped}
use Rattle.aql_passes.specs.laws.ExprsLeft.{after_end_left}

pub same_value : (e : ExprTree) (fs ps : List ExprTree) → AllStand (e ∷ fs) ps → (row : Row)
    → value_of (first_or e ps) row ≡ value_of e row
same_value e fs ps h row = (first_stands e fs ps h).value null row

pub same_maybe : (e : MaybeExpr) (fs ps : List ExprTree) → AllStand (maybe_children e ++ fs) ps
    → (row : Row) (d : Datum) → value_or (over_maybe e ps) null row d ≡ value_or e null row d
same_maybe no_expr fs ps h row d = refl
same_maybe (one_expr e) fs ps h row d = same_value e fs ps h row

pub same_list : (es : ExprTrees) (fs ps : List ExprTree) → AllStand (list_children es ++ fs) ps → (row : Row)
    → values (over_list es ps) null row ≡ values es null row
same_list no_exprs fs ps h row = refl
same_list (expr_then e es) fs ps h row = ap₂ (λ v vs. v ∷ vs) (same_value e (list_children es ++ fs) ps h row)
    (same_list es fs (after_first ps) (rest_related StandsFor e (list_children es ++ fs) ps h) row)

same_end : (e : Option (End ExprTree)) (fs ps : List ExprTree) → AllStand (end_exprs e ++ fs) ps → (row : Row)
    → option_map (end_map (λ d. value_of d row)) (over_end e ps)
    ≡ option_map (end_map (λ d. value_of d row)) e
same_end None fs ps h row = refl
same_end (Some e) fs ps h row =
    ap (λ v. Some (record { limit = v; inclusive = e.inclusive })) (same_value e.limit fs ps h row)

pub same_last : (l : Last ExprTree) (fs ps : List ExprTree) → AllStand (last_exprs l ++ fs) ps → (row : Row)
    → last_map (λ d. value_of d row) (over_last l ps) ≡ last_map (λ d. value_of d row) l
same_last no_last fs ps h row = refl
same_last (one_of e) fs ps h row = ap one_of (same_value e fs ps h row)
same_last (between low high) fs ps h row =
    let k = regrouped StandsFor (end_exprs low) (end_exprs high) fs ps h in
    ap₂ between (same_end low (end_exprs high ++ fs) ps k row)
    (same_end high fs (after_end low ps) (after_end_left StandsFor low (end_exprs high ++ fs) ps k) row)

pub same_arguments : (gs : AggregateTrees) (fs ps : List ExprTree) → AllStand (aggregate_exprs gs ++ fs) ps
    → (row : Row) → arguments_at (over_aggregates gs ps) row ≡ arguments_at gs row
same_arguments no_aggregates fs ps h row = refl
same_arguments (aggregate_then x name e rest) fs ps h row =
    let k = regrouped StandsFor (maybe_children e) (aggregate_exprs rest) fs ps h in
    ap₂ (λ v vs. v ∷ vs) (same_maybe e (aggregate_exprs rest ++ fs) ps k row null)
    (same_arguments rest fs (after_maybe e ps)
    (after_maybe_related StandsFor e (aggregate_exprs rest ++ fs) ps k) row)

pub same_taken : (i : IntoTree) (fs ps : List ExprTree) → AllStand (into_exprs i ++ fs) ps → (row : Row)
    → taken_at (over_into i ps) row ≡ taken_at i row
same_taken no_into fs ps h row = refl
same_taken (into x what keep) fs ps h row = same_maybe what fs ps h row null
