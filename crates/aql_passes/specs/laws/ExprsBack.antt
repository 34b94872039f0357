-- The expressions of a node over others are these, and where they run out its own.
use Rattle.std.proofs.Common.{◌≡◌, ◌∙◌, List, ◌∷◌, ◌++◌, refl, ap, sym, append_assoc}
use Rattle.std.specs.Prelude.{Option, Some, None}
use Rattle.aql_tree.specs.Tree.{ExprTree, ExprTrees, no_exprs, expr_then, MaybeExpr, no_expr, one_expr}
use Rattle.aql_tree.specs.Tree.{AggregateTrees, no_aggregates, aggregate_then, IntoTree, no_into, into}
use Rattle.aql_meaning.specs.Documents.{End, Last, no_last, one_of, between}
use Rattle.aql_plan.specs.Plan.{Node, EnumerateCollection, Index, EnumerateList, Traversal, Calculation, Subquery, Filter, Sort, Limit, Collect, Return, NoResults, Scatter, Distribute, Remote, Gather}
use Rattle.aql_rewrite.specs.Children.{list_children, maybe_children}
use Rattle.aql_rewrite.specs.OverChildren.{first_or, after_first, over_list, over_maybe, after_maybe}
use Rattle.aql_rewrite.specs.ExprView.{each_over}
use Rattle.aql_rewrite.specs.laws.PartsBack.{list_back as list_alone, maybe_back}
use Rattle.aql_rewrite.specs.NodeExprs.{end_exprs, last_exprs, aggregate_exprs, into_exprs, node_exprs, after_list, over_end, after_end, over_last, after_last, over_aggregates, after_aggregates, over_into, over_exprs}

-- ---- the expressions of a part over others, with those that come later

each_append : (es fs gs ps : List ExprTree)
    → each_over ((es ++ fs) ++ gs) ps ≡ each_over (es ++ (fs ++ gs)) ps
each_append es fs gs ps = ap (λ ds. each_over ds ps) (append_assoc es fs gs)

list_back : (es : ExprTrees) (fs ds ps : List ExprTree) → ds ≡ each_over fs (after_list es ps)
    → list_children (over_list es ps) ++ ds ≡ each_over (list_children es ++ fs) ps
list_back no_exprs fs ds ps h = h
list_back (expr_then e es) fs ds ps h = ap (λ xs. first_or e ps ∷ xs) (list_back es fs ds (after_first ps) h)

end_back : (e : Option (End ExprTree)) (fs ds ps : List ExprTree) → ds ≡ each_over fs (after_end e ps)
    → end_exprs (over_end e ps) ++ ds ≡ each_over (end_exprs e ++ fs) ps
end_back None fs ds ps h = h
end_back (Some e) fs ds ps h = ap (λ xs. first_or e.limit ps ∷ xs) h

last_back : (l : Last ExprTree) (fs ds ps : List ExprTree) → ds ≡ each_over fs (after_last l ps)
    → last_exprs (over_last l ps) ++ ds ≡ each_over (last_exprs l ++ fs) ps
last_back no_last fs ds ps h = h
last_back (one_of e) fs ds ps h = ap (λ xs. first_or e ps ∷ xs) h
last_back (between low high) fs ds ps h =
    append_assoc (end_exprs (over_end low ps)) (end_exprs (over_end high (after_end low ps))) ds
    ∙ end_back low (end_exprs high ++ fs) (end_exprs (over_end high (after_end low ps)) ++ ds) ps
    (end_back high fs ds (after_end low ps) h)
    ∙ sym (each_append (end_exprs low) (end_exprs high) fs ps)

aggregates_back : (gs : AggregateTrees) (fs ds ps : List ExprTree)
    → ds ≡ each_over fs (after_aggregates gs ps)
    → aggregate_exprs (over_aggregates gs ps) ++ ds ≡ each_over (aggregate_exprs gs ++ fs) ps
aggregates_back no_aggregates fs ds ps h = h
aggregates_back (aggregate_then x name e rest) fs ds ps h =
    append_assoc (maybe_children (over_maybe e ps))
    (aggregate_exprs (over_aggregates rest (after_maybe e ps))) ds
    ∙ maybe_back e (aggregate_exprs rest ++ fs)
    (aggregate_exprs (over_aggregates rest (after_maybe e ps)) ++ ds) ps
    (aggregates_back rest fs ds (after_maybe e ps) h)
    ∙ sym (each_append (maybe_children e) (aggregate_exprs rest) fs ps)

-- where none come later
maybe_alone : (e : MaybeExpr) (ps : List ExprTree)
    → maybe_children (over_maybe e ps) ≡ each_over (maybe_children e) ps
maybe_alone no_expr ps = refl
maybe_alone (one_expr e) ps = refl

into_alone : (i : IntoTree) (ps : List ExprTree) → into_exprs (over_into i ps) ≡ each_over (into_exprs i) ps
into_alone no_into ps = refl
into_alone (into x what keep) ps = maybe_alone what ps

-- ---- nodes

pub exprs_back : (n : Node) (ps : List ExprTree) → node_exprs (over_exprs n ps) ≡ each_over (node_exprs n) ps
exprs_back (EnumerateCollection x) ps = maybe_alone x.filter ps
exprs_back (Index x index equal last ordered) ps =
    let qs = after_list equal ps in
    let rs = after_last last qs in
    list_back equal (last_exprs last ++ maybe_children x.filter)
    (last_exprs (over_last last qs) ++ maybe_children (over_maybe x.filter rs)) ps
    (last_back last (maybe_children x.filter) (maybe_children (over_maybe x.filter rs)) qs
    (maybe_alone x.filter rs))
exprs_back (EnumerateList x e) ps = refl
exprs_back (Traversal w e colls prune keep) ps =
    let qs = after_first ps in
    let rs = after_maybe prune qs in
    ap (λ xs. first_or e ps ∷ xs)
    (maybe_back prune (maybe_children keep) (maybe_children (over_maybe keep rs)) qs (maybe_alone keep rs))
exprs_back (Calculation x e) ps = refl
exprs_back (Subquery x s) ps = refl
exprs_back (Filter e) ps = refl
exprs_back (Sort directions es n) ps = list_alone es ps
exprs_back (Limit offset most) ps = refl
exprs_back (Collect xs es gs i s) ps =
    let qs = after_list es ps in
    let rs = after_aggregates gs qs in
    list_back es (aggregate_exprs gs ++ into_exprs i)
    (aggregate_exprs (over_aggregates gs qs) ++ into_exprs (over_into i rs)) ps
    (aggregates_back gs (into_exprs i) (into_exprs (over_into i rs)) qs (into_alone i rs))
exprs_back (Return distinct e) ps = refl
exprs_back NoResults ps = refl
exprs_back (Scatter coll only) ps = refl
exprs_back (Distribute coll es) ps = list_alone es ps
exprs_back Remote ps = refl
exprs_back (Gather directions es) ps = list_alone es ps
