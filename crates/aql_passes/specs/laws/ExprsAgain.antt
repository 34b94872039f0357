-- A node over its own expressions is itself, and over others twice it is over the later ones.
use Rattle.std.proofs.Common.{◌≡◌, ◌∙◌, ℕ, List, ◌++◌, refl, ap, ap₂}
use Rattle.std.specs.Prelude.{Bool, Option, Some, None}
use Rattle.aql_tree.specs.declared.syntax.Ident.{Ident}
use Rattle.aql_tree.specs.Tree.{TraversalShape, ExprTree, ExprTrees, no_exprs, expr_then}
use Rattle.aql_tree.specs.Tree.{MaybeExpr, no_expr, one_expr}
use Rattle.aql_tree.specs.Tree.{AggregateTrees, no_aggregates, aggregate_then, IntoTree, no_into, into}
use Rattle.aql_meaning.specs.Documents.{End, Last, no_last, one_of, between}
use Rattle.aql_meaning.specs.declared.grouping.Stage.{Stage}
use Rattle.aql_plan.specs.Plan.{Reading, Node, EnumerateCollection, Index, EnumerateList, Traversal, Calculation, Subquery, Filter, Sort, Limit, Collect, Return, NoResults, Scatter, Distribute, Remote, Gather}
use Rattle.aql_rewrite.specs.Children.{list_children, maybe_children}
use Rattle.aql_rewrite.specs.OverChildren.{after_first, over_list, over_maybe, after_maybe}
use Rattle.aql_rewrite.specs.NodeExprs.{last_exprs, aggregate_exprs, into_exprs, node_exprs, after_list, over_end, after_end, over_last, after_last, over_aggregates, after_aggregates, over_into, over_exprs}
use Rattle.aql_rewrite.specs.laws.OverNodes.{with_filter}
use Rattle.aql_passes.specs.laws.PartsAgain.{list_own as list_alone, longer, first_again, rest_again, maybe_again}

-- ---- its own expressions, with those that come later

list_own : (es : ExprTrees) (more : List ExprTree)
    → (over_list es (list_children es ++ more) ≡ es) × (after_list es (list_children es ++ more) ≡ more)
list_own no_exprs more = (refl, refl)
list_own (expr_then e es) more = let k = list_own es more in (ap (expr_then e) k.0, k.1)

maybe_own : (e : MaybeExpr) (more : List ExprTree)
    → (over_maybe e (maybe_children e ++ more) ≡ e) × (after_maybe e (maybe_children e ++ more) ≡ more)
maybe_own no_expr more = (refl, refl)
maybe_own (one_expr e) more = (refl, refl)

last_own : (l : Last ExprTree) (more : List ExprTree)
    → (over_last l (last_exprs l ++ more) ≡ l) × (after_last l (last_exprs l ++ more) ≡ more)
last_own no_last more = (refl, refl)
last_own (one_of e) more = (refl, refl)
last_own (between None None) more = (refl, refl)
last_own (between None (Some h)) more = (refl, refl)
last_own (between (Some l) None) more = (refl, refl)
last_own (between (Some l) (Some h)) more = (refl, refl)

aggregates_own : (gs : AggregateTrees) (more : List ExprTree)
    → (over_aggregates gs (aggregate_exprs gs ++ more) ≡ gs)
    × (after_aggregates gs (aggregate_exprs gs ++ more) ≡ more)
aggregates_own no_aggregates more = (refl, refl)
aggregates_own (aggregate_then x name no_expr rest) more =
    let k = aggregates_own rest more in (ap (aggregate_then x name no_expr) k.0, k.1)
aggregates_own (aggregate_then x name (one_expr e) rest) more =
    let k = aggregates_own rest more in (ap (aggregate_then x name (one_expr e)) k.0, k.1)

-- where none come later
maybe_alone : (e : MaybeExpr) → over_maybe e (maybe_children e) ≡ e
maybe_alone no_expr = refl
maybe_alone (one_expr e) = refl

into_alone : (i : IntoTree) → over_into i (into_exprs i) ≡ i
into_alone no_into = refl
into_alone (into x what keep) = ap (λ m. into x m keep) (maybe_alone what)

index_own : (x : Reading) (index : ℕ) (es : ExprTrees) (l : Last ExprTree) (ordered : Option Bool)
    → over_exprs (Index x index es l ordered) (node_exprs (Index x index es l ordered))
    ≡ Index x index es l ordered
index_own x index es l ordered =
    let e = list_own es (last_exprs l ++ maybe_children x.filter) in
    let k = last_own l (maybe_children x.filter) in
    ap₂ (λ ds rs.
    Index (with_filter x (over_maybe x.filter (after_last l rs))) index ds (over_last l rs) ordered) e.0 e.1
    ∙ ap₂ (λ m rs. Index (with_filter x (over_maybe x.filter rs)) index es m ordered) k.0 k.1
    ∙ ap (λ m. Index (with_filter x m) index es l ordered) (maybe_alone x.filter)

traversal_own : (w : TraversalShape) (e : ExprTree) (colls : List ℕ) (prune keep : MaybeExpr)
    → over_exprs (Traversal w e colls prune keep) (node_exprs (Traversal w e colls prune keep))
    ≡ Traversal w e colls prune keep
traversal_own w e colls prune keep =
    let p = maybe_own prune (maybe_children keep) in
    ap₂ (λ m rs. Traversal w e colls m (over_maybe keep rs)) p.0 p.1
    ∙ ap (Traversal w e colls prune) (maybe_alone keep)

collect_own : (xs : List Ident) (es : ExprTrees) (gs : AggregateTrees) (i : IntoTree) (s : Stage)
    → over_exprs (Collect xs es gs i s) (node_exprs (Collect xs es gs i s)) ≡ Collect xs es gs i s
collect_own xs es gs i s =
    let e = list_own es (aggregate_exprs gs ++ into_exprs i) in
    let g = aggregates_own gs (into_exprs i) in
    ap₂ (λ ds rs. Collect xs ds (over_aggregates gs rs) (over_into i (after_aggregates gs rs)) s) e.0 e.1
    ∙ ap₂ (λ m rs. Collect xs es m (over_into i rs) s) g.0 g.1
    ∙ ap (λ j. Collect xs es gs j s) (into_alone i)

pub exprs_own : (n : Node) → over_exprs n (node_exprs n) ≡ n
exprs_own (EnumerateCollection x) = ap (λ m. EnumerateCollection (with_filter x m)) (maybe_alone x.filter)
exprs_own (Index x index es l ordered) = index_own x index es l ordered
exprs_own (EnumerateList x e) = refl
exprs_own (Traversal w e colls prune keep) = traversal_own w e colls prune keep
exprs_own (Calculation x e) = refl
exprs_own (Subquery x s) = refl
exprs_own (Filter e) = refl
exprs_own (Sort directions es n) = ap (λ ds. Sort directions ds n) (list_alone es)
exprs_own (Limit offset most) = refl
exprs_own (Collect xs es gs i s) = collect_own xs es gs i s
exprs_own (Return distinct e) = refl
exprs_own NoResults = refl
exprs_own (Scatter coll only) = refl
exprs_own (Distribute coll es) = ap (Distribute coll) (list_alone es)
exprs_own Remote = refl
exprs_own (Gather directions es) = ap (Gather directions) (list_alone es)

-- ---- others twice, and which of them are left

list_again : (es : ExprTrees) (ms ps : List ExprTree)
    → (over_list (over_list es ms) ps ≡ over_list es (longer ps ms))
    × (after_list (over_list es ms) ps ≡ after_list es ps)
    × (longer (after_list es ps) (after_list es ms) ≡ after_list es (longer ps ms))
list_again no_exprs ms ps = (refl, refl, refl)
list_again (expr_then e es) ms ps =
    let k = list_again es (after_first ms) (after_first ps) in
    let r = rest_again ms ps in (
      ap₂ expr_then (first_again e ms ps) (k.0 ∙ ap (over_list es) r),
      k.1,
      k.2 ∙ ap (after_list es) r,
    )

abbrev ended_at : End ExprTree → ExprTree → End ExprTree
ended_at e d = record { limit = d; inclusive = e.inclusive }

end_again : (e : Option (End ExprTree)) (ms ps : List ExprTree)
    → (over_end (over_end e ms) ps ≡ over_end e (longer ps ms))
    × (after_end (over_end e ms) ps ≡ after_end e ps)
    × (longer (after_end e ps) (after_end e ms) ≡ after_end e (longer ps ms))
end_again None ms ps = (refl, refl, refl)
end_again (Some e) ms ps =
    (ap (λ d. Some (ended_at e d)) (first_again e.limit ms ps), refl, rest_again ms ps)

last_again : (l : Last ExprTree) (ms ps : List ExprTree)
    → (over_last (over_last l ms) ps ≡ over_last l (longer ps ms))
    × (after_last (over_last l ms) ps ≡ after_last l ps)
    × (longer (after_last l ps) (after_last l ms) ≡ after_last l (longer ps ms))
last_again no_last ms ps = (refl, refl, refl)
last_again (one_of e) ms ps = (ap one_of (first_again e ms ps), refl, rest_again ms ps)
last_again (between low high) ms ps =
    let l = end_again low ms ps in
    let h = end_again high (after_end low ms) (after_end low ps) in (
      ap₂ between l.0 (ap (over_end (over_end high (after_end low ms))) l.1
          ∙ h.0 ∙ ap (over_end high) l.2),
      ap (after_end (over_end high (after_end low ms))) l.1 ∙ h.1,
      h.2 ∙ ap (after_end high) l.2,
    )

aggregates_again : (gs : AggregateTrees) (ms ps : List ExprTree)
    → (over_aggregates (over_aggregates gs ms) ps ≡ over_aggregates gs (longer ps ms))
    × (after_aggregates (over_aggregates gs ms) ps ≡ after_aggregates gs ps)
    × (longer (after_aggregates gs ps) (after_aggregates gs ms) ≡ after_aggregates gs (longer ps ms))
aggregates_again no_aggregates ms ps = (refl, refl, refl)
aggregates_again (aggregate_then x name e rest) ms ps =
    let m = maybe_again e ms ps in
    let others = over_aggregates rest (after_maybe e ms) in
    let k = aggregates_again rest (after_maybe e ms) (after_maybe e ps) in (
      ap₂ (aggregate_then x name) m.0 (ap (over_aggregates others) m.1
          ∙ k.0 ∙ ap (over_aggregates rest) m.2),
      ap (after_aggregates others) m.1 ∙ k.1,
      k.2 ∙ ap (after_aggregates rest) m.2,
    )

into_again : (i : IntoTree) (ms ps : List ExprTree)
    → over_into (over_into i ms) ps ≡ over_into i (longer ps ms)
into_again no_into ms ps = refl
into_again (into x what keep) ms ps = ap (λ m. into x m keep) (maybe_again what ms ps).0

index_again : (x : Reading) (index : ℕ) (es : ExprTrees) (l : Last ExprTree) (ordered : Option Bool)
    (ms ps : List ExprTree)
    → over_exprs (over_exprs (Index x index es l ordered) ms) ps
    ≡ over_exprs (Index x index es l ordered) (longer ps ms)
index_again x index es l ordered ms ps =
    let e = list_again es ms ps in
    let k = last_again l (after_list es ms) (after_list es ps) in
    let f = maybe_again x.filter (after_last l (after_list es ms)) (after_last l (after_list es ps)) in
    rw (e.0, e.1, k.0, k.1, f.0, k.2, e.2)

traversal_again : (w : TraversalShape) (e : ExprTree) (colls : List ℕ) (prune keep : MaybeExpr)
    (ms ps : List ExprTree)
    → over_exprs (over_exprs (Traversal w e colls prune keep) ms) ps
    ≡ over_exprs (Traversal w e colls prune keep) (longer ps ms)
traversal_again w e colls prune keep ms ps =
    let p = maybe_again prune (after_first ms) (after_first ps) in
    let k = maybe_again keep (after_maybe prune (after_first ms)) (after_maybe prune (after_first ps)) in
    rw (first_again e ms ps, p.0, p.1, k.0, p.2, rest_again ms ps)

collect_again : (xs : List Ident) (es : ExprTrees) (gs : AggregateTrees) (i : IntoTree) (s : Stage)
    (ms ps : List ExprTree)
    → over_exprs (over_exprs (Collect xs es gs i s) ms) ps ≡ over_exprs (Collect xs es gs i s) (longer ps ms)
collect_again xs es gs i s ms ps =
    let e = list_again es ms ps in
    let g = aggregates_again gs (after_list es ms) (after_list es ps) in
    let j = into_again i (after_aggregates gs (after_list es ms)) (after_aggregates gs (after_list es ps)) in
    rw (e.0, e.1, g.0, g.1, j, g.2, e.2)

pub exprs_again : (n : Node) (ms ps : List ExprTree)
    → over_exprs (over_exprs n ms) ps ≡ over_exprs n (longer ps ms)
exprs_again (EnumerateCollection x) ms ps =
    ap (λ m. EnumerateCollection (with_filter x m)) (maybe_again x.filter ms ps).0
exprs_again (Index x index es l ordered) ms ps = index_again x index es l ordered ms ps
exprs_again (EnumerateList x e) ms ps = ap (EnumerateList x) (first_again e ms ps)
exprs_again (Traversal w e colls prune keep) ms ps = traversal_again w e colls prune keep ms ps
exprs_again (Calculation x e) ms ps = ap (Calculation x) (first_again e ms ps)
exprs_again (Subquery x s) ms ps = refl
exprs_again (Filter e) ms ps = ap Filter (first_again e ms ps)
exprs_again (Sort directions es n) ms ps = ap (λ ds. Sort directions ds n) (list_again es ms ps).0
exprs_again (Limit offset most) ms ps = refl
exprs_again (Collect xs es gs i s) ms ps = collect_again xs es gs i s ms ps
exprs_again (Return distinct e) ms ps = ap (Return distinct) (first_again e ms ps)
exprs_again NoResults ms ps = refl
exprs_again (Scatter coll only) ms ps = refl
exprs_again (Distribute coll es) ms ps = ap (Distribute coll) (list_again es ms ps).0
exprs_again Remote ms ps = refl
exprs_again (Gather directions es) ms ps = ap (Gather directions) (list_again es ms ps).0
