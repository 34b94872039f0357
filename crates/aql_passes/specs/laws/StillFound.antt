-- A node over new expressions that stand for the old ones sets the same variables, and what it uses is still
-- there.
use Rattle.std.proofs.Common.{◌≡◌, List, [], ◌∷◌, ◌++◌, map, Bool, true, false, refl, sym, ap, ap₂, subst}
use Rattle.std.specs.Prelude.{Option, Some, None, ◌||◌, option_to_list}
use Rattle.std.proofs.lemmas.Bool.{or_left, or_right}
use Rattle.aql_tree.specs.declared.syntax.Ident.{Ident}
use Rattle.aql_tree.specs.Tree.{ExprTree, ExprTrees, no_exprs, expr_then, MaybeExpr, no_expr, one_expr}
use Rattle.aql_tree.specs.Tree.{AggregateTrees, no_aggregates, aggregate_then, IntoTree, no_into, into}
use Rattle.aql_meaning.specs.Row.{same_ident}
use Rattle.aql_meaning.specs.Uses.{Use, Uses, used_variable, uses, all_uses, maybe_uses, aggregate_uses, into_uses}
use Rattle.aql_meaning.specs.Visible.{aggregate_vars, into_var}
use Rattle.aql_meaning.specs.Documents.{End, Last, no_last, one_of, between}
use Rattle.aql_meaning.specs.declared.grouping.Stage.TheVariants as stage
use Rattle.aql_plan.specs.Plan.{Plan, Over, Node, EnumerateCollection, Index, EnumerateList, Traversal, Calculation, Subquery, Filter, Sort, Limit, Collect, Return, NoResults, Scatter, Distribute, Remote, Gather}
use Rattle.aql_plan.specs.Needs.{sets, end_uses, last_uses}
use Rattle.aql_plan.specs.Shapes.{IsNoFragment}
use Rattle.aql_plan.specs.Variables.{filter_uses, input_uses, vars_of, are_among, FindsAll, FindsInside, set_once}
use Rattle.aql_meaning.specs.laws.Idents.{same_is, same_self}
use Rattle.aql_rewrite.specs.Children.{list_children, maybe_children}
use Rattle.aql_rewrite.specs.OverChildren.{first_or, after_first, over_list, over_maybe, after_maybe}
use Rattle.aql_rewrite.specs.laws.Related.{rest_related, after_maybe_related}
use Rattle.aql_rewrite.specs.NodeExprs.{end_exprs, last_exprs, aggregate_exprs, into_exprs, node_exprs, after_list, over_end, after_end, over_last, after_last, over_aggregates, after_aggregates, over_into, over_exprs}
use Rattle.aql_rewrite.specs.laws.Among.{has, both, and_true, Within, among_split, among_join}
use Rattle.aql_passes.specs.laws.Standing.{StandsFor, AllStand, first_stands, alone, regrouped}
use Rattle.aql_passes.specs.laws.ExprsLeft.{after_list_left, after_end_left, after_last_left, after_aggregates_left}

-- ---- what is used is among these variables exactly where each used variable is

among_first : (x : Ident) (u : Use) (us : Uses) (xs : List Ident) (b : Bool)
    → same_ident x (used_variable u) ≡ b → has (used_variable u) xs ≡ true
    → (has x (map used_variable us) ≡ true → has x xs ≡ true)
    → (b || has x (map used_variable us)) ≡ true → has x xs ≡ true
among_first x u us xs true e h f k =
    subst (λ (y : Ident). has y xs ≡ true) (sym (same_is x (used_variable u) e)) h
among_first x u us xs false e h f k = f k

among_has : (us : Uses) (xs : List Ident) → are_among us xs ≡ true → Within (map used_variable us) xs
among_has [] xs h x k = cc
among_has (u ∷ us) xs h x k =
    let l = both (has (used_variable u) xs) (are_among us xs) h in
    among_first x u us xs (same_ident x (used_variable u)) refl l.0 (among_has us xs l.1 x) k

has_among : (us : Uses) (xs : List Ident) → Within (map used_variable us) xs → are_among us xs ≡ true
has_among [] xs w = refl
has_among (u ∷ us) xs w =
    let x = used_variable u in
    and_true (has x xs) (are_among us xs)
    (w x (or_left (same_ident x x) (has x (map used_variable us)) (same_self x)))
    (has_among us xs (λ y h. w y (or_right (same_ident y x) (has y (map used_variable us)) h)))

-- ---- parts of nodes

module _ (xs : List Ident) where
  abbrev Found : Uses → Type 0
  Found us = are_among us xs ≡ true

  found_expr : (e : ExprTree) (fs ps : List ExprTree) → AllStand (e ∷ fs) ps → Found (uses e)
      → Found (uses (first_or e ps))
  found_expr e fs ps h f = has_among (uses (first_or e ps)) xs
      (λ x k. among_has (uses e) xs f x ((first_stands e fs ps h).variables x k))

  found_maybe : (e : MaybeExpr) (fs ps : List ExprTree) → AllStand (maybe_children e ++ fs) ps
      → Found (maybe_uses e) → Found (maybe_uses (over_maybe e ps))
  found_maybe no_expr fs ps h f = f
  found_maybe (one_expr e) fs ps h f = found_expr e fs ps h f

  found_list : (es : ExprTrees) (fs ps : List ExprTree) → AllStand (list_children es ++ fs) ps
      → Found (all_uses es) → Found (all_uses (over_list es ps))
  found_list no_exprs fs ps h f = f
  found_list (expr_then e es) fs ps h f =
      let g = among_split (uses e) (all_uses es) xs f in
      among_join (uses (first_or e ps)) (all_uses (over_list es (after_first ps))) xs
      (found_expr e (list_children es ++ fs) ps h g.0)
      (found_list es fs (after_first ps) (rest_related StandsFor e (list_children es ++ fs) ps h) g.1)

  found_end : (e : Option (End ExprTree)) (fs ps : List ExprTree) → AllStand (end_exprs e ++ fs) ps
      → Found (end_uses e) → Found (end_uses (over_end e ps))
  found_end None fs ps h f = f
  found_end (Some e) fs ps h f = found_expr e.limit fs ps h f

  found_last : (l : Last ExprTree) (fs ps : List ExprTree) → AllStand (last_exprs l ++ fs) ps
      → Found (last_uses l) → Found (last_uses (over_last l ps))
  found_last no_last fs ps h f = f
  found_last (one_of e) fs ps h f = found_expr e fs ps h f
  found_last (between low high) fs ps h f =
      let k = regrouped StandsFor (end_exprs low) (end_exprs high) fs ps h in
      let g = among_split (end_uses low) (end_uses high) xs f in
      among_join (end_uses (over_end low ps)) (end_uses (over_end high (after_end low ps))) xs
      (found_end low (end_exprs high ++ fs) ps k g.0)
      (found_end high fs (after_end low ps) (after_end_left StandsFor low (end_exprs high ++ fs) ps k) g.1)

  found_aggregates : (gs : AggregateTrees) (fs ps : List ExprTree) → AllStand (aggregate_exprs gs ++ fs) ps
      → Found (aggregate_uses gs) → Found (aggregate_uses (over_aggregates gs ps))
  found_aggregates no_aggregates fs ps h f = f
  found_aggregates (aggregate_then x name e rest) fs ps h f =
      let k = regrouped StandsFor (maybe_children e) (aggregate_exprs rest) fs ps h in
      let g = among_split (maybe_uses e) (aggregate_uses rest) xs f in
      among_join (maybe_uses (over_maybe e ps)) (aggregate_uses (over_aggregates rest (after_maybe e ps))) xs
      (found_maybe e (aggregate_exprs rest ++ fs) ps k g.0)
      (found_aggregates rest fs (after_maybe e ps)
      (after_maybe_related StandsFor e (aggregate_exprs rest ++ fs) ps k) g.1)

  found_into : (i : IntoTree) (fs ps : List ExprTree) → AllStand (into_exprs i ++ fs) ps
      → Found (into_uses i) → Found (into_uses (over_into i ps))
  found_into no_into fs ps h f = f
  found_into (into x what keep) fs ps h f = found_maybe what fs ps h f

  -- ---- nodes

  found_input : (n : Node) (ps : List ExprTree) → AllStand (node_exprs n) ps → IsNoFragment n
      → Found (input_uses n) → Found (input_uses (over_exprs n ps))
  found_input (EnumerateCollection x) ps h i f = f
  found_input (Index x index equal last ordered) ps h i f =
      let filters = maybe_children x.filter in
      let qs = after_list equal ps in
      let g = among_split (all_uses equal) (last_uses last) xs f in
      among_join (all_uses (over_list equal ps)) (last_uses (over_last last qs)) xs
      (found_list equal (last_exprs last ++ filters) ps h g.0)
      (found_last last filters qs (after_list_left StandsFor equal (last_exprs last ++ filters) ps h) g.1)
  found_input (EnumerateList x e) ps h i f = found_expr e [] ps h f
  found_input (Traversal w e colls prune keep) ps h i f =
      found_expr e (maybe_children prune ++ maybe_children keep) ps h f
  found_input (Calculation x e) ps h i f = found_expr e [] ps h f
  found_input (Subquery x s) ps h i f = f
  found_input (Filter e) ps h i f = found_expr e [] ps h f
  found_input (Sort directions es n) ps h i f =
      found_list es [] ps (alone StandsFor (list_children es) ps h) f
  found_input (Limit offset count) ps h i f = f
  found_input (Collect ys es gs j stage.Whole) ps h i f =
      let qs = after_list es ps in
      let k = after_list_left StandsFor es (aggregate_exprs gs ++ into_exprs j) ps h in
      let rs = after_aggregates gs qs in
      let l = after_aggregates_left StandsFor gs (into_exprs j) qs k in
      let g = among_split (all_uses es) (aggregate_uses gs ++ into_uses j) xs f in
      let d = among_split (aggregate_uses gs) (into_uses j) xs g.1 in
      among_join (all_uses (over_list es ps)) (aggregate_uses (over_aggregates gs qs)
      ++ into_uses (over_into j rs)) xs
      (found_list es (aggregate_exprs gs ++ into_exprs j) ps h g.0)
      (among_join (aggregate_uses (over_aggregates gs qs)) (into_uses (over_into j rs)) xs
      (found_aggregates gs (into_exprs j) qs k d.0)
      (found_into j [] rs (alone StandsFor (into_exprs j) rs l) d.1))
  found_input (Collect ys es gs j stage.Partial) ps h i f = absurd i
  found_input (Collect ys es gs j stage.Final) ps h i f = absurd i
  found_input (Return distinct e) ps h i f = found_expr e [] ps h f
  found_input NoResults ps h i f = f
  found_input (Scatter coll only) ps h i f = absurd i
  found_input (Distribute coll es) ps h i f = absurd i
  found_input Remote ps h i f = absurd i
  found_input (Gather directions es) ps h i f = absurd i

  found_filter : (n : Node) (ps : List ExprTree) → AllStand (node_exprs n) ps
      → Found (filter_uses n) → Found (filter_uses (over_exprs n ps))
  found_filter (EnumerateCollection x) ps h f =
      found_maybe x.filter [] ps (alone StandsFor (maybe_children x.filter) ps h) f
  found_filter (Index x index equal last ordered) ps h f =
      let filters = maybe_children x.filter in
      let qs = after_list equal ps in
      let rs = after_last last qs in
      let k = after_list_left StandsFor equal (last_exprs last ++ filters) ps h in
      let l = after_last_left StandsFor last filters qs k in
      found_maybe x.filter [] rs (alone StandsFor filters rs l) f
  found_filter (Traversal w e colls prune keep) ps h f =
      let qs = after_first ps in
      let k = rest_related StandsFor e (maybe_children prune ++ maybe_children keep) ps h in
      let rs = after_maybe prune qs in
      let l = after_maybe_related StandsFor prune (maybe_children keep) qs k in
      let g = among_split (maybe_uses prune) (maybe_uses keep) xs f in
      among_join (maybe_uses (over_maybe prune qs)) (maybe_uses (over_maybe keep rs)) xs
      (found_maybe prune (maybe_children keep) qs k g.0)
      (found_maybe keep [] rs (alone StandsFor (maybe_children keep) rs l) g.1)
  found_filter n ps h f = f

-- ---- what a node sets

pub same_aggregate_vars : (gs : AggregateTrees) (ps : List ExprTree)
    → aggregate_vars (over_aggregates gs ps) ≡ aggregate_vars gs
same_aggregate_vars no_aggregates ps = refl
same_aggregate_vars (aggregate_then x name e rest) ps =
    ap (λ ys. x ∷ ys) (same_aggregate_vars rest (after_maybe e ps))

pub same_into_var : (i : IntoTree) (ps : List ExprTree) → into_var (over_into i ps) ≡ into_var i
same_into_var no_into ps = refl
same_into_var (into x what keep) ps = refl

pub same_sets : (n : Node) (ps : List ExprTree) → sets (over_exprs n ps) ≡ sets n
same_sets (Collect xs es gs i s) ps =
    let qs = after_list es ps in
    ap₂ (λ ys o. xs ++ (ys ++ option_to_list o)) (same_aggregate_vars gs qs)
    (same_into_var i (after_aggregates gs qs))
same_sets n ps = refl

pub same_set_once : (n : Node) (ps : List ExprTree) → set_once (over_exprs n ps) ≡ set_once n
same_set_once (Collect xs es gs i stage.Whole) ps = same_sets (Collect xs es gs i stage.Whole) ps
same_set_once (Collect xs es gs i stage.Partial) ps = same_sets (Collect xs es gs i stage.Partial) ps
same_set_once (Collect xs es gs i stage.Final) ps = refl
same_set_once n ps = refl

pub same_vars : (outer : List Ident) (b : Plan) (n : Node) (ps : List ExprTree)
    → vars_of outer (Over b (over_exprs n ps)) ≡ vars_of outer (Over b n)
same_vars outer b (Collect xs es gs i s) ps = ap (λ ys. ys ++ outer) (same_sets (Collect xs es gs i s) ps)
same_vars outer b n ps = refl

same_inside : (outer : List Ident) (n : Node) (ps : List ExprTree)
    → FindsInside outer n → FindsInside outer (over_exprs n ps)
same_inside outer n ps h = by n h
  where
    by : (n : Node) → FindsInside outer n → FindsInside outer (over_exprs n ps)
    by (Subquery x s) k = k
    by n k = tt

pub still_found : (outer : List Ident) (b : Plan) (n : Node) (ps : List ExprTree) → AllStand (node_exprs n) ps
    → IsNoFragment n → FindsAll outer (Over b n) → FindsAll outer (Over b (over_exprs n ps))
still_found outer b n ps h i f = (
  f.0,
  found_input (vars_of outer b) n ps h i f.1,
  subst (λ (ys : List Ident). are_among (filter_uses (over_exprs n ps)) (ys ++ vars_of outer b) ≡ true)
      (sym (same_sets n ps)) (found_filter (sets n ++ vars_of outer b) n ps h f.2),
  same_inside (vars_of outer b) n ps f.3,
)
