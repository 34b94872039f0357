-- A node over new expressions that stand for the old ones gives the same lists.
use Rattle.std.proofs.Common.{◌≡◌, ◌∙◌, List, [], ◌∷◌, ◌++◌, map, Bool, true, false, refl, ap, ap₂, subst}
use Rattle.std.specs.Prelude.{ℕ, Option, Some, None, filter}
use mathlib.Core.Path.{fun_ext}
use Rattle.aql_value.specs.Datum.{Datum, boolean}
use Rattle.aql_value.specs.Truth.{truth}
use Rattle.aql_tree.specs.declared.syntax.Ident.{Ident}
use Rattle.aql_tree.specs.Tree.{ExprTree, ExprTrees, MaybeExpr}
use Rattle.aql_tree.specs.Tree.{AggregateTrees, no_aggregates, aggregate_then, IntoTree}
use Rattle.aql_meaning.specs.declared.grouping.Stage.TheVariants as stage
use Rattle.aql_meaning.specs.Row.{Row}
use Rattle.aql_meaning.specs.Uses.{Uses}
use Rattle.aql_meaning.specs.AtRows.{value_of, values_of, keys_of, passes, stops}
use Rattle.aql_meaning.specs.Clauses.{with_elements, filter_true, with_values, return_values, Sorts}
use Rattle.aql_meaning.specs.Documents.{Last, last_map, in_bounds, Scanned, ScannedInOrder}
use Rattle.aql_meaning.specs.Groups.{GroupedRow, Collects, aggregate_of}
use Rattle.aql_meaning.specs.Paths.{Traverses}
use Rattle.aql_meaning.specs.Stages.{grouped_row_at, Grouped}
use Rattle.aql_meaning.specs.Visible.{aggregate_vars, functions_by, into_var}
use Rattle.aql_plan.specs.declared.facts.Facts.{Facts}
use Rattle.aql_plan.specs.Facts.{attributes_in}
use Rattle.aql_plan.specs.Plan.{Reading, Plan, Over, Node, EnumerateCollection, Index, EnumerateList, Traversal, Calculation, Subquery, Filter, Sort, Limit, Collect, Return, NoResults, Scatter, Distribute, Remote, Gather}
use Rattle.aql_plan.specs.Refines.{dataset, RefinesFor}
use Rattle.aql_plan.specs.Runs.{Dataset, Site, Outside, read, read_in_bounds, edges_in, result_row, Gives}
use Rattle.aql_plan.specs.Shapes.{IsNoFragment}
use Rattle.aql_plan_laws.specs.laws.Agreement.{rows_agree}
use Rattle.aql_rewrite.specs.Children.{list_children, maybe_children}
use Rattle.aql_rewrite.specs.OverChildren.{first_or, after_first, over_list, over_maybe, after_maybe}
use Rattle.aql_rewrite.specs.laws.Related.{rest_related, after_maybe_related}
use Rattle.aql_rewrite.specs.NodeExprs.{last_exprs, aggregate_exprs, into_exprs, node_exprs, after_list, over_last, after_last, over_aggregates, after_aggregates, over_into, over_exprs}
use Rattle.aql_passes.specs.laws.Standing.{StandsFor, AllStand, alone}
use Rattle.aql_passes.specs.laws.ExprsLeft.{after_list_left, after_last_left, after_aggregates_left}
use Rattle.aql_passes.specs.laws.SameValues.{same_value, same_maybe, same_list, same_last, same_arguments, same_taken}
use Rattle.aql_passes.specs.laws.StillFound.{same_aggregate_vars, same_into_var}

-- ---- equal as functions of the row

value_equal : (e : ExprTree) (fs ps : List ExprTree) → AllStand (e ∷ fs) ps
    → value_of (first_or e ps) ≡ value_of e
value_equal e fs ps h = fun_ext (same_value e fs ps h)

passes_equal : (e : MaybeExpr) (fs ps : List ExprTree) → AllStand (maybe_children e ++ fs) ps
    → passes (over_maybe e ps) ≡ passes e
passes_equal e fs ps h = fun_ext (λ row. ap truth (same_maybe e fs ps h row (boolean true)))

stops_equal : (e : MaybeExpr) (fs ps : List ExprTree) → AllStand (maybe_children e ++ fs) ps
    → stops (over_maybe e ps) ≡ stops e
stops_equal e fs ps h = fun_ext (λ row. ap truth (same_maybe e fs ps h row (boolean false)))

keys_equal : (es : ExprTrees) (fs ps : List ExprTree) → AllStand (list_children es ++ fs) ps
    → keys_of (over_list es ps) ≡ keys_of es
keys_equal es fs ps h = fun_ext (same_list es fs ps h)

-- ---- an index

bounds_equal : (w : Dataset) (place : Site) (x : Reading) (index : ℕ) (equal : ExprTrees)
    (last : Last ExprTree) (ps qs : List ExprTree)
    → ((row : Row) → keys_of (over_list equal ps) row ≡ keys_of equal row)
    → ((row : Row) → last_map (λ d. value_of d row) (over_last last qs) ≡ last_map (λ d. value_of d row) last)
    → read_in_bounds w place x index (over_list equal ps) (over_last last qs)
    ≡ read_in_bounds w place x index equal last
bounds_equal w place x index equal last ps qs h k = fun_ext (λ row. ap₂
    (λ keys bound. filter (in_bounds (attributes_in w.facts x.coll index) keys bound)
    (read w x.coll x.shard place)) (h row) (k row))

-- ---- groups

same_functions : (f : List ℕ → List Datum → Datum) (gs : AggregateTrees) (ps : List ExprTree)
    → functions_by f (over_aggregates gs ps) ≡ functions_by f gs
same_functions f no_aggregates ps = refl
same_functions f (aggregate_then x name e rest) ps =
    ap (λ fs. f name ∷ fs) (same_functions f rest (after_maybe e ps))

grouped_same : (xs : List Ident) (es : ExprTrees) (gs : AggregateTrees) (i : IntoTree) (ps : List ExprTree)
    → AllStand (list_children es ++ (aggregate_exprs gs ++ into_exprs i)) ps
    → (start : Row) (rows out : List Row)
    → Grouped xs (over_list es ps) (over_aggregates gs (after_list es ps))
    (over_into i (after_aggregates gs (after_list es ps))) stage.Whole start rows out
    → Grouped xs es gs i stage.Whole start rows out
grouped_same xs es gs i ps h start rows out g =
    let qs = after_list es ps in
    let k = after_list_left StandsFor es (aggregate_exprs gs ++ into_exprs i) ps h in
    let rs = after_aggregates gs qs in
    let l = alone StandsFor (into_exprs i) rs (after_aggregates_left StandsFor gs (into_exprs i) qs k) in
    let vars = same_aggregate_vars gs qs in
    let functions = same_functions aggregate_of gs qs in
    let into = same_into_var i rs in
    let at_row : grouped_row_at stage.Whole xs (over_list es ps) (over_aggregates gs qs) (over_into i rs)
    ≡ grouped_row_at stage.Whole xs es gs i =
    fun_ext (λ row j. record {
      criteria = same_list es (aggregate_exprs gs ++ into_exprs i) ps h row j;
      arguments = same_arguments gs (into_exprs i) qs k row j;
      into_value = same_taken i [] rs l row j;
    }) in
    subst (λ (f : Row → GroupedRow). Collects xs (aggregate_vars gs) (functions_by aggregate_of gs)
    (into_var i) start (map f rows) out) at_row
    (subst (λ (o : Option Ident). Collects xs (aggregate_vars gs) (functions_by aggregate_of gs) o start
    (map (grouped_row_at stage.Whole xs (over_list es ps) (over_aggregates gs qs) (over_into i rs)) rows) out)
    into
    (subst (λ (fs : List (List Datum → Datum)). Collects xs (aggregate_vars gs) fs
    (into_var (over_into i rs)) start
    (map (grouped_row_at stage.Whole xs (over_list es ps) (over_aggregates gs qs) (over_into i rs)) rows) out)
    functions
    (subst (λ (ys : List Ident). Collects xs ys (functions_by aggregate_of (over_aggregates gs qs))
    (into_var (over_into i rs)) start
    (map (grouped_row_at stage.Whole xs (over_list es ps) (over_aggregates gs qs) (over_into i rs)) rows) out)
    vars g)))

-- ---- nodes

module _ (w : Dataset) (place : Site) (start : Row) (rows out : List Row) where
  scan_same : (x : Reading) (qs : List ExprTree) (documents others : Row → List Datum)
      → passes (over_maybe x.filter qs) ≡ passes x.filter → others ≡ documents
      → Scanned x.var (passes (over_maybe x.filter qs)) x.attrs others rows out
      → Scanned x.var (passes x.filter) x.attrs documents rows out
  scan_same x qs documents others e d g = subst
      (λ (f : Row → Bool). Scanned x.var f x.attrs documents rows out) e
      (subst (λ (f : Row → List Datum). Scanned x.var (passes (over_maybe x.filter qs)) x.attrs f rows out)
      d g)

  order_same : (x : Reading) (names : List (List ℕ)) (descending : Bool) (qs : List ExprTree)
      (documents others : Row → List Datum)
      → passes (over_maybe x.filter qs) ≡ passes x.filter → others ≡ documents
      → ScannedInOrder names descending x.var (passes (over_maybe x.filter qs)) x.attrs others rows out
      → ScannedInOrder names descending x.var (passes x.filter) x.attrs documents rows out
  order_same x names descending qs documents others e d g = subst
      (λ (f : Row → Bool). ScannedInOrder names descending x.var f x.attrs documents rows out) e
      (subst (λ (f : Row → List Datum).
      ScannedInOrder names descending x.var (passes (over_maybe x.filter qs)) x.attrs f rows out) d g)

  index_passes : (x : Reading) (equal : ExprTrees) (last : Last ExprTree) (ps : List ExprTree)
      → AllStand (list_children equal ++ (last_exprs last ++ maybe_children x.filter)) ps
      → passes (over_maybe x.filter (after_last last (after_list equal ps))) ≡ passes x.filter
  index_passes x equal last ps h =
      let filters = maybe_children x.filter in
      let qs = after_list equal ps in
      let rs = after_last last qs in
      passes_equal x.filter [] rs (alone StandsFor filters rs (after_last_left StandsFor last filters qs
      (after_list_left StandsFor equal (last_exprs last ++ filters) ps h)))

  index_bounds : (x : Reading) (index : ℕ) (equal : ExprTrees) (last : Last ExprTree) (ps : List ExprTree)
      → AllStand (list_children equal ++ (last_exprs last ++ maybe_children x.filter)) ps
      → read_in_bounds w place x index (over_list equal ps) (over_last last (after_list equal ps))
      ≡ read_in_bounds w place x index equal last
  index_bounds x index equal last ps h =
      let filters = maybe_children x.filter in
      let qs = after_list equal ps in
      bounds_equal w place x index equal last ps qs (same_list equal (last_exprs last ++ filters) ps h)
      (same_last last filters qs (after_list_left StandsFor equal (last_exprs last ++ filters) ps h))

  index_same : (x : Reading) (index : ℕ) (equal : ExprTrees) (last : Last ExprTree) (ordered : Option Bool)
      (ps : List ExprTree) → AllStand (list_children equal ++ (last_exprs last ++ maybe_children x.filter)) ps
      → Gives (over_exprs (Index x index equal last ordered) ps) w place start rows out
      → Gives (Index x index equal last ordered) w place start rows out
  index_same x index equal last None ps h g =
      let qs = after_list equal ps in
      scan_same x (after_last last qs) (read_in_bounds w place x index equal last)
      (read_in_bounds w place x index (over_list equal ps) (over_last last qs))
      (index_passes x equal last ps h) (index_bounds x index equal last ps h) g
  index_same x index equal last (Some descending) ps h g =
      let qs = after_list equal ps in
      order_same x (attributes_in w.facts x.coll index) descending (after_last last qs)
      (read_in_bounds w place x index equal last)
      (read_in_bounds w place x index (over_list equal ps) (over_last last qs))
      (index_passes x equal last ps h) (index_bounds x index equal last ps h) g

  pub gives_same : (n : Node) (ps : List ExprTree) → AllStand (node_exprs n) ps → IsNoFragment n
      → Gives (over_exprs n ps) w place start rows out → Gives n w place start rows out
  gives_same (EnumerateCollection x) ps h i g = scan_same x ps (λ row. read w x.coll x.shard place)
      (λ row. read w x.coll x.shard place)
      (passes_equal x.filter [] ps (alone StandsFor (maybe_children x.filter) ps h)) refl g
  gives_same (Index x index equal last ordered) ps h i g = index_same x index equal last ordered ps h g
  gives_same (EnumerateList x e) ps h i g =
      g ∙ ap (λ (f : Row → Datum). with_elements x rows (map f rows)) (value_equal e [] ps h)
  gives_same (Traversal shape e colls prune keep) ps h i g =
      let others = maybe_children prune ++ maybe_children keep in
      let qs = after_first ps in
      let k = rest_related StandsFor e others ps h in
      let rs = after_maybe prune qs in
      let l = alone StandsFor (maybe_children keep) rs
      (after_maybe_related StandsFor prune (maybe_children keep) qs k) in (
        g.0,
        subst (λ (f : Row → Bool). Traverses w.db shape (edges_in w.db colls) f rows (values_of e rows) g.0)
            (stops_equal prune (maybe_children keep) qs k)
            (subst (λ (f : Row → Datum). Traverses w.db shape (edges_in w.db colls)
            (stops (over_maybe prune qs)) rows (map f rows) g.0) (value_equal e others ps h) g.1),
        g.2 ∙ ap (λ (f : Row → Bool). filter f g.0) (passes_equal keep [] rs l),
      )
  gives_same (Calculation x e) ps h i g =
      g ∙ ap (λ (f : Row → Datum). with_values x rows (map f rows)) (value_equal e [] ps h)
  gives_same (Subquery x s) ps h i g = g
  gives_same (Filter e) ps h i g =
      g ∙ ap (λ (f : Row → Datum). filter_true rows (map f rows)) (value_equal e [] ps h)
  gives_same (Sort directions es n) ps h i g = (
    g.0,
    subst (λ (f : Row → List Datum). Sorts directions (map f rows) rows g.0)
        (keys_equal es [] ps (alone StandsFor (list_children es) ps h)) g.1,
    g.2,
  )
  gives_same (Limit offset count) ps h i g = g
  gives_same (Collect xs es gs j stage.Whole) ps h i g = grouped_same xs es gs j ps h start rows out g
  gives_same (Collect xs es gs j stage.Partial) ps h i g = absurd i
  gives_same (Collect xs es gs j stage.Final) ps h i g = absurd i
  gives_same (Return distinct e) ps h i g =
      g ∙ ap (λ (f : Row → Datum). map result_row (return_values distinct (map f rows)))
      (value_equal e [] ps h)
  gives_same NoResults ps h i g = g
  gives_same (Scatter coll only) ps h i g = absurd i
  gives_same (Distribute coll es) ps h i g = absurd i
  gives_same Remote ps h i g = g
  gives_same (Gather directions es) ps h i g = absurd i

-- so the plan over it refines the plan over the old one
pub exprs_refine : (us : Uses) (facts : Facts) (b : Plan) (n : Node) (ps : List ExprTree)
    → AllStand (node_exprs n) ps → IsNoFragment n
    → RefinesFor us facts (Over b (over_exprs n ps)) (Over b n)
exprs_refine us facts b n ps h i = by n h i
  where
    by : (n : Node) → AllStand (node_exprs n) ps → IsNoFragment n
        → RefinesFor us facts (Over b (over_exprs n ps)) (Over b n)
    by NoResults h i db meets start out g = (out, g, rows_agree us out)
    by (Scatter coll only) h i db meets start out g = absurd i
    by (Distribute coll es) h i db meets start out g = absurd i
    by (Gather directions es) h i db meets start out g = absurd i
    by n h i db meets start out g = (
      out,
      (g.0, g.1, gives_same (dataset facts db) Outside start g.0 out n ps h i g.2),
      rows_agree us out,
    )
