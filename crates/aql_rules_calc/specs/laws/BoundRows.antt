-- Rows with one variable more, whose value depends on no variable that a node sets: the node makes of them
-- the same rows as of those without it, again with this variable.
use Rattle.std.proofs.Common.{◌≡◌, ◌∙◌, ℕ, List, [], ◌∷◌, ◌++◌, map, Bool, true, false, true≢false, refl, ap, sym, subst}
use mathlib.Core.Path.{fun_ext}
use Rattle.std.specs.Prelude.{Option, Some, None, ◌||◌, filter, option_to_list}
use Rattle.std.specs.List.{AllZip, AllByRecursion}
use Rattle.std.proofs.lemmas.Bool.{or_parts}
use Rattle.aql_value.specs.Datum.{Datum, null, boolean}
use Rattle.aql_value.specs.Truth.{truth}
use Rattle.aql_value.specs.Contents.{elements}
use Rattle.aql_value.specs.laws.Alls.{all_parts}
use Rattle.aql_func.specs.Objects.{id_text}
use Rattle.aql_tree.specs.declared.syntax.Ident.{Ident}
use Rattle.aql_tree.specs.Tree.{TraversalShape, ExprTree, ExprTrees, MaybeExpr, no_expr, one_expr}
use Rattle.aql_meaning.specs.AtRows.{value_of, values_of, keys_of, passes, stops}
use Rattle.aql_meaning.specs.Clauses.{with_each, Sorts, first_rows}
use Rattle.aql_meaning.specs.Documents.{projection, documents_kept}
use Rattle.aql_meaning.specs.Paths.{Path, TraversesFrom, TraversesPaths, with_paths, long_paths, path_row, path_value, vertex_of, end_of, last_edge}
use Rattle.aql_meaning.specs.Row.{Row, bind, bind_maybe, same_ident}
use Rattle.aql_meaning.specs.Uses.{Uses, uses, all_uses, maybe_uses, used_variable, is_used}
use Rattle.aql_meaning.specs.Value.{value_or}
use Rattle.aql_meaning.specs.laws.Agrees.{value_same, values_same}
use Rattle.aql_meaning.specs.laws.Rows.{binds_swap}
use Rattle.aql_meaning.specs.laws.RowByRow.{each_related, each_own_related}
use Rattle.aql_meaning.specs.laws.Shuffles.{alike_permutation}
use Rattle.aql_plan.specs.Plan.{Node, EnumerateCollection, EnumerateList, Traversal, Sort}
use Rattle.aql_plan.specs.Needs.{sets, own_uses}
use Rattle.aql_plan.specs.Runs.{Dataset, Outside, read, edges_in, Gives}
use Rattle.aql_meaning.specs.laws.Idents.{same_is, same_apart}
use Rattle.aql_plan_laws.specs.laws.Lists.{map_equal, filter_related}
use Rattle.aql_plan_laws.specs.laws.NodesAlike.{first_related}
use Rattle.aql_plan_laws.specs.laws.SortsAlike.{sorted_alike}
use Rattle.aql_rules_calc.specs.MoveCalculationsUp.{enumerates_or_sorts}
use Rattle.aql_rewrite.specs.laws.Unused.{agree_unused}

-- g is the row with x, which has one of the values that V allows at the row
abbrev pub Bound : Ident → (Row → Datum → Type 0) → Row → Row → Type 0
Bound x V row g = (v : Datum) × V row v × (g ≡ bind x row v)

-- another variable, which no value of V depends on
abbrev pub IsFree : Ident → (Row → Datum → Type 0) → Ident → Type 0
IsFree x V y = (same_ident x y ≡ false)
    × ((row : Row) (v d : Datum) → V row v → V (bind y row d) v)

module _ (x : Ident) (V : Row → Datum → Type 0) where
  -- the row with x stands first
  abbrev More : Row → Row → Type 0
  More g row = Bound x V row g

  binds_more : (y : Ident) → IsFree x V y → (g row : Row) (d : Datum) → More g row
      → More (bind y g d) (bind y row d)
  binds_more y free g row d h = (
    h.0,
    free.1 row h.0 d h.1,
    ap (λ (r : Row). bind y r d) h.2 ∙ binds_swap y x row d h.0 (same_apart x y free.0),
  )

  maybe_more : (y : Option Ident) → AllByRecursion (IsFree x V) (option_to_list y) → (g row : Row) (d : Datum)
      → More g row → More (bind_maybe y g d) (bind_maybe y row d)
  maybe_more None free g row d h = h
  maybe_more (Some y) free g row d h = binds_more y free.0 g row d h

  -- expressions that don't use x have the same values
  value_more : (e : ExprTree) → is_used x (uses e) ≡ false → (g row : Row) → More g row
      → value_of e g ≡ value_of e row
  value_more e h g row k = ap (value_of e) k.2
      ∙ sym (value_same e null row (bind x row k.0) (agree_unused (uses e) x row k.0 h))

  keys_more : (es : ExprTrees) → is_used x (all_uses es) ≡ false → (g row : Row) → More g row
      → keys_of es g ≡ keys_of es row
  keys_more es h g row k = ap (keys_of es) k.2
      ∙ sym (values_same es null row (bind x row k.0) (agree_unused (all_uses es) x row k.0 h))

  or_more : (e : MaybeExpr) (d : Datum) → is_used x (maybe_uses e) ≡ false → (g row : Row) → More g row
      → value_or e null g d ≡ value_or e null row d
  or_more no_expr d h g row k = refl
  or_more (one_expr e) d h g row k = value_more e h g row k

  passes_more : (e : MaybeExpr) → is_used x (maybe_uses e) ≡ false → (g row : Row) → More g row
      → passes e g ≡ passes e row
  passes_more e h g row k = ap truth (or_more e (boolean true) h g row k)

  stops_more : (e : MaybeExpr) → is_used x (maybe_uses e) ≡ false → (g row : Row) → More g row
      → stops e g ≡ stops e row
  stops_more e h g row k = ap truth (or_more e (boolean false) h g row k)

  values_more : (e : ExprTree) → is_used x (uses e) ≡ false → (ins rows : List Row) → AllZip More ins rows
      → values_of e ins ≡ values_of e rows
  values_more e h ins rows k = map_equal More (value_of e) (value_of e) (value_more e h) ins rows k

  -- ---- traversals

  module _ (w : Dataset) (shape : TraversalShape) (colls : List ℕ) (free : IsFree x V shape.vertex)
      (edge_free : AllByRecursion (IsFree x V) (option_to_list shape.edge))
      (path_free : AllByRecursion (IsFree x V) (option_to_list shape.path)) where
    path_more : (g row : Row) → More g row → (t : Path)
        → More (path_row w.db shape g t) (path_row w.db shape row t)
    path_more g row h t =
        maybe_more shape.path path_free _ _ (path_value w.db t)
        (maybe_more shape.edge edge_free _ _ (last_edge t.steps)
        (binds_more shape.vertex free g row (vertex_of w.db (end_of t)) h))

    walks_more : (prune : MaybeExpr) → is_used x (maybe_uses prune) ≡ false → (ins rows : List Row)
        → (starts : List Datum) (paths : List (List Path)) → AllZip More ins rows
        → TraversesPaths w.db shape (edges_in w.db colls) (stops prune) ins starts paths
        → TraversesPaths w.db shape (edges_in w.db colls) (stops prune) rows starts paths
    walks_more prune u [] [] starts paths h g = g
    walks_more prune u [] (r ∷ rows) starts paths h g = absurd h
    walks_more prune u (s ∷ ins) [] starts paths h g = absurd h
    walks_more prune u (s ∷ ins) (r ∷ rows) [] paths h g = g
    walks_more prune u (s ∷ ins) (r ∷ rows) (v ∷ starts) [] h g = absurd g
    walks_more prune u (s ∷ ins) (r ∷ rows) (v ∷ starts) (walked ∷ paths) h g = (
      subst (λ (pruned : Path → Bool). TraversesFrom shape (edges_in w.db colls) pruned (id_text v) walked)
          (fun_ext (λ t. stops_more prune u (path_row w.db shape s t) (path_row w.db shape r t)
          (path_more s r h.0 t))) g.0,
      walks_more prune u ins rows starts paths h.1 g.1,
    )

  -- ---- each node

  unused_parts : (us vs : Uses) → is_used x (us ++ vs) ≡ false
      → (is_used x us ≡ false) × (is_used x vs ≡ false)
  unused_parts [] vs h = (refl, h)
  unused_parts (u ∷ us) vs h =
      let k = or_parts (same_ident x (used_variable u)) (is_used x (us ++ vs)) h in
      let l = unused_parts us vs k.1 in
      (ap (λ (b : Bool). b || is_used x us) k.0 ∙ l.0, l.1)

  pub gives_bound : (n : Node) → enumerates_or_sorts n ≡ true → AllByRecursion (IsFree x V) (sets n)
      → is_used x (own_uses n) ≡ false → (w : Dataset) (start : Row) (ins rows out : List Row)
      → AllZip More ins rows → Gives n w Outside start ins out
      → (other : List Row) × Gives n w Outside start rows other × AllZip More out other
  gives_bound (EnumerateCollection y) o free u w start ins rows out h g =
      let kept : Row → List Datum
      = λ row. documents_kept y.var (passes y.filter) y.attrs row (read w y.coll y.shard Outside) in
      alike_permutation More (with_each (bind y.var) ins (map kept ins)) out
      (with_each (bind y.var) rows (map kept rows)) g
      (each_own_related More More (bind y.var) (bind y.var)
      (λ s r d k. binds_more y.var free.0 s r d k) kept kept
      (λ s r k. ap (λ (pass : Datum → Bool).
      map (projection y.attrs) (filter pass (read w y.coll y.shard Outside)))
      (fun_ext (λ d. passes_more y.filter u (bind y.var s d) (bind y.var r d)
      (binds_more y.var free.0 s r d k)))) ins rows h)
  gives_bound (EnumerateList y e) o free u w start ins rows out h g = (
    with_each (bind y) rows (map elements (values_of e rows)),
    refl,
    subst (λ (o : List Row). AllZip More o (with_each (bind y) rows (map elements (values_of e rows))))
        (sym (g ∙ ap (λ (vs : List Datum). with_each (bind y) ins (map elements vs))
        (values_more e u ins rows h)))
        (each_related More More (bind y) (bind y) (λ s r d k. binds_more y free.0 s r d k) ins rows
        (map elements (values_of e rows)) h),
  )
  gives_bound (Traversal shape e colls prune keep) o free u w start ins rows out h g =
      let a = unused_parts (uses e) (maybe_uses prune ++ maybe_uses keep) u in
      let c = unused_parts (maybe_uses prune) (maybe_uses keep) a.1 in
      let edges = all_parts (IsFree x V) (option_to_list shape.edge) (option_to_list shape.path) free.1 in
      let paths = g.1.0 in
      let walks = walks_more w shape colls free.0 edges.0 edges.1 prune c.0 ins rows (values_of e rows)
      paths h
      (subst (λ (vs : List Datum).
      TraversesPaths w.db shape (edges_in w.db colls) (stops prune) ins vs paths)
      (values_more e a.0 ins rows h) g.1.1) in
      let b = alike_permutation More (with_paths w.db shape ins paths) g.0 (with_paths w.db shape rows paths)
      g.1.2
      (each_related More More (path_row w.db shape) (path_row w.db shape)
      (λ s r t k. path_more w shape colls free.0 edges.0 edges.1 s r k t) ins rows
      (map (long_paths shape) paths) h) in (
        filter (passes keep) b.0,
        (b.0, (paths, walks, b.1), refl),
        subst (λ (o : List Row). AllZip More o (filter (passes keep) b.0)) (sym g.2)
            (filter_related More More (passes keep) (passes keep) (passes_more keep c.1) (λ s r k. k)
            g.0 b.0 b.2),
      )
  gives_bound (Sort directions es n) o free u w start ins rows out h g =
      let same = map_equal More (keys_of es) (keys_of es) (keys_more es u) ins rows h in
      let b = sorted_alike More directions (map (keys_of es) rows) ins rows g.0 h
      (subst (λ (keys : List (List Datum)). Sorts directions keys ins g.0) same g.1) in (
        first_rows n b.0,
        (b.0, b.1, refl),
        subst (λ (o : List Row). AllZip More o (first_rows n b.0)) (sym g.2)
            (first_related More n g.0 b.0 b.2),
      )
  gives_bound n o free u w start ins rows out h g = absurd (true≢false (sym o))
