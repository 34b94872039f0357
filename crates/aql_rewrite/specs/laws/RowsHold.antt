-- A property of rows that stays where a variable of certain ones is set holds of all rows of a node that sets
-- only such ones, where it holds of the rows of its input. A Collect and a Return make new rows.
use Rattle.std.proofs.Common.{◌≡◌, ℕ, List, [], ◌∷◌, ◌++◌, map, take, drop, Bool, false, true≢false, refl, ap, sym, subst}
use Rattle.std.specs.Prelude.{Option, Some, None, filter, option_to_list}
use Rattle.std.specs.List.{AllZip, AllByRecursion}
use Rattle.aql_value.specs.Datum.{Datum}
use Rattle.aql_value.specs.Contents.{list, elements}
use Rattle.aql_value.specs.laws.Alls.{all_parts}
use Rattle.aql_tree.specs.declared.syntax.Ident.{Ident}
use Rattle.aql_tree.specs.Tree.{TraversalShape, ExprTree, ExprTrees}
use Rattle.aql_meaning.specs.AtRows.{values_of, keys_of, passes}
use Rattle.aql_meaning.specs.Clauses.{with_each, with_values, filter_true, first_rows}
use Rattle.aql_meaning.specs.Documents.{Last, documents_kept}
use Rattle.aql_meaning.specs.Paths.{Path, path_row, path_value, vertex_of, end_of, last_edge, with_paths, long_paths}
use Rattle.aql_meaning.specs.Row.{Row, bind, bind_maybe}
use Rattle.aql_meaning.specs.laws.RowByRow.{each_related}
use Rattle.aql_meaning.specs.laws.Shuffles.{alike_permutation}
use Rattle.aql_plan.specs.Plan.{Reading, Plan, Over, Node, EnumerateCollection, Index, EnumerateList, Traversal, Calculation, Subquery, Filter, Sort, Limit, Collect, Return, NoResults, Scatter, Distribute, Remote, Gather}
use Rattle.aql_plan.specs.Needs.{sets}
use Rattle.aql_plan.specs.Runs.{Dataset, Outside, read, read_in_bounds, Indexed, Runs, result_of}
use Rattle.aql_plan.specs.Shapes.{IsNoFragment}
use Rattle.aql_plan_laws.specs.laws.Lists.{take_related, drop_related, filter_related}
use Rattle.aql_plan_laws.specs.laws.NodesAlike.{kept_related, first_related}
use Rattle.aql_plan_laws.specs.laws.SortsAlike.{sorted_alike}
use Rattle.aql_rewrite.specs.Nodes.{gives_new_rows}

module _ (P : Row → Type 0) where
  -- setting the variable leaves the property
  abbrev pub Leaves : Ident → Type 0
  Leaves y = (row : Row) (d : Datum) → P row → P (bind y row d)

  -- a row beside itself, with the property
  abbrev Holds : Row → Row → Type 0
  Holds r s = P r × (r ≡ s)

  beside : (rows : List Row) → AllByRecursion P rows → AllZip Holds rows rows
  beside [] h = tt
  beside (row ∷ rows) h = ((h.0, refl), beside rows h.1)

  alone : (rows others : List Row) → AllZip Holds rows others → AllByRecursion P rows
  alone [] [] h = tt
  alone [] (s ∷ others) h = absurd h
  alone (r ∷ rows) [] h = absurd h
  alone (r ∷ rows) (s ∷ others) h = (h.0.0, alone rows others h.1)

  set_both : (y : Ident) → Leaves y → (r s : Row) (d : Datum) → Holds r s → Holds (bind y r d) (bind y s d)
  set_both y f r s d h = (f r d h.0, ap (λ (row : Row). bind y row d) h.1)

  set_maybe : (y : Option Ident) → AllByRecursion Leaves (option_to_list y) → (r s : Row) (d : Datum)
      → Holds r s → Holds (bind_maybe y r d) (bind_maybe y s d)
  set_maybe None f r s d h = h
  set_maybe (Some y) f r s d h = set_both y f.0 r s d h

  each_holds : (y : Ident) → Leaves y → (rows : List Row) (lists : List (List Datum)) → AllByRecursion P rows
      → AllZip Holds (with_each (bind y) rows lists) (with_each (bind y) rows lists)
  each_holds y f rows lists h =
      each_related Holds Holds (bind y) (bind y) (set_both y f) rows rows lists (beside rows h)

  indexed_hold : (w : Dataset) (x : Reading) → Leaves x.var → (index : ℕ) (equal : ExprTrees)
      (last : Last ExprTree) (ordered : Option Bool) (rows out : List Row) → AllByRecursion P rows
      → Indexed w Outside x index equal last ordered rows out → AllByRecursion P out
  indexed_hold w x f index equal last None rows out h g =
      let kept : Row → List Datum
      = λ row. documents_kept x.var (passes x.filter) x.attrs row
      (read_in_bounds w Outside x index equal last row) in
      let xs = with_each (bind x.var) rows (map kept rows) in
      let k = alike_permutation Holds xs out xs g (each_holds x.var f rows (map kept rows) h) in
      alone out k.0 k.2
  indexed_hold w x f index equal last (Some descending) rows out h g =
      subst (λ (o : List Row). AllByRecursion P o) (sym g.2)
      (alone (with_each (bind x.var) rows g.0) (with_each (bind x.var) rows g.0)
      (each_holds x.var f rows g.0 h))

  values_hold : (y : Ident) → Leaves y → (rows : List Row) (vs : List Datum) → AllByRecursion P rows
      → AllByRecursion P (with_values y rows vs)
  values_hold y f [] vs h = tt
  values_hold y f (row ∷ rows) [] h = tt
  values_hold y f (row ∷ rows) (v ∷ vs) h = (f row v h.0, values_hold y f rows vs h.1)

  queried_hold : (y : Ident) → Leaves y → (w : Dataset) (s : Plan) (rows out : List Row)
      → AllByRecursion P rows
      → AllZip (λ row given. (results : List Row) × Runs s w Outside row results
      × (given ≡ bind y row (list (map result_of results)))) rows out → AllByRecursion P out
  queried_hold y f w s [] [] h g = tt
  queried_hold y f w s [] (r ∷ out) h g = absurd g
  queried_hold y f w s (row ∷ rows) [] h g = absurd g
  queried_hold y f w s (row ∷ rows) (r ∷ out) h g = (
    subst P (sym g.0.2) (f row (list (map result_of g.0.0)) h.0),
    queried_hold y f w s rows out h.1 g.1,
  )

  path_holds : (w : Dataset) (shape : TraversalShape)
      → AllByRecursion Leaves (shape.vertex ∷ (option_to_list shape.edge ++ option_to_list shape.path))
      → (r s : Row) (t : Path) → Holds r s → Holds (path_row w.db shape r t) (path_row w.db shape s t)
  path_holds w shape f r s t h =
      let k = all_parts Leaves (option_to_list shape.edge) (option_to_list shape.path) f.1 in
      set_maybe shape.path k.1 _ _ (path_value w.db t)
      (set_maybe shape.edge k.0 _ _ (last_edge t.steps)
      (set_both shape.vertex f.0 r s (vertex_of w.db (end_of t)) h))

  -- what holds of the rows of a node's input holds of the node's
  pub over_holds : (n : Node) → gives_new_rows n ≡ false → IsNoFragment n → AllByRecursion Leaves (sets n)
      → (b : Plan) (w : Dataset) (start : Row)
      → ((rows : List Row) → Runs b w Outside start rows → AllByRecursion P rows)
      → (out : List Row) → Runs (Over b n) w Outside start out → AllByRecursion P out
  over_holds (EnumerateCollection x) o i f b w start h out g =
      let kept : Row → List Datum
      = λ row. documents_kept x.var (passes x.filter) x.attrs row (read w x.coll x.shard Outside) in
      let xs = with_each (bind x.var) g.0 (map kept g.0) in
      let k = alike_permutation Holds xs out xs g.2 (each_holds x.var f.0 g.0 (map kept g.0) (h g.0 g.1)) in
      alone out k.0 k.2
  over_holds (Index x index equal last ordered) o i f b w start h out g =
      indexed_hold w x f.0 index equal last ordered g.0 out (h g.0 g.1) g.2
  over_holds (EnumerateList y e) o i f b w start h out g =
      let lists = map elements (values_of e g.0) in
      subst (λ (rows : List Row). AllByRecursion P rows) (sym g.2)
      (alone (with_each (bind y) g.0 lists) (with_each (bind y) g.0 lists)
      (each_holds y f.0 g.0 lists (h g.0 g.1)))
  over_holds (Traversal shape e colls prune keep) o i f b w start h out g =
      let paths = g.2.1.0 in
      let xs = with_paths w.db shape g.0 paths in
      let k = alike_permutation Holds xs g.2.0 xs g.2.1.2
      (each_related Holds Holds (path_row w.db shape) (path_row w.db shape)
      (λ r s t a. path_holds w shape f r s t a) g.0 g.0 (map (long_paths shape) paths)
      (beside g.0 (h g.0 g.1))) in
      subst (λ (rows : List Row). AllByRecursion P rows) (sym g.2.2)
      (alone (filter (passes keep) g.2.0) (filter (passes keep) k.0)
      (filter_related Holds Holds (passes keep) (passes keep) (λ r s a. ap (passes keep) a.1) (λ r s a. a)
      g.2.0 k.0 k.2))
  over_holds (Calculation y e) o i f b w start h out g =
      subst (λ (rows : List Row). AllByRecursion P rows) (sym g.2)
      (values_hold y f.0 g.0 (values_of e g.0) (h g.0 g.1))
  over_holds (Subquery y s) o i f b w start h out g = queried_hold y f.0 w s g.0 out (h g.0 g.1) g.2
  over_holds (Filter e) o i f b w start h out g =
      subst (λ (rows : List Row). AllByRecursion P rows) (sym g.2)
      (alone (filter_true g.0 (values_of e g.0)) (filter_true g.0 (values_of e g.0))
      (kept_related Holds g.0 g.0 (values_of e g.0) (beside g.0 (h g.0 g.1))))
  over_holds (Sort directions es n) o i f b w start h out g =
      let k = sorted_alike Holds directions (map (keys_of es) g.0) g.0 g.0 g.2.0
      (beside g.0 (h g.0 g.1)) g.2.1 in
      subst (λ (rows : List Row). AllByRecursion P rows) (sym g.2.2)
      (alone (first_rows n g.2.0) (first_rows n k.0) (first_related Holds n g.2.0 k.0 k.2))
  over_holds (Limit offset most) o i f b w start h out g =
      subst (λ (rows : List Row). AllByRecursion P rows) (sym g.2)
      (alone (take most (drop offset g.0)) (take most (drop offset g.0))
      (take_related Holds most (drop offset g.0) (drop offset g.0)
      (drop_related Holds offset g.0 g.0 (beside g.0 (h g.0 g.1)))))
  over_holds (Collect xs es gs i s) o j f b w start h out g = absurd (true≢false o)
  over_holds (Return distinct e) o i f b w start h out g = absurd (true≢false o)
  over_holds NoResults o i f b w start h out g =
      subst (λ (rows : List Row). AllByRecursion P rows) (sym g) tt
  over_holds (Scatter coll only) o i f b w start h out g = absurd i
  over_holds (Distribute coll es) o i f b w start h out g = absurd i
  over_holds Remote o i f b w start h out g = absurd i
  over_holds (Gather directions es) o i f b w start h out g = absurd i
