-- What a node gives for the rows at which a condition holds is what it gives for all rows, where the
-- condition holds: for nodes with which a Filter may swap places.
use Rattle.std.proofs.Common.{◌≡◌, ◌∙◌, List, [], ◌∷◌, ◌++◌, map, Bool, true, false, true≢false, cond, refl, ap, sym, subst}
use Rattle.std.specs.Prelude.{None, filter, zip, option_to_list, IsPermutation}
use Rattle.std.specs.List.{AllZip}
use Rattle.std.proofs.lemmas.List.Elements.{filter-append}
use Rattle.aql_value.specs.Database.{Database}
use Rattle.aql_value.specs.Datum.{Datum}
use Rattle.aql_value.specs.Contents.{list, elements}
use Rattle.aql_func.specs.Objects.{id_text}
use Rattle.aql_tree.specs.declared.syntax.Ident.{Ident}
use Rattle.aql_tree.specs.Tree.{ExprTree, ExprTrees, no_expr, TraversalShape}
use Rattle.aql_meaning.specs.AtRows.{value_of, values_of, keys_of, passes, stops}
use Rattle.aql_meaning.specs.Clauses.{with_each, with_elements, with_values, KeyedRow, comes_before, Sorts}
use Rattle.aql_meaning.specs.Documents.{documents_kept}
use Rattle.aql_meaning.specs.Paths.{Path, TraversesFrom, Traverses, path_row, long_paths, with_paths, vertex_of, end_of, last_edge, path_value}
use Rattle.aql_meaning.specs.Row.{Row, bind, bind_maybe}
use Rattle.aql_meaning.specs.Uses.{uses}
use Rattle.aql_meaning.specs.laws.SomeAnswer.{some_traversal}
use Rattle.aql_meaning.specs.laws.SomeOrder.{keyed_order}
use Rattle.aql_plan.specs.laws.SomeRun.{some_run}
use Rattle.aql_plan.specs.Needs.{sets}
use Rattle.aql_plan.specs.Plan.{Node, EnumerateCollection, EnumerateList, Traversal, Calculation, Subquery, Sort}
use Rattle.aql_plan.specs.Runs.{Dataset, Outside, read, edges_in, result_of, Runs, Gives}
use Rattle.aql_rules_filter.specs.MoveFiltersUp.{may_swap, none_used}
use Rattle.aql_rules_filter.specs.laws.Filtered.{holds, filter_swap}
use Rattle.aql_rewrite.specs.laws.Flat.{each_flat, flat_filter, all_alike, filter_map}
use Rattle.aql_rules_filter.specs.laws.Inserted.{sorted_filter_of}
use Rattle.aql_rules_filter.specs.laws.Permuted.{filter_of}
use Rattle.aql_rules_filter.specs.laws.Unused.{holds_still, holds_maybe, first_unused, unused_split}

module _ (c : ExprTree) where
  -- ---- rows with a value, and with things of their own

  values_map : (x : Ident) (e : ExprTree) (rows : List Row)
      → with_values x rows (values_of e rows) ≡ map (λ row. bind x row (value_of e row)) rows
  values_map x e [] = refl
  values_map x e (row ∷ rows) = ap (λ ys. bind x row (value_of e row) ∷ ys) (values_map x e rows)

  map_filter : (g : Row → Row) → ((row : Row) → holds c (g row) ≡ holds c row) → (rows : List Row)
      → map g (filter (holds c) rows) ≡ filter (holds c) (map g rows)
  map_filter g same [] = refl
  map_filter g same (row ∷ rows) =
      by (holds c row) (same row) ∙ ap (λ ys. cond (holds c (g row)) (g row ∷ ys) ys) (map_filter g same rows)
    where
      by : (b : Bool) → holds c (g row) ≡ b
          → map g (cond b (row ∷ filter (holds c) rows) (filter (holds c) rows))
          ≡ cond (holds c (g row)) (g row ∷ map g (filter (holds c) rows)) (map g (filter (holds c) rows))
      by true e =
          ap (λ t. cond t (g row ∷ map g (filter (holds c) rows)) (map g (filter (holds c) rows))) (sym e)
      by false e =
          ap (λ t. cond t (g row ∷ map g (filter (holds c) rows)) (map g (filter (holds c) rows))) (sym e)

  -- each row with its things, where these do not change the condition
  each_filter : {X : Type 0} (f : Row → X → Row) (g : Row → List X)
      → ((row : Row) (x : X) → holds c (f row x) ≡ holds c row) → (rows : List Row)
      → with_each f (filter (holds c) rows) (map g (filter (holds c) rows))
      ≡ filter (holds c) (with_each f rows (map g rows))
  each_filter f g same rows =
      each_flat f g (filter (holds c) rows)
      ∙ flat_filter (holds c) (holds c) (λ row. map (f row) (g row))
      (λ row. all_alike (holds c) (f row) (holds c row) (same row) (g row)) rows
      ∙ ap (filter (holds c)) (sym (each_flat f g rows))

  elements_each : (x : Ident) (e : ExprTree) (rows : List Row)
      → with_elements x rows (values_of e rows)
      ≡ with_each (bind x) rows (map (λ row. elements (value_of e row)) rows)
  elements_each x e [] = refl
  elements_each x e (row ∷ rows) =
      ap (λ ys. map (bind x row) (elements (value_of e row)) ++ ys) (elements_each x e rows)

  -- ---- rows with one that is given

  lifted : (G : Row → Row → Type 0) → ((row : Row) → (given : Row) × G row given)
      → ((row given : Row) → G row given → holds c given ≡ holds c row)
      → (rows out : List Row) → AllZip G (filter (holds c) rows) out
      → (mid : List Row) × AllZip G rows mid × (out ≡ filter (holds c) mid)
  lifted G some same [] [] g = ([], tt, refl)
  lifted G some same [] (y ∷ out) g = absurd g
  lifted G some same (row ∷ rows) out g =
      by (holds c row) refl out g (λ more k. lifted G some same rows more k)
    where
      by : (b : Bool) → holds c row ≡ b → (out : List Row)
          → AllZip G (cond b (row ∷ filter (holds c) rows) (filter (holds c) rows)) out
          → ((more : List Row) → AllZip G (filter (holds c) rows) more
          → (mid : List Row) × AllZip G rows mid × (more ≡ filter (holds c) mid))
          → (mid : List Row) × AllZip G (row ∷ rows) mid × (out ≡ filter (holds c) mid)
      by true e [] g f = absurd g
      by true e (y ∷ out) g f =
          let k = f out g.1 in (
            y ∷ k.0,
            (g.0, k.1),
            ap (λ ys. y ∷ ys) k.2 ∙ ap (λ b. cond b (y ∷ filter (holds c) k.0) (filter (holds c) k.0))
                (sym (same row y g.0 ∙ e)),
          )
      by false e out g f =
          let k = f out g in
          let y = some row in (
            y.0 ∷ k.0,
            (y.1, k.1),
            k.2 ∙ ap (λ b. cond b (y.0 ∷ filter (holds c) k.0) (filter (holds c) k.0))
                (sym (same row y.0 y.1 ∙ e)),
          )

  -- ---- rows with paths

  module _ (db : Database) (w : TraversalShape) (es : List Datum) (prune : Row → Bool)
      (start : ExprTree) where
    abbrev Walked : Row × Datum → List Path → Type 0
    Walked from paths = TraversesFrom w es (λ t. prune (path_row db w from.0 t)) (id_text from.1) paths

    some_paths : (from : Row × Datum) → (paths : List Path) × Walked from paths
    some_paths from =
        let h = some_traversal db w es prune (from.0 ∷ []) (from.1 ∷ []) in first h.1.0 h.1.1
      where
        first : (lists : List (List Path)) → AllZip Walked (from ∷ []) lists
            → (paths : List Path) × Walked from paths
        first [] k = absurd k
        first (paths ∷ lists) k = (paths, k.0)

    path_holds : none_used (sets (Traversal w start [] no_expr no_expr)) (uses c) ≡ true
        → (row : Row) (t : Path) → holds c (path_row db w row t) ≡ holds c row
    path_holds u row t =
        let v = first_unused w.vertex (option_to_list w.edge ++ option_to_list w.path) (uses c) u in
        let s = unused_split (option_to_list w.edge) (option_to_list w.path) (uses c) v.1 in
        holds_maybe c w.path
        (bind_maybe w.edge (bind w.vertex row (vertex_of db (end_of t))) (last_edge t.steps))
        (path_value db t) s.1
        ∙ holds_maybe c w.edge (bind w.vertex row (vertex_of db (end_of t))) (last_edge t.steps) s.0
        ∙ holds_still c w.vertex row (vertex_of db (end_of t)) v.0

    abbrev starts : List Row → List Datum
    starts rows = values_of start rows

    paths_lifted : ((row : Row) (t : Path) → holds c (path_row db w row t) ≡ holds c row)
        → (rows : List Row) (paths : List (List Path))
        → AllZip Walked (zip (filter (holds c) rows) (starts (filter (holds c) rows))) paths
        → (all : List (List Path)) × AllZip Walked (zip rows (starts rows)) all
        × (with_paths db w (filter (holds c) rows) paths ≡ filter (holds c) (with_paths db w rows all))
    paths_lifted same [] [] k = ([], tt, refl)
    paths_lifted same [] (p ∷ paths) k = absurd k
    paths_lifted same (row ∷ rows) paths k =
        by (holds c row) refl paths k (λ more l. paths_lifted same rows more l)
      where
        -- the rows of one row's paths, before those of the others
        split : (own : List Path) (b : Bool) → holds c row ≡ b → (all : List (List Path))
            → filter (holds c) (with_paths db w (row ∷ rows) (own ∷ all))
            ≡ cond b (map (path_row db w row) (long_paths w own)) []
            ++ filter (holds c) (with_paths db w rows all)
        split own b e all =
            filter-append (holds c) (map (path_row db w row) (long_paths w own)) (with_paths db w rows all)
            ∙ ap (λ ys. ys ++ filter (holds c) (with_paths db w rows all))
            (all_alike (holds c) (path_row db w row) b (λ t. same row t ∙ e) (long_paths w own))

        by : (b : Bool) → holds c row ≡ b → (paths : List (List Path))
            → AllZip Walked (zip (cond b (row ∷ filter (holds c) rows) (filter (holds c) rows))
            (starts (cond b (row ∷ filter (holds c) rows) (filter (holds c) rows)))) paths
            → ((more : List (List Path))
            → AllZip Walked (zip (filter (holds c) rows) (starts (filter (holds c) rows))) more
            → (all : List (List Path)) × AllZip Walked (zip rows (starts rows)) all
            × (with_paths db w (filter (holds c) rows) more ≡ filter (holds c) (with_paths db w rows all)))
            → (all : List (List Path)) × AllZip Walked (zip (row ∷ rows) (starts (row ∷ rows))) all
            × (with_paths db w (cond b (row ∷ filter (holds c) rows) (filter (holds c) rows)) paths
            ≡ filter (holds c) (with_paths db w (row ∷ rows) all))
        by true e [] k f = absurd k
        by true e (own ∷ paths) k f =
            let a = f paths k.1 in (
              own ∷ a.0,
              (k.0, a.1),
              ap (λ ys. map (path_row db w row) (long_paths w own) ++ ys) a.2 ∙ sym (split own true e a.0),
            )
        by false e paths k f =
            let a = f paths k in
            let own = some_paths (row, value_of start row) in
            (own.0 ∷ a.0, (own.1, a.1), a.2 ∙ sym (split own.0 false e a.0))

    traverses_lifted : ((row : Row) (t : Path) → holds c (path_row db w row t) ≡ holds c row)
        → (rows out : List Row)
        → Traverses db w es prune (filter (holds c) rows) (starts (filter (holds c) rows)) out
        → (mid : List Row) × Traverses db w es prune rows (starts rows) mid × (out ≡ filter (holds c) mid)
    traverses_lifted same rows out h =
        let k = paths_lifted same rows h.0 h.1 in
        let l = filter_of (holds c) (with_paths db w rows k.0) out
        (subst (λ (xs : List Row). IsPermutation xs out) k.2 h.2) in
        (l.0, (k.0, k.1, l.1), l.2)

  -- ---- sorted rows

  keyed_filter : (es : ExprTrees) (rows : List Row)
      → zip (map (keys_of es) (filter (holds c) rows)) (filter (holds c) rows)
      ≡ filter (λ (k : KeyedRow). holds c k.1) (zip (map (keys_of es) rows) rows)
  keyed_filter es [] = refl
  keyed_filter es (row ∷ rows) = by (holds c row) (keyed_filter es rows)
    where
      by : (b : Bool)
          → zip (map (keys_of es) (filter (holds c) rows)) (filter (holds c) rows)
          ≡ filter (λ (k : KeyedRow). holds c k.1) (zip (map (keys_of es) rows) rows)
          → zip (map (keys_of es) (cond b (row ∷ filter (holds c) rows) (filter (holds c) rows)))
          (cond b (row ∷ filter (holds c) rows) (filter (holds c) rows))
          ≡ cond b ((keys_of es row, row)
          ∷ filter (λ (k : KeyedRow). holds c k.1) (zip (map (keys_of es) rows) rows))
          (filter (λ (k : KeyedRow). holds c k.1) (zip (map (keys_of es) rows) rows))
      by true e = ap (λ ks. (keys_of es row, row) ∷ ks) e
      by false e = e

  sorts_lifted : (directions : List Bool) (es : ExprTrees) (rows out : List Row)
      → Sorts directions (map (keys_of es) (filter (holds c) rows)) (filter (holds c) rows) out
      → (mid : List Row) × Sorts directions (map (keys_of es) rows) rows mid × (out ≡ filter (holds c) mid)
  sorts_lifted directions es rows out h =
      let k = sorted_filter_of (comes_before directions) (keyed_order directions (λ (k : KeyedRow). k.0))
      (λ (k : KeyedRow). holds c k.1) (zip (map (keys_of es) rows) rows) h.0
      (subst (λ (ks : List KeyedRow). IsPermutation ks h.0) (keyed_filter es rows) h.1) h.2 in (
        map (λ (k : KeyedRow). k.1) k.0,
        (k.0, k.1, k.2, refl),
        h.3 ∙ ap (map (λ (k : KeyedRow). k.1)) k.3
            ∙ sym (filter_map (holds c) (λ (k : KeyedRow). k.1) k.0),
      )

-- ---- the nodes

pub filter_after : (n : Node) (c : ExprTree) (w : Dataset) (start : Row) (rows out : List Row)
    → may_swap n ≡ true → none_used (sets n) (uses c) ≡ true
    → Gives n w Outside start (filter (holds c) rows) out
    → (mid : List Row) × Gives n w Outside start rows mid × (out ≡ filter (holds c) mid)
filter_after (EnumerateCollection x) c w start rows out l u g =
    let f = λ (row : Row).
    documents_kept x.var (passes x.filter) x.attrs row (read w x.coll x.shard Outside) in
    let v = first_unused x.var [] (uses c) u in
    filter_of (holds c) (with_each (bind x.var) rows (map f rows)) out
    (subst (λ (xs : List Row). IsPermutation xs out)
    (each_filter c (bind x.var) f (λ row d. holds_still c x.var row d v.0) rows) g)
filter_after (EnumerateList x e) c w start rows out l u g =
    let v = first_unused x [] (uses c) u in (
      with_elements x rows (values_of e rows),
      refl,
      g ∙ elements_each c x e (filter (holds c) rows)
          ∙ each_filter c (bind x) (λ row. elements (value_of e row))
          (λ row d. holds_still c x row d v.0) rows
          ∙ ap (filter (holds c)) (sym (elements_each c x e rows)),
    )
filter_after (Traversal shape e colls prune keep) c w start rows out l u g =
    let es = edges_in w.db colls in
    let k = traverses_lifted c w.db shape es (stops prune) e
    (path_holds c w.db shape es (stops prune) e u) rows g.0 g.1 in (
      filter (passes keep) k.0,
      (k.0, k.1, refl),
      g.2 ∙ ap (filter (passes keep)) k.2 ∙ filter_swap (holds c) (passes keep) k.0,
    )
filter_after (Calculation x e) c w start rows out l u g =
    let v = first_unused x [] (uses c) u in (
      with_values x rows (values_of e rows),
      refl,
      g ∙ values_map c x e (filter (holds c) rows)
          ∙ map_filter c (λ row. bind x row (value_of e row))
          (λ row. holds_still c x row (value_of e row) v.0) rows
          ∙ ap (filter (holds c)) (sym (values_map c x e rows)),
    )
filter_after (Subquery x s) c w start rows out l u g =
    let v = first_unused x [] (uses c) u in
    lifted c (λ row given. (results : List Row) × Runs s w Outside row results
    × (given ≡ bind x row (list (map result_of results))))
    (λ row. let a = some_run s w Outside row in (bind x row (list (map result_of a.0)), (a.0, a.1, refl)))
    (λ row given k. ap (holds c) k.2 ∙ holds_still c x row (list (map result_of k.0)) v.0) rows out g
filter_after (Sort directions es None) c w start rows out l u g =
    let k = sorts_lifted c directions es rows g.0 g.1 in (k.0, (k.0, k.1, refl), g.2 ∙ k.2)
filter_after n c w start rows out l u g = absurd (true≢false (sym l))
