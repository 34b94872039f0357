-- What nodes other than subqueries and fragments make of related rows is related.
use Rattle.std.proofs.Common.{◌≡◌, ◌∙◌, ℕ, List, [], ◌∷◌, map, Bool, true, false, cond, refl, ap, sym, subst}
use mathlib.Core.Path.{fun_ext}
use Rattle.std.specs.Prelude.{Option, Some, None, option_to_list, filter}
use Rattle.std.specs.List.{AllZip, AllByRecursion}
use Rattle.aql_value.specs.Datum.{Datum}
use Rattle.aql_value.specs.Contents.{list, elements}
use Rattle.aql_value.specs.Truth.{truth}
use Rattle.aql_value.specs.Database.{Database}
use Rattle.aql_func.specs.Objects.{id_text}
use Rattle.aql_tree.specs.declared.syntax.Ident.{Ident}
use Rattle.aql_tree.specs.Tree.{TraversalShape, ExprTree}
use Rattle.aql_meaning.specs.Row.{Row, bind, bind_all}
use Rattle.aql_meaning.specs.Clauses.{with_each, with_elements, filter_true, with_values, first_rows}
use Rattle.aql_meaning.specs.Groups.{GroupedRow, groups, rows_of_group, group_row, WithInto, Collects, aggregate_values}
use Rattle.aql_meaning.specs.Paths.{Path, TraversesFrom, TraversesPaths, Traverses, with_paths, long_paths}
use Rattle.aql_meaning.specs.Paths.{path_row, path_value, vertex_of, end_of, last_edge}
use Rattle.aql_meaning.specs.Uses.{Uses}
use Rattle.aql_meaning.specs.laws.Shuffles.{alike_permutation}
use Rattle.aql_meaning.specs.laws.RowByRow.{each_related, each_own_related}
use Rattle.aql_meaning.specs.Documents.{projection, documents_kept, Scanned, InIndexOrder, ScannedInOrder}
use Rattle.aql_plan_laws.specs.laws.Lists.{take_related, chosen}
use Rattle.aql_plan_laws.specs.laws.Carried.{Carries, binds_maybe, binds_all}

-- FILTER and the like, of any related lists
pub kept_related : {A B : Type 0} (R : A → B → Type 0) (xs : List A) (ys : List B) (vs : List Datum)
    → AllZip R xs ys → AllZip R (filter_true xs vs) (filter_true ys vs)
kept_related R [] [] vs h = tt
kept_related R [] (y ∷ ys) vs h = absurd h
kept_related R (x ∷ xs) [] vs h = absurd h
kept_related R (x ∷ xs) (y ∷ ys) [] h = tt
kept_related R (x ∷ xs) (y ∷ ys) (v ∷ vs) h = by (truth v) (kept_related R xs ys vs h.1)
  where
    by : (b : Bool) → AllZip R (filter_true xs vs) (filter_true ys vs)
        → AllZip R (cond b (x ∷ filter_true xs vs) (filter_true xs vs))
        (cond b (y ∷ filter_true ys vs) (filter_true ys vs))
    by true k = (h.0, k)
    by false k = k

pub first_related : (R : Row → Row → Type 0) (n : Option ℕ) (rows others : List Row) → AllZip R rows others
    → AllZip R (first_rows n rows) (first_rows n others)
first_related R None rows others h = h
first_related R (Some n) rows others h = take_related R n rows others h

module _ (f : ExprTree → ExprTree) (Free : Ident → Type 0) (S : Uses → Row → Row → Type 0)
    (carry : Carries f Free S) where
  -- ---- EnumerateList, Calculation

  pub elements_related : (us : Uses) (x : Ident) → Free x → (rows others : List Row) (vs : List Datum)
      → AllZip (S us) rows others → AllZip (S us) (with_elements x rows vs) (with_elements x others vs)
  elements_related us x free rows others vs h =
      each_related (S us) (S us) (bind x) (bind x) (λ r s v k. carry.binds us x r s v free k) rows others
      (map elements vs) h

  pub bound_related : (us : Uses) (x : Ident) → Free x → (rows others : List Row) (vs : List Datum)
      → AllZip (S us) rows others → AllZip (S us) (with_values x rows vs) (with_values x others vs)
  bound_related us x free [] [] vs h = tt
  bound_related us x free [] (s ∷ others) vs h = absurd h
  bound_related us x free (r ∷ rows) [] vs h = absurd h
  bound_related us x free (r ∷ rows) (s ∷ others) [] h = tt
  bound_related us x free (r ∷ rows) (s ∷ others) (v ∷ vs) h =
      (carry.binds us x r s v free h.0, bound_related us x free rows others vs h.1)

  -- ---- EnumerateCollection, Index

  module _ (us vs : Uses) (x : Ident) (free : Free x) (attrs : Option (List (List ℕ))) (p q : Row → Bool)
      (same : (r s : Row) → S vs r s → p r ≡ q s) where
    -- the same documents are kept
    kept_same : (r s : Row) → S vs r s → (ds : List Datum)
        → documents_kept x p attrs r ds ≡ documents_kept x q attrs s ds
    kept_same r s h ds = ap (λ (passes : Datum → Bool). map (projection attrs) (filter passes ds))
        (fun_ext (λ d. same (bind x r d) (bind x s d) (carry.binds vs x r s d free h)))

    -- the documents that are read are the same
    abbrev pub Reads : (Row → List Datum) → (Row → List Datum) → Row → Row → Type 0
    Reads read other r s = S us r s × S vs r s × (read r ≡ other s)

    pub scanned_alike : (read other : Row → List Datum) (rows others out : List Row)
        → AllZip (Reads read other) rows others → Scanned x p attrs read rows out
        → (more : List Row) × Scanned x q attrs other others more × AllZip (S us) out more
    scanned_alike read other rows others out h g =
        let before : Row → List Datum = λ row. documents_kept x p attrs row (read row) in
        let after : Row → List Datum = λ row. documents_kept x q attrs row (other row) in
        alike_permutation (S us) (with_each (bind x) rows (map before rows)) out
        (with_each (bind x) others (map after others)) g
        (each_own_related (Reads read other) (S us) (bind x) (bind x)
        (λ r s d k. carry.binds us x r s d free k.0) before after
        (λ r s k. kept_same r s k.1 (read r) ∙ ap (documents_kept x q attrs s) k.2) rows others h)

    -- what an ordered index gives of a row
    abbrev OfRow : List (List ℕ) → Bool → (Row → Bool) → (Row → List Datum) → Row → List Datum → Type 0
    OfRow names descending passes read row list = (sorted : List Datum)
        × InIndexOrder names descending (read row) sorted × (list ≡ documents_kept x passes attrs row sorted)

    lists_kept : (names : List (List ℕ)) (descending : Bool) (read other : Row → List Datum)
        → (rows others : List Row) (lists : List (List Datum)) → AllZip (Reads read other) rows others
        → AllZip (OfRow names descending p read) rows lists
        → AllZip (OfRow names descending q other) others lists
    lists_kept names descending read other [] [] [] h g = tt
    lists_kept names descending read other [] [] (ds ∷ lists) h g = absurd g
    lists_kept names descending read other [] (s ∷ others) lists h g = absurd h
    lists_kept names descending read other (r ∷ rows) [] lists h g = absurd h
    lists_kept names descending read other (r ∷ rows) (s ∷ others) [] h g = absurd g
    lists_kept names descending read other (r ∷ rows) (s ∷ others) (ds ∷ lists) h g = (
      (
        g.0.0,
        subst (λ (es : List Datum). InIndexOrder names descending es g.0.0) h.0.2 g.0.1,
        g.0.2 ∙ kept_same r s h.0.1 g.0.0,
      ),
      lists_kept names descending read other rows others lists h.1 g.1,
    )

    pub in_order_alike : (names : List (List ℕ)) (descending : Bool) (read other : Row → List Datum)
        → (rows others out : List Row) → AllZip (Reads read other) rows others
        → ScannedInOrder names descending x p attrs read rows out
        → (more : List Row) × ScannedInOrder names descending x q attrs other others more
        × AllZip (S us) out more
    in_order_alike names descending read other rows others out h g = (
      with_each (bind x) others g.0,
      (g.0, lists_kept names descending read other rows others g.0 h g.1, refl),
      subst (λ (o : List Row). AllZip (S us) o (with_each (bind x) others g.0)) (sym g.2)
          (each_related (Reads read other) (S us) (bind x) (bind x)
          (λ r s d k. carry.binds us x r s d free k.0) rows others g.0 h),
    )

  -- ---- Traversal

  module _ (us vs : Uses) (db : Database) (w : TraversalShape) (es : List Datum) (free : Free w.vertex)
      (edge_free : AllByRecursion Free (option_to_list w.edge))
      (path_free : AllByRecursion Free (option_to_list w.path)) (p q : Row → Bool)
      (same : (r s : Row) → S vs r s → p r ≡ q s) where
    path_row_related : (ts : Uses) (r s : Row) → S ts r s → (t : Path)
        → S ts (path_row db w r t) (path_row db w s t)
    path_row_related ts r s h t =
        binds_maybe f Free S carry ts w.path _ _ (path_value db t) path_free
        (binds_maybe f Free S carry ts w.edge _ _ (last_edge t.steps) edge_free
        (carry.binds ts w.vertex r s (vertex_of db (end_of t)) free h))

    -- the same paths are walked
    walks_kept : (rows others : List Row) (starts : List Datum) (paths : List (List Path))
        → AllZip (λ r s. S us r s × S vs r s) rows others → TraversesPaths db w es p rows starts paths
        → TraversesPaths db w es q others starts paths
    walks_kept [] [] starts paths h g = g
    walks_kept [] (s ∷ others) starts paths h g = absurd h
    walks_kept (r ∷ rows) [] starts paths h g = absurd h
    walks_kept (r ∷ rows) (s ∷ others) [] paths h g = g
    walks_kept (r ∷ rows) (s ∷ others) (v ∷ starts) [] h g = absurd g
    walks_kept (r ∷ rows) (s ∷ others) (v ∷ starts) (walked ∷ paths) h g = (
      subst (λ (pruned : Path → Bool). TraversesFrom w es pruned (id_text v) walked)
          (fun_ext (λ t. same (path_row db w r t) (path_row db w s t) (path_row_related vs r s h.0.1 t))) g.0,
      walks_kept rows others starts paths h.1 g.1,
    )

    pub walked_alike : (rows others : List Row) (starts : List Datum) (out : List Row)
        → AllZip (λ r s. S us r s × S vs r s) rows others → Traverses db w es p rows starts out
        → (more : List Row) × Traverses db w es q others starts more × AllZip (S us) out more
    walked_alike rows others starts out h g =
        let b = alike_permutation (S us) (with_paths db w rows g.0) out (with_paths db w others g.0) g.2
        (each_related (λ r s. S us r s × S vs r s) (S us) (path_row db w) (path_row db w)
        (λ r s t k. path_row_related us r s k.0 t) rows others (map (long_paths w) g.0) h) in
        (b.0, (g.0, walks_kept rows others starts g.0 h g.1, b.1), b.2)

  -- ---- Collect

  into_alike : (us : Uses) (into : Option Ident) → AllByRecursion Free (option_to_list into)
      → (members : List GroupedRow) (r s row : Row) → S us r s → WithInto into members r row
      → (other : Row) × WithInto into members s other × S us row other
  into_alike us None free members r s row h g = (s, refl, subst (λ (q : Row). S us q s) (sym g) h)
  into_alike us (Some x) free members r s row h g = (
    bind x s (list g.0),
    (g.0, g.1, refl),
    subst (λ (q : Row). S us q (bind x s (list g.0))) (sym g.2) (carry.binds us x r s (list g.0) free.0 h),
  )

  pub collected_alike : (us : Uses) (xs ys : List Ident) (fs : List (List Datum → Datum))
      (into : Option Ident)
      → AllByRecursion Free xs → AllByRecursion Free ys → AllByRecursion Free (option_to_list into)
      → (start other : Row) → S us start other → (members : List GroupedRow) (out : List Row)
      → Collects xs ys fs into start members out
      → (more : List Row) × Collects xs ys fs into other members more × AllZip (S us) out more
  collected_alike us xs ys fs into xs_free ys_free into_free start other h members out g =
      chosen (S us)
      (λ c row. WithInto into (rows_of_group c members) (group_row xs ys fs start members c) row)
      (λ c row. WithInto into (rows_of_group c members) (group_row xs ys fs other members c) row)
      (λ c row k. into_alike us into into_free (rows_of_group c members) (group_row xs ys fs start members c)
      (group_row xs ys fs other members c) row
      (binds_all f Free S carry us ys (aggregate_values fs 0 (rows_of_group c members)) (bind_all xs c start)
      (bind_all xs c other) ys_free (binds_all f Free S carry us xs c start other xs_free h)) k)
      (groups xs members) out g
