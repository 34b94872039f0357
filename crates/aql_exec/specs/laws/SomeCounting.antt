-- Every node gives a list of its rows with what it counts, well formed or not.
use Rattle.std.proofs.Common.{ℕ, ◌≡◌, ◌+◌, ◌-◌, ◌≤◌, List, [], ◌∷◌, map, length, Bool, true, false, cond, refl, arith}
use Rattle.std.specs.Prelude.{Option, Some, None, filter, zip, sum, sum_by}
use Rattle.std.specs.List.{AllZip}
use Rattle.std.proofs.lemmas.List.{length-map}
use Rattle.std.proofs.lemmas.List.Concat.{length-flat_map}
use Rattle.std.proofs.lemmas.List.Sorted.{length_permutation}
use Rattle.std.proofs.lemmas.List.Sums.{count_by-le-length, length-filter, sum_by-cons, sum-map}
use Rattle.aql_value.specs.Datum.{Datum}
use Rattle.aql_value.specs.Truth.{truth}
use Rattle.aql_tree.specs.declared.syntax.Ident.{Ident}
use Rattle.aql_tree.specs.Tree.{ExprTree, ExprTrees}
use Rattle.aql_meaning.specs.Row.{Row, bind}
use Rattle.aql_meaning.specs.AtRows.{values_of, passes, stops}
use Rattle.aql_meaning.specs.Clauses.{with_each, filter_true}
use Rattle.aql_meaning.specs.Documents.{Last, projection, documents_kept, Scanned, InIndexOrder}
use Rattle.aql_meaning.specs.laws.SomeAnswer.{some_traversal}
use Rattle.aql_plan.specs.Facts.{attributes_in}
use Rattle.aql_plan.specs.Plan.{Reading, Node, EnumerateCollection, Index, Traversal, Filter}
use Rattle.aql_plan.specs.Runs.{Dataset, Outside, Indexed, read, read_in_bounds, edges_in}
use Rattle.aql_plan.specs.laws.SomeRun.{some_given}
use Rattle.aql_exec.specs.Rests.{Counts}
use Rattle.aql_exec.specs.Counting.{counts, nothing, size_of_all, traversal_counts, NoneSent, GivesCounting}

-- ---- how many rows a node can give

pub filter_length : {X : Type 0} (p : X → Bool) (xs : List X) → length (filter p xs) ≤ length xs
filter_length p xs = let e = length-filter p xs in let l = count_by-le-length p xs in omega (arith, e, l)

true_more : {X : Type 0} (x : X) (xs kept : List X) (b : Bool) → length kept ≤ length xs
    → length (cond b (x ∷ kept) kept) ≤ length (x ∷ xs)
true_more x xs kept true h = omega (arith, h)
true_more x xs kept false h = omega (arith, h)

pub true_length : {X : Type 0} (xs : List X) (values : List Datum)
    → length (filter_true xs values) ≤ length xs
true_length [] values = omega arith
true_length (x ∷ xs) [] = omega arith
true_length (x ∷ xs) (v ∷ values) = true_more x xs (filter_true xs values) (truth v) (true_length xs values)

module _ {X : Type 0} (f : Row → X → Row) (size : Row → ℕ) where
  each_sum : (rows : List Row) (lists : List (List X))
      → AllZip (λ row list. length list ≤ size row) rows lists
      → sum_by (λ (own : Row × List X). length (map (f own.0) own.1)) (zip rows lists) ≤ sum_by size rows
  each_sum [] [] h = omega arith
  each_sum [] (list ∷ lists) h = absurd h
  each_sum (row ∷ rows) [] h = absurd h
  each_sum (row ∷ rows) (list ∷ lists) h =
      let a = sum_by-cons (λ (own : Row × List X). length (map (f own.0) own.1)) (row, list)
      (zip rows lists) in
      let b = sum_by-cons size row rows in
      let e = length-map list (f row) in
      let l = h.0 in
      let m = each_sum rows lists h.1 in
      omega (arith, a, b, e, l, m)

  -- each row with each element of a list that is not too long
  pub each_length : (rows : List Row) (lists : List (List X))
      → AllZip (λ row list. length list ≤ size row) rows lists
      → length (with_each f rows lists) ≤ sum (map size rows)
  each_length rows lists h =
      let a = length-flat_map (λ (own : Row × List X). map (f own.0) own.1) (zip rows lists) in
      let b = sum-map size rows in
      let m = each_sum rows lists h in
      omega (arith, a, b, m)

module _ (x : Ident) (keep : Row → Bool) (attrs : Option (List (List ℕ))) (documents : Row → List Datum) where
  kept_length : (row : Row) (ds : List Datum) → length (documents_kept x keep attrs row ds) ≤ length ds
  kept_length row ds =
      let e = length-map (filter (λ d. keep (bind x row d)) ds) (projection attrs) in
      let l = filter_length (λ d. keep (bind x row d)) ds in
      omega (arith, e, l)

  kept_lengths : (rows : List Row) → AllZip (λ row list. length list ≤ length (documents row)) rows
      (map (λ row. documents_kept x keep attrs row (documents row)) rows)
  kept_lengths [] = tt
  kept_lengths (row ∷ rows) = (kept_length row (documents row), kept_lengths rows)

  -- documents in any order
  pub scanned_length : (rows out : List Row) → Scanned x keep attrs documents rows out
      → length out ≤ size_of_all documents rows
  scanned_length rows out h =
      let e = length_permutation _ out h in
      let l = each_length (bind x) (λ row. length (documents row)) rows _ (kept_lengths rows) in
      omega (arith, e, l)

  -- and in the order of an index
  ordered_lengths : (names : List (List ℕ)) (descending : Bool) (rows : List Row) (lists : List (List Datum))
      → AllZip (λ row list. (sorted : List Datum) × InIndexOrder names descending (documents row) sorted
      × (list ≡ documents_kept x keep attrs row sorted)) rows lists
      → AllZip (λ row list. length list ≤ length (documents row)) rows lists
  ordered_lengths names descending [] [] h = tt
  ordered_lengths names descending [] (list ∷ lists) h = absurd h
  ordered_lengths names descending (row ∷ rows) [] h = absurd h
  ordered_lengths names descending (row ∷ rows) (list ∷ lists) h = (
    let e = length_permutation _ _ h.0.1.0 in
        let l = kept_length row h.0.0 in
        rw h.0.2 (omega (arith, e, l)),
    ordered_lengths names descending rows lists h.1,
  )

pub indexed_length : (w : Dataset) (x : Reading) (index : ℕ) (equal : ExprTrees) (last : Last ExprTree)
    (ordered : Option Bool) (rows out : List Row) → Indexed w Outside x index equal last ordered rows out
    → length out ≤ size_of_all (read_in_bounds w Outside x index equal last) rows
indexed_length w x index equal last None rows out h =
    scanned_length x.var (passes x.filter) x.attrs (read_in_bounds w Outside x index equal last) rows out h
indexed_length w x index equal last (Some descending) rows out h =
    rw h.2 (each_length (bind x.var)
    (λ row. length (read_in_bounds w Outside x index equal last row)) rows h.0
    (ordered_lengths x.var (passes x.filter) x.attrs (read_in_bounds w Outside x index equal last)
    (attributes_in w.facts x.coll index) descending rows h.0 h.1))

-- ---- each node gives something

rest_of : (m n : ℕ) → m ≤ n → (n - m) + m ≡ n
rest_of m n l = omega (arith, l)

same_length : (out kept : List Row) (n : ℕ) → out ≡ kept → length kept ≤ n → length out ≤ n
same_length out kept n e l = rw e l

pub some_counting : (n : Node) (w : Dataset) (start : Row) (rows : List Row)
    → (out : List Row) × (d : Counts) × GivesCounting n w start rows out d × NoneSent d
some_counting (EnumerateCollection x) w start rows =
    let o = some_given (EnumerateCollection x) w Outside start rows in
    let size = size_of_all (λ row. read w x.coll x.shard Outside) rows in (
      o.0,
      counts size 0 (size - length o.0),
      (
        o.1,
        refl,
        refl,
        rest_of _ _
            (scanned_length x.var (passes x.filter) x.attrs
            (λ row. read w x.coll x.shard Outside) rows o.0 o.1),
      ),
      λ l. (refl, refl, refl),
    )
some_counting (Index x index equal last ordered) w start rows =
    let o = some_given (Index x index equal last ordered) w Outside start rows in
    let size = size_of_all (read_in_bounds w Outside x index equal last) rows in (
      o.0,
      counts 0 size (size - length o.0),
      (
        o.1,
        refl,
        refl,
        rest_of _ _
            (indexed_length w x index equal last ordered rows o.0 o.1),
      ),
      λ l. (refl, refl, refl),
    )
some_counting (Traversal shape e colls prune keep) w start rows =
    let o = some_traversal w.db shape (edges_in w.db colls) (stops prune) rows (values_of e rows) in
    let out = filter (passes keep) o.0 in (
      out,
      counts 0 (traversal_counts w shape (edges_in w.db colls) prune rows o.1.0) (length o.0 - length out),
      (o.1.0, o.0, o.1.1, o.1.2, refl, refl, refl, rest_of _ _ (filter_length (passes keep) o.0)),
      λ l. (refl, refl, refl),
    )
some_counting (Filter e) w start rows =
    let o = some_given (Filter e) w Outside start rows in (
      o.0,
      counts 0 0 (length rows - length o.0),
      (
        o.1,
        refl,
        refl,
        rest_of _ _
            (same_length o.0 _ _ o.1 (true_length rows (values_of e rows))),
      ),
      λ l. (refl, refl, refl),
    )
some_counting n w start rows =
    let o = some_given n w Outside start rows in (o.0, nothing, (o.1, λ c. refl), λ l. (refl, refl, refl))
