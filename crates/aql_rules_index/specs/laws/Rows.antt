-- What the rules on indexes keep of the rows: under a condition an Index gives what all documents give, where
-- the condition holds only of documents in its bounds; and a condition may go that holds of all documents in
-- its bounds.
use Rattle.std.proofs.Common.{◌≡◌, ◌∙◌, ℕ, List, [], ◌∷◌, ◌++◌, map, Bool, true, false, true≢false, cond, not, Option, Some, None, refl, sym, ap, ap₂, subst, append_assoc}
use Rattle.std.specs.Prelude.{filter, IsPermutation}
use Rattle.std.specs.List.{AllByRecursion, AllZip}
use Rattle.std.proofs.lemmas.List.{append-nil, map-id, map-append}
use Rattle.std.proofs.lemmas.List.Elements.{filter-append, All-from_recursion, recursion_from_All}
use Rattle.std.proofs.lemmas.List.Sorted.{IsPermutation-refl, IsPermutation-trans, IsPermutation-append, IsPermutation-append_left, IsPermutation-append_right, IsPermutation-append_comm, IsPermutation-map, IsPermutation-filter_both, All-permutation}
use Rattle.aql_value.specs.Datum.{Datum}
use Rattle.aql_tree.specs.declared.syntax.Ident.{Ident}
use Rattle.aql_tree.specs.Tree.{ExprTree, ExprTrees, MaybeExpr, no_expr}
use Rattle.aql_meaning.specs.AtRows.{passes}
use Rattle.aql_meaning.specs.Clauses.{with_each}
use Rattle.aql_meaning.specs.Documents.{Last, documents_kept, Scanned, ScannedInOrder, InIndexOrder}
use Rattle.aql_meaning.specs.Row.{Row, bind}
use Rattle.aql_plan.specs.Facts.{attributes_in}
use Rattle.aql_plan.specs.Plan.{Reading}
use Rattle.aql_plan.specs.Runs.{Dataset, Outside, Indexed, read}
use Rattle.aql_rules_filter.specs.laws.Filtered.{holds, filtered, all_pass}
use Rattle.aql_rules_index.specs.Tests.{in_index}
use Rattle.aql_rules_index.specs.Theorems.{IndexNarrows, ConditionMayBeReplaced, FilterMayGo}

-- ---- the documents in the bounds and the others

module _ (v : Ident) (c : ExprTree) (documents : List Datum) (test : Row → Datum → Bool) where
  abbrev Each : (Row → List Datum) → List Row → List Row
  Each f rows = with_each (bind v) rows (map f rows)

  abbrev inside : Row → List Datum
  inside row = filter (test row) documents

  abbrev outside : Row → List Datum
  outside row = filter (λ d. not (test row d)) documents

  -- of two lists in front of two others, the middle ones swap places
  swapped : (a b g h : List Row) → IsPermutation ((a ++ b) ++ (g ++ h)) ((a ++ g) ++ (b ++ h))
  swapped a b g h =
      let middle = IsPermutation-append_right a _ _ (IsPermutation-append_left h _ _
      (IsPermutation-append_comm b g)) in
      subst (λ (xs : List Row). IsPermutation xs ((a ++ g) ++ (b ++ h)))
      (ap (λ ys. a ++ ys) (append_assoc b g h) ∙ sym (append_assoc a b (g ++ h)))
      (subst (λ (ys : List Row). IsPermutation (a ++ ((b ++ g) ++ h)) ys)
      (ap (λ ys. a ++ ys) (append_assoc g b h) ∙ sym (append_assoc a g (b ++ h))) middle)

  split_row : (row : Row)
      → IsPermutation (map (bind v row) documents)
      (map (bind v row) (inside row) ++ map (bind v row) (outside row))
  split_row row = subst (λ (ys : List Row). IsPermutation (map (bind v row) documents) ys)
      (map-append (bind v row) (inside row) (outside row))
      (IsPermutation-map (bind v row) documents (inside row ++ outside row)
      (IsPermutation-filter_both (test row) (λ d. not (test row d)) (λ d. refl) documents))

  pub split : (rows : List Row)
      → IsPermutation (Each (λ row. documents) rows) (Each inside rows ++ Each outside rows)
  split [] = IsPermutation-refl []
  split (row ∷ rows) = IsPermutation-trans _ _ _
      (IsPermutation-append _ _ _ _ (split_row row) (split rows))
      (swapped (map (bind v row) (inside row)) (map (bind v row) (outside row)) (Each inside rows)
      (Each outside rows))

  module _ (implied : (row : Row) (d : Datum) → holds c (bind v row d) ≡ true → test row d ≡ true) where
    fails : (b : Bool) (row : Row) (d : Datum) → holds c (bind v row d) ≡ b → not (test row d) ≡ true
        → b ≡ false
    fails true row d e h = absurd (true≢false (sym h ∙ ap not (implied row d e)))
    fails false row d e h = refl

    none_of_row : (row : Row) (ds : List Datum)
        → filter (holds c) (map (bind v row) (filter (λ d. not (test row d)) ds)) ≡ []
    none_of_row row [] = refl
    none_of_row row (d ∷ ds) = by (not (test row d)) refl (none_of_row row ds)
      where
        by : (b : Bool) → not (test row d) ≡ b
            → filter (holds c) (map (bind v row) (filter (λ d. not (test row d)) ds)) ≡ []
            → filter (holds c) (map (bind v row) (cond b (d ∷ filter (λ d. not (test row d)) ds)
            (filter (λ d. not (test row d)) ds))) ≡ []
        by true e h =
            ap (λ b. cond b
            (bind v row d ∷ filter (holds c) (map (bind v row) (filter (λ d. not (test row d)) ds)))
            (filter (holds c) (map (bind v row) (filter (λ d. not (test row d)) ds))))
            (fails (holds c (bind v row d)) row d refl e) ∙ h
        by false e h = h

    pub none_outside : (rows : List Row) → filter (holds c) (Each outside rows) ≡ []
    none_outside [] = refl
    none_outside (row ∷ rows) =
        filter-append (holds c) (map (bind v row) (outside row)) (Each outside rows)
        ∙ ap₂ (λ xs ys. xs ++ ys) (none_of_row row documents) (none_outside rows)

    -- the rows with documents inside, and then those with the others, are all rows
    pub widened : (rows out : List Row) → IsPermutation (Each inside rows) out
        → (mid : List Row) × IsPermutation (Each (λ row. documents) rows) mid
        × (filter (holds c) out ≡ filter (holds c) mid)
    widened rows out p = (
      out ++ Each outside rows,
      IsPermutation-trans _ _ _ (split rows) (IsPermutation-append_left (Each outside rows) _ _ p),
      sym (filter-append (holds c) out (Each outside rows)
          ∙ ap (λ ys. filter (holds c) out ++ ys) (none_outside rows) ∙ append-nil (filter (holds c) out)),
    )

-- ---- use-indexes

-- without a filter all documents are kept
kept_all : (v : Ident) (row : Row) (ds : List Datum) → documents_kept v (passes no_expr) None row ds ≡ ds
kept_all v row ds = map-id (filter (λ d. passes no_expr (bind v row d)) ds)
    ∙ all_pass (λ d. passes no_expr (bind v row d)) (λ d. refl) ds

each_same : (v : Ident) (f g : Row → List Datum) → ((row : Row) → f row ≡ g row) → (rows : List Row)
    → with_each (bind v) rows (map f rows) ≡ with_each (bind v) rows (map g rows)
each_same v f g h [] = refl
each_same v f g h (row ∷ rows) =
    ap₂ (λ ds rs. map (bind v row) ds ++ rs) (h row) (each_same v f g h rows)

-- under a condition that holds only in its bounds an Index gives what an EnumerateCollection gives
pub narrowed : IndexNarrows
narrowed w x index equal last c f a implied b start out (mid, (rows, runs, scanned), e) =
    let ds = read w x.coll x.shard Outside in
    let test = in_index w x index equal last in
    let whole = λ (of : List Datum) (row : Row).
    ap₂ (λ own attrs. documents_kept x.var (passes own) attrs row of) f a ∙ kept_all x.var row of in
    let inner = subst (λ (xs : List Row). IsPermutation xs mid)
    (each_same x.var (λ row. documents_kept x.var (passes x.filter) x.attrs row (filter (test row) ds))
    (λ row. filter (test row) ds) (λ row. whole (filter (test row) ds) row) rows) scanned in
    let k = widened x.var c ds test implied rows mid inner in (
      k.0,
      (
        rows,
        runs,
        subst (λ (xs : List Row). IsPermutation xs k.0)
            (sym (each_same x.var (λ row. documents_kept x.var (passes x.filter) x.attrs row ds) (λ row. ds)
            (λ row. whole ds row) rows)) k.1,
      ),
      e ∙ filtered c mid ∙ k.2 ∙ sym (filtered c k.0),
    )

-- ---- remove-filter-covered-by-index

module _ (v : Ident) (test : Row → Datum → Bool) where
  -- a row with a document in the bounds
  abbrev pub IsInside : Row → Type 0
  IsInside r = (row : Row) × (d : Datum) × (test row d ≡ true) × (r ≡ bind v row d)

  abbrev pub AreInside : Row → List Datum → Type 0
  AreInside row ds = AllByRecursion (λ d. test row d ≡ true) ds

  all_join : (xs ys : List Row) → AllByRecursion IsInside xs → AllByRecursion IsInside ys
      → AllByRecursion IsInside (xs ++ ys)
  all_join [] ys h k = k
  all_join (x ∷ xs) ys h k = (h.0, all_join xs ys h.1 k)

  row_inside : (row : Row) (ds : List Datum) → AreInside row ds
      → AllByRecursion IsInside (map (bind v row) ds)
  row_inside row [] h = tt
  row_inside row (d ∷ ds) h = ((row, d, h.0, refl), row_inside row ds h.1)

  rows_inside : (rows : List Row) (lists : List (List Datum)) → AllZip AreInside rows lists
      → AllByRecursion IsInside (with_each (bind v) rows lists)
  rows_inside [] [] h = tt
  rows_inside [] (list ∷ lists) h = tt
  rows_inside (row ∷ rows) [] h = tt
  rows_inside (row ∷ rows) (list ∷ lists) h =
      all_join (map (bind v row) list) (with_each (bind v) rows lists) (row_inside row list h.0)
      (rows_inside rows lists h.1)

  kept_inside : (own : MaybeExpr) (row : Row) (ds : List Datum) → AreInside row ds
      → AreInside row (documents_kept v (passes own) None row ds)
  kept_inside own row [] h = tt
  kept_inside own row (d ∷ ds) h = by (passes own (bind v row d)) (kept_inside own row ds h.1)
    where
      by : (b : Bool) → AreInside row (documents_kept v (passes own) None row ds)
          → AreInside row (map (λ (e : Datum). e) (cond b (d ∷ filter (λ e. passes own (bind v row e)) ds)
          (filter (λ e. passes own (bind v row e)) ds)))
      by true k = (h.0, k)
      by false k = k

  pub filtered_inside : (row : Row) (ds : List Datum) → AreInside row (filter (test row) ds)
  filtered_inside row [] = tt
  filtered_inside row (d ∷ ds) = by (test row d) refl (filtered_inside row ds)
    where
      by : (b : Bool) → test row d ≡ b → AreInside row (filter (test row) ds)
          → AreInside row (cond b (d ∷ filter (test row) ds) (filter (test row) ds))
      by true e k = (e, k)
      by false e k = k

  module _ (own : MaybeExpr) (ds : List Datum) where
    lists_inside : (rows : List Row)
        → AllZip AreInside rows
        (map (λ row. documents_kept v (passes own) None row (filter (test row) ds)) rows)
    lists_inside [] = tt
    lists_inside (row ∷ rows) =
        (kept_inside own row (filter (test row) ds) (filtered_inside row ds), lists_inside rows)

    -- each row of an Index is one with a document in its bounds
    pub scanned_inside : (rows out : List Row)
        → Scanned v (passes own) None (λ row. filter (test row) ds) rows out → AllByRecursion IsInside out
    scanned_inside rows out p = recursion_from_All _ _ (All-permutation IsInside _ out p
        (All-from_recursion _ _ (rows_inside rows _ (lists_inside rows))))

    module _ (names : List (List ℕ)) (descending : Bool) where
      in_order_inside : (rows : List Row) (lists : List (List Datum))
          → AllZip (λ row list. (sorted : List Datum)
          × InIndexOrder names descending (filter (test row) ds) sorted
          × (list ≡ documents_kept v (passes own) None row sorted)) rows lists
          → AllZip AreInside rows lists
      in_order_inside [] [] h = tt
      in_order_inside [] (list ∷ lists) h = absurd h
      in_order_inside (row ∷ rows) [] h = absurd h
      in_order_inside (row ∷ rows) (list ∷ lists) h = (
        subst (AreInside row) (sym h.0.2)
            (kept_inside own row h.0.0 (recursion_from_All _ _
            (All-permutation (λ d. test row d ≡ true) _ h.0.0 h.0.1.0
            (All-from_recursion _ _ (filtered_inside row ds))))),
        in_order_inside rows lists h.1,
      )

      pub ordered_inside : (rows out : List Row)
          → ScannedInOrder names descending v (passes own) None (λ row. filter (test row) ds) rows out
          → AllByRecursion IsInside out
      ordered_inside rows out h = subst (AllByRecursion IsInside) (sym h.2)
          (rows_inside rows h.0 (in_order_inside rows h.0 h.1))

  -- two conditions that hold alike of documents in the bounds let the same rows pass
  pub same_inside : (c e : ExprTree)
      → ((row : Row) (d : Datum) → test row d ≡ true → holds c (bind v row d) ≡ holds e (bind v row d))
      → (rows : List Row) → AllByRecursion IsInside rows → filter (holds c) rows ≡ filter (holds e) rows
  same_inside c e h [] k = refl
  same_inside c e h (r ∷ rows) k =
      let alike : holds c r ≡ holds e r =
      ap (holds c) k.0.3 ∙ h k.0.0 k.0.1 k.0.2 ∙ sym (ap (holds e) k.0.3) in
      ap₂ (λ b rs. cond b (r ∷ rs) rs) alike (same_inside c e h rows k.1)

  -- one that holds of all of them lets all pass
  pub all_inside : (c : ExprTree)
      → ((row : Row) (d : Datum) → test row d ≡ true → holds c (bind v row d) ≡ true)
      → (rows : List Row) → AllByRecursion IsInside rows → filter (holds c) rows ≡ rows
  all_inside c h [] k = refl
  all_inside c h (r ∷ rows) k =
      let passes_it : holds c r ≡ true = ap (holds c) k.0.3 ∙ h k.0.0 k.0.1 k.0.2 in
      ap₂ (λ b rs. cond b (r ∷ rs) rs) passes_it (all_inside c h rows k.1)

indexed_inside : (w : Dataset) (x : Reading) (index : ℕ) (equal : ExprTrees) (last : Last ExprTree)
    (ordered : Option Bool) → x.attrs ≡ None → (rows out : List Row)
    → Indexed w Outside x index equal last ordered rows out
    → AllByRecursion (IsInside x.var (in_index w x index equal last)) out
indexed_inside w x index equal last None a rows out h =
    let test = in_index w x index equal last in
    let ds = read w x.coll x.shard Outside in
    scanned_inside x.var test x.filter ds rows out
    (subst (λ (attrs : Option (List (List ℕ))).
    Scanned x.var (passes x.filter) attrs (λ row. filter (test row) ds) rows out) a h)
indexed_inside w x index equal last (Some descending) a rows out h =
    let test = in_index w x index equal last in
    let ds = read w x.coll x.shard Outside in
    let names = attributes_in w.facts x.coll index in
    ordered_inside x.var test x.filter ds names descending rows out
    (subst (λ (attrs : Option (List (List ℕ))).
    ScannedInOrder names descending x.var (passes x.filter) attrs (λ row. filter (test row) ds) rows out) a h)

-- over an Index a condition may stand for another one that holds alike in its bounds
pub covered : ConditionMayBeReplaced
covered w x index equal last ordered c e a alike b start out (mid, (rows, runs, given), is) = (
  mid,
  (rows, runs, given),
  is ∙ filtered e mid
      ∙ sym (same_inside x.var (in_index w x index equal last) c e alike mid
      (indexed_inside w x index equal last ordered a rows mid given))
      ∙ sym (filtered c mid),
)

-- and the Filter may go where its condition holds in all of them
pub covered_whole : FilterMayGo
covered_whole w x index equal last ordered c a holds_all b start out (rows, runs, given) = (
  out,
  (rows, runs, given),
  sym (filtered c out ∙ all_inside x.var (in_index w x index equal last) c holds_all out
      (indexed_inside w x index equal last ordered a rows out given)),
)
