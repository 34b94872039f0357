-- Each clause's word, row by row. A clause that takes one row after another makes the same rows, permuted, of
-- permuted rows.
use Rattle.std.proofs.Common.{ℕ, ◌≡◌, ◌∙◌, sym, ap, subst, refl, List, [], ◌∷◌, ◌++◌, map, Bool, true, false, true≢false, cond}
use Rattle.std.specs.Prelude.{Option, Some, None, MatchOption, flat_map, zip, IsPermutation}
use Rattle.std.specs.List.{AllZip}
use Rattle.std.proofs.lemmas.List.Sorted.{IsPermutation-refl, IsPermutation-sym, IsPermutation-trans}
use Rattle.aql_value.specs.Datum.{Datum, null, boolean}
use Rattle.aql_value.specs.Contents.{elements}
use Rattle.aql_value.specs.Truth.{truth}
use Rattle.aql_value.specs.Database.{Database, documents_named}
use Rattle.aql_func.specs.Objects.{id_text}
use Rattle.aql_tree.specs.declared.syntax.Ident.{Ident}
use Rattle.aql_tree.specs.Tree.{TraversalShape, ClauseTree, for_each, for_documents, traversal, filter_by, let_be, sort_by, limit, collect}
use Rattle.aql_meaning.specs.Row.{Row, bind}
use Rattle.aql_meaning.specs.Clauses.{with_each, with_elements, with_documents, filter_true, with_values}
use Rattle.aql_meaning.specs.Value.{value_or}
use Rattle.aql_meaning.specs.Paths.{Path, TraversesFrom, Traverses, path_row, long_paths, with_paths}
use Rattle.aql_meaning.specs.Options.{with_settings}
use Rattle.aql_meaning.specs.Visible.{collection_meant, edges_named}
use Rattle.aql_meaning.specs.Meaning.{Evaluates, Changes}
use Rattle.aql_meaning.specs.Theorems.{takes_rows_alone}
use Rattle.aql_meaning.specs.laws.Shuffles.{shuffle, through, flat_permuted}

pub elements_flat : (x : Ident) (rows : List Row) (vs : List Datum)
    → with_elements x rows vs ≡ flat_map (λ (p : Row × Datum). map (bind x p.0) (elements p.1)) (zip rows vs)
elements_flat x [] vs = refl
elements_flat x (r ∷ rows) [] = refl
elements_flat x (r ∷ rows) (v ∷ vs) = ap (λ rs. map (bind x r) (elements v) ++ rs) (elements_flat x rows vs)

pub documents_flat : (x : Ident) (ds : List Datum) (rows : List Row)
    → with_documents x ds rows ≡ flat_map (λ row. map (bind x row) ds) rows
documents_flat x ds [] = refl
documents_flat x ds (r ∷ rows) = ap (λ rs. map (bind x r) ds ++ rs) (documents_flat x ds rows)

abbrev pub one_if : Bool → Row → List Row
one_if b row = cond b (row ∷ []) []

pub kept_flat : (rows : List Row) (vs : List Datum)
    → filter_true rows vs ≡ flat_map (λ (p : Row × Datum). one_if (truth p.1) p.0) (zip rows vs)
kept_flat [] vs = refl
kept_flat (r ∷ rows) [] = refl
kept_flat (r ∷ rows) (v ∷ vs) = by (truth v) (kept_flat rows vs)
  where
    by : (b : Bool) {xs ys : List Row} → xs ≡ ys → cond b (r ∷ xs) xs ≡ one_if b r ++ ys
    by true e = ap (λ rs. r ∷ rs) e
    by false e = e

pub bound_flat : (x : Ident) (rows : List Row) (vs : List Datum)
    → with_values x rows vs ≡ flat_map (λ (p : Row × Datum). bind x p.0 p.1 ∷ []) (zip rows vs)
bound_flat x [] vs = refl
bound_flat x (r ∷ rows) [] = refl
bound_flat x (r ∷ rows) (v ∷ vs) = ap (λ rs. bind x r v ∷ rs) (bound_flat x rows vs)

-- ---- rows that are related, place by place

append_related : {A B : Type 0} (R : A → B → Type 0) (xs : List A) (ys : List B) (xs' : List A) (ys' : List B)
    → AllZip R xs ys → AllZip R xs' ys' → AllZip R (xs ++ xs') (ys ++ ys')
append_related R [] [] xs' ys' h k = k
append_related R [] (y ∷ ys) xs' ys' h k = absurd h
append_related R (x ∷ xs) [] xs' ys' h k = absurd h
append_related R (x ∷ xs) (y ∷ ys) xs' ys' h k = (h.0, append_related R xs ys xs' ys' h.1 k)

-- what each of two related rows gives with the same things is related
module _ {X : Type 0} (R S : Row → Row → Type 0) (f g : Row → X → Row)
    (step : (r s : Row) (x : X) → R r s → S (f r x) (g s x)) where
  own_related : (r s : Row) (xs : List X) → R r s → AllZip S (map (f r) xs) (map (g s) xs)
  own_related r s [] h = tt
  own_related r s (x ∷ xs) h = (step r s x h, own_related r s xs h)

  pub each_related : (rows others : List Row) (lists : List (List X)) → AllZip R rows others
      → AllZip S (with_each f rows lists) (with_each g others lists)
  each_related [] [] lists h = tt
  each_related [] (s ∷ others) lists h = absurd h
  each_related (r ∷ rows) [] lists h = absurd h
  each_related (r ∷ rows) (s ∷ others) [] h = tt
  each_related (r ∷ rows) (s ∷ others) (xs ∷ lists) h =
      append_related S _ _ _ _ (own_related r s xs h.0) (each_related rows others lists h.1)

  -- the same where the things depend on the row, and are the same for related rows
  pub each_own_related : (a b : Row → List X) → ((r s : Row) → R r s → a r ≡ b s) → (rows others : List Row)
      → AllZip R rows others → AllZip S (with_each f rows (map a rows)) (with_each g others (map b others))
  each_own_related a b same [] [] h = tt
  each_own_related a b same [] (s ∷ others) h = absurd h
  each_own_related a b same (r ∷ rows) [] h = absurd h
  each_own_related a b same (r ∷ rows) (s ∷ others) h =
      append_related S _ _ _ _
      (subst (λ xs. AllZip S (map (f r) (a r)) (map (g s) xs)) (same r s h.0) (own_related r s (a r) h.0))
      (each_own_related a b same rows others h.1)

-- ---- permuted rows

-- a word that takes one row with its value after another
pub by_value : (P : Row → Datum → Type 0) (word : List Row → List Datum → List Row)
    (f : Row × Datum → List Row)
    → ((rows : List Row) (vs : List Datum) → word rows vs ≡ flat_map f (zip rows vs))
    → (rows others out : List Row) → IsPermutation rows others
    → ((vs : List Datum) × AllZip P rows vs × (out ≡ word rows vs))
    → (other : List Row) × ((vs : List Datum) × AllZip P others vs × (other ≡ word others vs))
    × IsPermutation out other
by_value P word f is rows others out p h =
    let t = through P (shuffle rows others p) h.0 h.1 in (
      word others t.0,
      (t.0, t.3, refl),
      subst (λ rs. IsPermutation rs (word others t.0)) (sym (h.2 ∙ is rows h.0))
          (subst (λ rs. IsPermutation (flat_map f (zip rows h.0)) rs) (sym (is others t.0))
          (flat_permuted f t.2)),
    )

pub documents_permuted : (x : Ident) (ds : List Datum) (rows others out : List Row)
    → IsPermutation rows others
    → IsPermutation (with_documents x ds rows) out → IsPermutation (with_documents x ds others) out
documents_permuted x ds rows others out p h =
    IsPermutation-trans _ _ _
    (subst (λ rs. IsPermutation rs (with_documents x ds rows)) (sym (documents_flat x ds others))
    (subst (λ rs. IsPermutation (flat_map (λ row. map (bind x row) ds) others) rs)
    (sym (documents_flat x ds rows))
    (flat_permuted (λ row. map (bind x row) ds) (shuffle others rows (IsPermutation-sym _ _ p)))))
    h

-- the rows of paths beside the values from which the paths were traversed
paths_flat : (P : Row → Datum → Type 0) (f : Row → Path → Row) (g : List Path → List Path)
    (rows : List Row) (starts : List Datum) → AllZip P rows starts
    → (paths : List (List Path))
    → with_each f rows (map g paths)
    ≡ flat_map (λ (from : (Row × Datum) × List Path). map (f from.0.0) (g from.1))
    (zip (zip rows starts) paths)
paths_flat P f g [] [] h paths = refl
paths_flat P f g [] (v ∷ starts) h paths = absurd h
paths_flat P f g (r ∷ rows) [] h paths = absurd h
paths_flat P f g (r ∷ rows) (v ∷ starts) h [] = refl
paths_flat P f g (r ∷ rows) (v ∷ starts) h (walked ∷ paths) =
    ap (λ rs. map (f r) (g walked) ++ rs) (paths_flat P f g rows starts h.1 paths)

pub traversal_permuted : (db : Database) (w : TraversalShape) (es : List Datum) (prune : Row → Bool)
    (P : Row → Datum → Type 0)
    (rows others out : List Row) → IsPermutation rows others
    → ((vs : List Datum) × AllZip P rows vs × Traverses db w es prune rows vs out)
    → (vs : List Datum) × AllZip P others vs × Traverses db w es prune others vs out
traversal_permuted db w es prune P rows others out p h =
    let t = through P (shuffle rows others p) h.0 h.1 in
    let u = through
    (λ (from : Row × Datum) walked.
    TraversesFrom w es (λ t. prune (path_row db w from.0 t)) (id_text from.1) walked)
    t.2 h.2.0 h.2.1 in
    let same = IsPermutation-sym _ _ (flat_permuted
    (λ (from : (Row × Datum) × List Path). map (path_row db w from.0.0) (long_paths w from.1)) u.2) in
    let turned = subst (λ rs. IsPermutation rs (with_paths db w rows h.2.0))
    (sym (paths_flat P (path_row db w) (long_paths w) others t.0 t.3 u.0))
    (subst (λ rs. IsPermutation (flat_map
    (λ (from : (Row × Datum) × List Path). map (path_row db w from.0.0) (long_paths w from.1))
    (zip (zip others t.0) u.0)) rs)
    (sym (paths_flat P (path_row db w) (long_paths w) rows h.0 h.1 h.2.0)) same) in
    (t.0, t.3, (u.0, u.3, IsPermutation-trans _ _ _ turned h.2.2))

pub permutation_passes : (db : Database) (c : ClauseTree) → takes_rows_alone c ≡ true
    → (start : Row) (vars : List Ident)
    (rows others out : List Row) → IsPermutation rows others → Changes db c start vars rows out
    → (other : List Row) × Changes db c start vars others other × IsPermutation out other
permutation_passes db (for_each x e) a start vars rows others out p h = by (collection_meant e start vars) h
  where
    by : (m : Option (List ℕ))
        → MatchOption m
        ((vs : List Datum) × AllZip (Evaluates db e null) rows vs × (out ≡ with_elements x rows vs))
        (λ name. IsPermutation (with_documents x (documents_named db name) rows) out)
        → (other : List Row)
        × MatchOption m
        ((vs : List Datum) × AllZip (Evaluates db e null) others vs × (other ≡ with_elements x others vs))
        (λ name. IsPermutation (with_documents x (documents_named db name) others) other)
        × IsPermutation out other
    by None h = by_value (Evaluates db e null) (with_elements x)
        (λ (p : Row × Datum). map (bind x p.0) (elements p.1)) (elements_flat x) rows others out p h
    by (Some name) h =
        (out, documents_permuted x (documents_named db name) rows others out p h, IsPermutation-refl out)
permutation_passes db (for_documents x name) a start vars rows others out p h =
    (out, documents_permuted x (documents_named db name) rows others out p h, IsPermutation-refl out)
permutation_passes db (traversal w e names prune settings) a start vars rows others out p h = (
  out,
  traversal_permuted db (with_settings settings w) (edges_named db names)
      (λ row. truth (value_or prune null row (boolean false))) (Evaluates db e null) rows others out p h,
  IsPermutation-refl out,
)
permutation_passes db (filter_by e) a start vars rows others out p h =
    by_value (Evaluates db e null) filter_true
    (λ (p : Row × Datum). one_if (truth p.1) p.0) kept_flat rows others out p h
permutation_passes db (let_be x e) a start vars rows others out p h =
    by_value (Evaluates db e null) (with_values x) (λ (p : Row × Datum). bind x p.0 p.1 ∷ [])
    (bound_flat x) rows others out p h
permutation_passes db (sort_by directions es) a start vars rows others out p h = absurd (true≢false (sym a))
permutation_passes db (limit offset count) a start vars rows others out p h = absurd (true≢false (sym a))
permutation_passes db (collect xs es gs i) a start vars rows others out p h = absurd (true≢false (sym a))
