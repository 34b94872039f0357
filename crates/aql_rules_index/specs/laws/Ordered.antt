-- The rule use-index-for-sort, its core: of one row the documents of an ordered Index are sorted by the first
-- attributes of the index, so a Sort by these over the same Index in any order may give them.
use Rattle.std.proofs.Common.{◌≡◌, ◌∙◌, ℕ, zero, suc, List, [], ◌∷◌, ◌++◌, map, take, Bool, false, cond, Option, Some, None, refl, sym, ap, ap₂, subst}
use Rattle.std.specs.Prelude.{zip, IsPermutation, unwrap_or}
use Rattle.std.specs.Ordering.{is_lt, ordering_then}
use Rattle.std.specs.declared.cmp.Ordering.{Ordering}
use Rattle.std.specs.declared.cmp.Ordering.TheVariants.{Less, Equal, Greater}
use Rattle.std.proofs.lemmas.List.{append-nil}
use Rattle.std.proofs.lemmas.List.Sorted.{IsPermutation-map, IsPermutation-append_left, IsPermutation-refl}
use Rattle.aql_value.specs.Datum.{Datum, null}
use Rattle.aql_value.specs.Contents.{at_name}
use Rattle.aql_tree.specs.declared.syntax.Ident.{Ident}
use Rattle.aql_tree.specs.Tree.{ExprTrees}
use Rattle.aql_meaning.specs.AtRows.{keys_of, passes, row_before}
use Rattle.aql_meaning.specs.Clauses.{key_cmp, keys_cmp, KeyedRow, comes_before, Sorts}
use Rattle.aql_meaning.specs.Documents.{index_keys, InIndexOrder, documents_kept, projection}
use Rattle.aql_meaning.specs.Row.{Row, bind}
use Rattle.aql_meaning.specs.laws.SomeOrder.{keyed_order}
use Rattle.aql_meaning.specs.laws.Idents.{same_self}
use Rattle.aql_plan.specs.Facts.{attributes_in}
use Rattle.aql_plan.specs.Fits.{attribute_keys}
use Rattle.aql_plan.specs.Runs.{read_in_bounds}
use Rattle.aql_value.specs.laws.Alls.{all_more, all_mapped}
use Rattle.aql_index.specs.laws.Passing.{InPairs, in_pairs, from_pairs, pairs_filter}
use Rattle.aql_rules_order.specs.laws.Permuted.{filter_permuted, keyed, zip_keyed, unkeyed}
use Rattle.aql_rules_index.specs.Theorems.{OrderedIndexIsSorted}
use Rattle.aql_rules_index.specs.UseIndexForSort.{directions_of}

-- ---- pairs in order

pub pairs_weaken : {X : Type 0} (lt less : X → X → Bool) → ((a b : X) → lt a b ≡ false → less a b ≡ false)
    → (xs : List X) → InPairs lt xs → InPairs less xs
pairs_weaken lt less f [] h = tt
pairs_weaken lt less f (x ∷ xs) h =
    (all_more (λ w. lt w x ≡ false) (λ w. less w x ≡ false) (λ w. f w x) xs h.0, pairs_weaken lt less f xs h.1)

pub pairs_map : {X Y : Type 0} (f : X → Y) (lt : Y → Y → Bool) (xs : List X)
    → InPairs (λ a b. lt (f a) (f b)) xs → InPairs lt (map f xs)
pairs_map f lt [] h = tt
pairs_map f lt (x ∷ xs) h = (all_mapped (λ w. lt w (f x) ≡ false) f xs h.0, pairs_map f lt xs h.1)

-- ---- keys

pub keys_are : (x : Ident) (row : Row) (d : Datum) (names : List (List ℕ))
    → keys_of (attribute_keys x names) (bind x row d) ≡ index_keys names d
keys_are x row d [] = refl
keys_are x row d (name ∷ names) =
    ap₂ (λ v vs. v ∷ vs) (ap (λ b. at_name (unwrap_or (cond b (Some d) (row x)) null) name) (same_self x))
    (keys_are x row d names)

-- those that don't fall by all attributes don't by the first ones
pub first_keys : (descending : Bool) (k : ℕ) (names : List (List ℕ)) (a b : Datum)
    → is_lt (keys_cmp (directions_of descending names) (index_keys names a) (index_keys names b)) ≡ false
    → is_lt (keys_cmp (directions_of descending (take k names)) (index_keys (take k names) a)
    (index_keys (take k names) b)) ≡ false
first_keys descending zero names a b h = refl
first_keys descending (suc k) [] a b h = refl
first_keys descending (suc k) (name ∷ names) a b h =
    by (key_cmp descending (at_name a name) (at_name b name)) (first_keys descending k names a b) h
  where
    by : (o : Ordering)
        → (is_lt (keys_cmp (directions_of descending names) (index_keys names a) (index_keys names b)) ≡ false
        → is_lt (keys_cmp (directions_of descending (take k names)) (index_keys (take k names) a)
        (index_keys (take k names) b)) ≡ false)
        → is_lt (ordering_then o (keys_cmp (directions_of descending names) (index_keys names a)
        (index_keys names b))) ≡ false
        → is_lt (ordering_then o (keys_cmp (directions_of descending (take k names))
        (index_keys (take k names) a) (index_keys (take k names) b))) ≡ false
    by Less ih g = g
    by Equal ih g = ih g
    by Greater ih g = refl

-- ---- one row

module _ (x : Ident) (row : Row) (own : Row → Bool) (names : List (List ℕ)) (descending : Bool) (k : ℕ) where
  abbrev by_all : Datum → Datum → Bool
  by_all a b = is_lt (keys_cmp (directions_of descending names) (index_keys names a) (index_keys names b))

  row_not_before : (a b : Datum) → by_all a b ≡ false
      → row_before (directions_of descending (take k names)) (attribute_keys x (take k names)) (bind x row a)
      (bind x row b) ≡ false
  row_not_before a b h =
      ap is_lt (ap₂ (keys_cmp (directions_of descending (take k names))) (keys_are x row a (take k names))
      (keys_are x row b (take k names)))
      ∙ first_keys descending k names a b h

  pub rows_in_pairs : (docs sorted : List Datum) → InIndexOrder names descending docs sorted
      → InPairs (row_before (directions_of descending (take k names)) (attribute_keys x (take k names)))
      (map (bind x row) (documents_kept x own None row sorted))
  rows_in_pairs docs sorted h =
      let before = row_before (directions_of descending (take k names)) (attribute_keys x (take k names)) in
      let passing = pairs_filter by_all (λ d. own (bind x row d)) sorted
      (in_pairs by_all (keyed_order (directions_of descending names) (index_keys names)) sorted h.1) in
      pairs_map (bind x row) before _
      (pairs_map (projection None) (λ a b. before (bind x row a) (bind x row b)) _
      (pairs_weaken by_all (λ a b. before (bind x row a) (bind x row b)) row_not_before _ passing))

-- rows in pairs are what a Sort gives of themselves
pub sorts_itself : (directions : List Bool) (es : ExprTrees) (rows : List Row)
    → InPairs (row_before directions es) rows → Sorts directions (map (keys_of es) rows) rows rows
sorts_itself directions es rows h = (
  zip (map (keys_of es) rows) rows,
  IsPermutation-refl (zip (map (keys_of es) rows) rows),
  from_pairs (comes_before directions) (keyed_order directions (λ (key : KeyedRow). key.0)) _
      (subst (InPairs (comes_before directions)) (sym (zip_keyed es rows))
      (pairs_map (keyed es) (comes_before directions) rows h)),
  sym (unkeyed es rows),
)

one_row : (v : Ident) (row : Row) (own : Row → Bool) (names : List (List ℕ)) (descending : Bool) (k : ℕ)
    (docs sorted : List Datum) (out : List Row) → InIndexOrder names descending docs sorted
    → out ≡ map (bind v row) (documents_kept v own None row sorted) ++ []
    → IsPermutation (map (bind v row) (documents_kept v own None row docs) ++ []) out
    × Sorts (directions_of descending (take k names)) (map (keys_of (attribute_keys v (take k names))) out)
    out out
one_row v row own names descending k docs sorted out order e =
    let directions = directions_of descending (take k names) in
    let es = attribute_keys v (take k names) in
    let moved = IsPermutation-append_left [] _ _ (IsPermutation-map (bind v row) _ _
    (IsPermutation-map (projection None) _ _
    (filter_permuted (λ d. own (bind v row d)) docs sorted order.0))) in
    let pairs = subst (InPairs (row_before directions es))
    (sym (e ∙ append-nil (map (bind v row) (documents_kept v own None row sorted))))
    (rows_in_pairs v row own names descending k docs sorted order) in (
      subst (IsPermutation (map (bind v row) (documents_kept v own None row docs) ++ [])) (sym e) moved,
      sorts_itself directions es out pairs,
    )

-- what an ordered Index gives of one row, an Index in any order may give, and a Sort by its first attributes
-- of that
pub sorted_by_index : OrderedIndexIsSorted
sorted_by_index w site x index equal last descending k start row out a ([], each, is) = absurd each
sorted_by_index w site x index equal last descending k start row out a (list ∷ other ∷ lists, each, is) =
    absurd each.1
sorted_by_index w site x index equal last descending k start row out a (list ∷ [], each, is) =
    let docs = read_in_bounds w site x index equal last row in
    let sorted = each.0.0 in
    let list_is = each.0.2
    ∙ ap (λ attrs. documents_kept x.var (passes x.filter) attrs row sorted) a in
    let out_is = is ∙ ap (λ ds. map (bind x.var row) ds ++ []) list_is in
    let both = one_row x.var row (passes x.filter) (attributes_in w.facts x.coll index) descending k docs
    sorted out each.0.1 out_is in (
      subst (λ (attrs : Option (List (List ℕ))).
          IsPermutation (map (bind x.var row) (documents_kept x.var (passes x.filter) attrs row docs) ++ [])
          out)
          (sym a) both.0,
      (out, both.1, refl),
    )
