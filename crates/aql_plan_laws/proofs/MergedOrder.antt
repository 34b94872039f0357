-- Where each list does not descend, their merge does not descend.
use Rattle.std.proofs.Common.{◌+◌, ◌<◌, length, get_or, arith, ◌≡◌, ℕ, zero, suc, List, [], ◌∷◌, Bool, false, subst}
use Rattle.std.specs.Prelude.{IsSortedBy, Some, slice_get, slice_set}
use Rattle.std.specs.List.{AllByRecursion}
use Rattle.std.specs.Cmp.{IsStrictWeakOrder}
use Rattle.aql_meaning.specs.Row.{Row}
use Rattle.aql_meaning.specs.laws.SomeOrder.{Ascends, AscendsAll, keyed_order, sorted_of_ascends}
use Rattle.aql_tree.specs.Tree.{ExprTrees}
use Rattle.aql_meaning.specs.AtRows.{keys_of, row_before}
use Rattle.aql_meaning.specs.Merges.{NotBefore, Merged}

module _ (below : Row → Row → Bool) (order : IsStrictWeakOrder below) where
  -- each list ascends, and none of its rows comes before `row`
  abbrev Behind : Row → List (List Row) → Type 0
  Behind row lists = AllByRecursion (Ascends below order row) lists

  taken_behind : (lists : List (List Row)) → AllByRecursion (AscendsAll below order) lists → (row : Row)
      → AllByRecursion (NotBefore below row) lists → Behind row lists
  taken_behind [] h row n = tt
  taken_behind ([] ∷ lists) h row n = (tt, taken_behind lists h.1 row n.1)
  taken_behind ((first ∷ rest) ∷ lists) h row n = ((n.0, h.0), taken_behind lists h.1 row n.1)

  all_of : (row : Row) (list : List Row) → Ascends below order row list → AscendsAll below order list
  all_of row [] h = tt
  all_of row (s ∷ list) h = h.1

  all_behind : (row : Row) (lists : List (List Row)) → Behind row lists
      → AllByRecursion (AscendsAll below order) lists
  all_behind row [] h = tt
  all_behind row (list ∷ lists) h = (all_of row list h.0, all_behind row lists h.1)

  -- the rest of the list that the row was taken of
  rest_behind : (lists : List (List Row)) → AllByRecursion (AscendsAll below order) lists
      → (place : ℕ) (row : Row) (rest : List Row) → slice_get lists place ≡ Some (row ∷ rest)
      → AllByRecursion (NotBefore below row) lists → Behind row (slice_set lists place rest)
  rest_behind [] h place row rest e n = cc
  rest_behind (list ∷ lists) h zero row rest e n = (by list h.0 e, taken_behind lists h.1 row n.1)
    where
      by : (list : List Row) → AscendsAll below order list → Some list ≡ Some (row ∷ rest)
          → Ascends below order row rest
      by [] a d = cc
      by (s ∷ more) a d =
          let first : s ≡ row = cc in
          let others : more ≡ rest = cc in
          subst (λ (q : List Row). Ascends below order row q) others
          (subst (λ (q : Row). Ascends below order q more) first a)
  rest_behind ([] ∷ lists) h (suc place) row rest e n = (tt, rest_behind lists h.1 place row rest e n.1)
  rest_behind ((s ∷ more) ∷ lists) h (suc place) row rest e n =
      ((n.0, h.0), rest_behind lists h.1 place row rest e n.1)

  first_behind : (row : Row) (lists : List (List Row)) → Behind row lists → (place : ℕ) (next : Row)
      → (rest : List Row) → slice_get lists place ≡ Some (next ∷ rest) → below next row ≡ false
  first_behind row [] h place next rest e = cc
  first_behind row (list ∷ lists) h zero next rest e = by list h.0 e
    where
      by : (list : List Row) → Ascends below order row list → Some list ≡ Some (next ∷ rest)
          → below next row ≡ false
      by [] a d = cc
      by (s ∷ more) a d =
          let first : s ≡ next = cc in
          subst (λ (q : Row). below q row ≡ false) first a.0
  first_behind row (list ∷ lists) h (suc place) next rest e = first_behind row lists h.1 place next rest e

  merged_from : (out : List Row) (row : Row) (lists : List (List Row)) → Behind row lists
      → Merged below lists out → Ascends below order row out
  merged_from [] row lists h m = tt
  merged_from (next ∷ out) row lists h m = (
    first_behind row lists h m.0 next m.1 m.2,
    merged_from out next (slice_set lists m.0 m.1)
        (rest_behind lists (all_behind row lists h) m.0 next m.1 m.2 m.3) m.4,
  )

  pub merged_ascends : (out : List Row) (lists : List (List Row))
      → AllByRecursion (AscendsAll below order) lists
      → Merged below lists out → AscendsAll below order out
  merged_ascends [] lists h m = tt
  merged_ascends (row ∷ out) lists h m = merged_from out row (slice_set lists m.0 m.1)
      (rest_behind lists h m.0 row m.1 m.2 m.3) m.4

module _ {X : Type 0} (lt : X → X → Bool) (order : IsStrictWeakOrder lt) where
  ascends_from : (x : X) (xs : List X) → IsSortedBy lt (x ∷ xs) → Ascends lt order x xs
  ascends_from x [] h = tt
  ascends_from x (y ∷ ys) h = (h 0 x (omega arith) (omega arith), ascends_from y ys (shifted h))
    where
      shifted : IsSortedBy lt (x ∷ y ∷ ys) → IsSortedBy lt (y ∷ ys)
      shifted h = λ k d low l. grind (arith, h (suc k) d (omega arith) (omega arith))

  ascends_of_sorted : (xs : List X) → IsSortedBy lt xs → AscendsAll lt order xs
  ascends_of_sorted [] h = tt
  ascends_of_sorted (x ∷ xs) h = ascends_from x xs h

  all_ascend : (lists : List (List X)) → AllByRecursion (IsSortedBy lt) lists
      → AllByRecursion (AscendsAll lt order) lists
  all_ascend [] h = tt
  all_ascend (list ∷ lists) h = (ascends_of_sorted list h.0, all_ascend lists h.1)

pub merge_does_not_descend : (directions : List Bool) (es : ExprTrees) (lists : List (List Row))
    (out : List Row)
    → AllByRecursion (IsSortedBy (row_before directions es)) lists
    → Merged (row_before directions es) lists out
    → IsSortedBy (row_before directions es) out
merge_does_not_descend directions es lists out h m =
    let order = keyed_order directions (keys_of es) in
    sorted_of_ascends (row_before directions es) order out
    (merged_ascends (row_before directions es) order out lists
    (all_ascend (row_before directions es) order lists h) m)
