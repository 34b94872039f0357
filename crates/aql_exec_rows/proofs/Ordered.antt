-- SORT: what is held stands for all rows that were put in.
use Rattle.std.proofs.Common.{◌≡◌, ◌∙◌, ℕ, ◌+◌, ◌≤◌, ◌++◌, List, [], ◌∷◌, length, map, reverse, Bool, Option, Some, None, refl, sym, ap, subst, arith, append_assoc, length-append}
use Rattle.std.specs.Prelude.{zip}
use Rattle.std.specs.List.Sorted.{IsPermutation, IsSortedBy}
use Rattle.std.proofs.lemmas.List.{append-nil, map-append, take-map, reverse-reverse, length-take, length-map}
use Rattle.std.proofs.lemmas.List.Elements.{All-take}
use Rattle.std.proofs.lemmas.List.Sorted.{IsPermutation-trans, IsPermutation-append_left, All-permutation, length_permutation}
use Rattle.aql_tree.specs.Tree.{ExprTrees}
use Rattle.aql_meaning.specs.Row.{Row}
use Rattle.aql_meaning.specs.AtRows.{keys_of}
use Rattle.aql_meaning.specs.Clauses.{KeyedRow, comes_before, Sorts, first_rows}
use Rattle.aql_meaning.specs.laws.SomeOrder.{keyed_order}
use Rattle.aql_exec_rows.specs.Keys.{with_keys, rows_alone, first_of}
use Rattle.aql_exec_rows.specs.Sorting.{FirstInOrder, HasExactly, AllHave, AreFew}
use Rattle.aql_exec_rows.proofs.Least.{cut_least}

-- ---- the node

zipped : (es : ExprTrees) (rows : List Row) → zip (map (keys_of es) rows) rows ≡ map (with_keys es) rows
zipped es [] = refl
zipped es (row ∷ rows) = ap (λ z. with_keys es row ∷ z) (zipped es rows)

alone_first : (limit : Option ℕ) (ks : List KeyedRow)
    → rows_alone (first_of limit ks) ≡ first_rows limit (rows_alone ks)
alone_first None ks = refl
alone_first (Some n) ks = sym (take-map (λ (k : KeyedRow). k.1) n ks)

-- the first rows in an order of their keys are what a Sort gives
pub sorts : (directions : List Bool) (es : ExprTrees) (limit : Option ℕ) (rows out : List Row)
    → FirstInOrder directions limit (map (with_keys es) rows) out
    → (sorted : List Row) × Sorts directions (map (keys_of es) rows) rows sorted
    × (out ≡ first_rows limit sorted)
sorts directions es limit rows out h = (
  rows_alone h.0,
  (h.0, subst (λ z. IsPermutation z h.0) (sym (zipped es rows)) h.1, h.2, refl),
  h.3 ∙ alone_first limit h.0,
)

-- ---- rows that are put in

-- rows get their keys
pub joined_rows : (es : ExprTrees) (held after : List KeyedRow) (block coming : List Row)
    → after ≡ held ++ map (with_keys es) block
    → after ++ map (with_keys es) ([] ++ coming) ≡ held ++ map (with_keys es) (block ++ coming)
joined_rows es held after block coming e =
    ap (λ z. z ++ map (with_keys es) coming) e
    ∙ append_assoc held (map (with_keys es) block) (map (with_keys es) coming)
    ∙ ap (λ z. held ++ z) (sym (map-append (with_keys es) block coming))

-- the first rows in order stand for all that are held
pub first_stand : (directions : List Bool) (limit : Option ℕ) (held sorted more : List KeyedRow)
    (out : List Row)
    → IsPermutation held sorted → IsSortedBy (comes_before directions) sorted
    → FirstInOrder directions limit (first_of limit sorted ++ more) out
    → FirstInOrder directions limit (held ++ more) out
first_stand directions None held sorted more out p up h =
    (h.0, IsPermutation-trans _ _ _ (IsPermutation-append_left more held sorted p) h.1, h.2, h.3)
first_stand directions (Some n) held sorted more out p up h =
    let all = cut_least (comes_before directions) (keyed_order directions (λ (k : KeyedRow). k.0))
    n held sorted more h.0 p up h.1 h.2 in
    (all.0, all.1, all.2, h.3 ∙ ap rows_alone (sym all.3))

-- ---- all rows were put in

-- the first of them in order are given, the last that is held first
pub all_sorted : (directions : List Bool) (limit : Option ℕ) (es : ExprTrees)
    (held sorted after : List KeyedRow)
    (out : List Row) → IsPermutation held sorted → IsSortedBy (comes_before directions) sorted
    → after ≡ reverse (first_of limit sorted) → out ≡ rows_alone (reverse after)
    → FirstInOrder directions limit (held ++ map (with_keys es) []) out
all_sorted directions limit es held sorted after out p up e f = (
  sorted,
  subst (λ z. IsPermutation z sorted) (sym (append-nil held)) p,
  up,
  f ∙ ap (λ z. rows_alone (reverse z)) e ∙ ap rows_alone (reverse-reverse (first_of limit sorted)),
)

-- what a SORT leaves once all rows were put in
pub all_leave : (directions : List Bool) (limit : Option ℕ) (es : ExprTrees)
    (held with_block sorted first after : List KeyedRow) (block : List Row) (out : List Row)
    → with_block ≡ held ++ map (with_keys es) block → IsPermutation with_block sorted
    → IsSortedBy (comes_before directions) sorted → first ≡ first_of limit sorted → after ≡ reverse first
    → out ≡ rows_alone (reverse after)
    → FirstInOrder directions limit (held ++ map (with_keys es) (block ++ [])) out
all_leave directions limit es held with_block sorted first after block out b p up f r o =
    subst (λ z. FirstInOrder directions limit z out) (joined_rows es held with_block block [] b)
    (all_sorted directions limit es with_block sorted after out p up (r ∙ ap reverse f) o)

-- and what it leaves where the first in order were kept
pub first_leave : (directions : List Bool) (limit : Option ℕ) (es : ExprTrees)
    (held with_block sorted first : List KeyedRow) (block coming out : List Row)
    → with_block ≡ held ++ map (with_keys es) block → IsPermutation with_block sorted
    → IsSortedBy (comes_before directions) sorted → first ≡ first_of limit sorted
    → FirstInOrder directions limit (first ++ map (with_keys es) ([] ++ coming)) out
    → FirstInOrder directions limit (held ++ map (with_keys es) (block ++ coming)) out
first_leave directions limit es held with_block sorted first block coming out b p up f h =
    subst (λ z. FirstInOrder directions limit z out) (joined_rows es held with_block block coming b)
    (first_stand directions limit with_block sorted (map (with_keys es) ([] ++ coming)) out p up
    (subst (λ z. FirstInOrder directions limit (z ++ map (with_keys es) ([] ++ coming)) out) f h))

-- the first of a list are no more, and no more than are asked for
pub first_few : {X : Type 0} (limit : Option ℕ) (xs : List X) → length (first_of limit xs) ≤ length xs
first_few None xs = omega arith
first_few (Some n) xs = (let m = length-take n xs in omega (arith, m))

pub are_few : {X : Type 0} (limit : Option ℕ) (xs : List X) → AreFew limit (length (first_of limit xs))
are_few None xs = tt
are_few (Some n) xs = (let m = length-take n xs in omega (arith, m))

pub first_have : (limit : Option ℕ) (xs : List ℕ) (ks : List KeyedRow) → AllHave xs ks
    → AllHave xs (first_of limit ks)
first_have None xs ks h = h
first_have (Some n) xs ks h = All-take (λ (k : KeyedRow). HasExactly xs k.1) n ks h

-- ---- the first in order, of rows that are held

module _ (limit : Option ℕ) (held sorted first : List KeyedRow) (p : IsPermutation held sorted)
    (f : first ≡ first_of limit sorted) where
  pub kept_have : (xs : List ℕ) → AllHave xs held → AllHave xs first
  kept_have xs h =
      let all = All-permutation (λ (k : KeyedRow). HasExactly xs k.1) held sorted p h in
      subst (λ z. AllHave xs z) (sym f) (first_have limit xs sorted all)

  pub kept_few : AreFew limit (length first)
  kept_few = subst (λ z. AreFew limit (length z)) (sym f) (are_few limit sorted)

  pub kept_fewer : length first ≤ length held
  kept_fewer =
      let n = ap length f in
      let m = first_few limit sorted in
      let k = length_permutation held sorted p in
      omega (arith, n, m, k)

pub added_length : (es : ExprTrees) (held after : List KeyedRow) (block : List Row)
    → after ≡ held ++ map (with_keys es) block → length after ≡ length held + length block
added_length es held after block e =
    ap length e ∙ length-append held (map (with_keys es) block)
    ∙ ap (λ n. length held + n) (length-map block (with_keys es))
