-- Rows with their keys, the values of expressions at rows, and what passes a test, of permuted rows.
use Rattle.std.proofs.Common.{◌≡◌, ◌∙◌, List, [], ◌∷◌, ◌++◌, map, Bool, true, false, cond, refl, ap, ap₂, sym, subst}
use Rattle.std.specs.Prelude.{filter, flat_map, zip, IsPermutation}
use Rattle.std.specs.List.{AllZip}
use Rattle.std.proofs.lemmas.List.Sorted.{IsPermutation-map}
use Rattle.aql_value.specs.Datum.{Datum}
use Rattle.aql_tree.specs.Tree.{ExprTree, ExprTrees}
use Rattle.aql_meaning.specs.AtRows.{value_of, values_of, keys_of}
use Rattle.aql_meaning.specs.Clauses.{KeyedRow}
use Rattle.aql_meaning.specs.Row.{Row}
use Rattle.aql_meaning.specs.laws.RowByRow.{by_value}
use Rattle.aql_meaning.specs.laws.Shuffles.{shuffle, flat_permuted}

-- ---- what passes a test

kept_of_each : {X : Type 0} (test : X → Bool) (xs : List X)
    → filter test xs ≡ flat_map (λ x. cond (test x) (x ∷ []) []) xs
kept_of_each test [] = refl
kept_of_each test (x ∷ xs) = by (test x) (kept_of_each test xs)
  where
    by : (b : Bool) → filter test xs ≡ flat_map (λ y. cond (test y) (y ∷ []) []) xs
        → cond b (x ∷ filter test xs) (filter test xs)
        ≡ cond b (x ∷ []) [] ++ flat_map (λ y. cond (test y) (y ∷ []) []) xs
    by true e = ap (λ ys. x ∷ ys) e
    by false e = e

pub filter_permuted : {X : Type 0} (test : X → Bool) (xs ys : List X) → IsPermutation xs ys
    → IsPermutation (filter test xs) (filter test ys)
filter_permuted {X} test xs ys p =
    subst (λ (zs : List X). IsPermutation zs (filter test ys)) (sym (kept_of_each test xs))
    (subst (λ (zs : List X). IsPermutation (flat_map (λ x. cond (test x) (x ∷ []) []) xs) zs)
    (sym (kept_of_each test ys))
    (flat_permuted (λ x. cond (test x) (x ∷ []) []) (shuffle xs ys p)))

-- ---- rows with their keys

abbrev pub keyed : ExprTrees → Row → KeyedRow
keyed es row = (keys_of es row, row)

pub zip_keyed : (es : ExprTrees) (rows : List Row) → zip (map (keys_of es) rows) rows ≡ map (keyed es) rows
zip_keyed es [] = refl
zip_keyed es (row ∷ rows) = ap (λ ks. keyed es row ∷ ks) (zip_keyed es rows)

pub keyed_permuted : (es : ExprTrees) (rows others : List Row) → IsPermutation rows others
    → IsPermutation (zip (map (keys_of es) rows) rows) (zip (map (keys_of es) others) others)
keyed_permuted es rows others p =
    subst (λ (ks : List KeyedRow). IsPermutation ks (zip (map (keys_of es) others) others))
    (sym (zip_keyed es rows))
    (subst (λ (ks : List KeyedRow). IsPermutation (map (keyed es) rows) ks) (sym (zip_keyed es others))
    (IsPermutation-map (keyed es) rows others p))

pub unkeyed : (es : ExprTrees) (rows : List Row)
    → map (λ (k : KeyedRow). k.1) (zip (map (keys_of es) rows) rows) ≡ rows
unkeyed es [] = refl
unkeyed es (row ∷ rows) = ap (λ rs. row ∷ rs) (unkeyed es rows)

-- ---- values

abbrev pub Valued : ExprTree → Row → Datum → Type 0
Valued e row v = v ≡ value_of e row

pub valued : (e : ExprTree) (rows : List Row) → AllZip (Valued e) rows (values_of e rows)
valued e [] = tt
valued e (row ∷ rows) = (refl, valued e rows)

pub their_values : (e : ExprTree) (rows : List Row) (vs : List Datum) → AllZip (Valued e) rows vs
    → vs ≡ values_of e rows
their_values e [] [] h = refl
their_values e [] (v ∷ vs) h = absurd h
their_values e (row ∷ rows) [] h = absurd h
their_values e (row ∷ rows) (v ∷ vs) h = ap₂ (λ u us. u ∷ us) h.0 (their_values e rows vs h.1)

-- what takes one row with its value after another
pub by_its_value : (e : ExprTree) (word : List Row → List Datum → List Row) (f : Row × Datum → List Row)
    → ((rows : List Row) (vs : List Datum) → word rows vs ≡ flat_map f (zip rows vs))
    → (rows others out : List Row) → IsPermutation rows others → out ≡ word rows (values_of e rows)
    → (other : List Row) × (other ≡ word others (values_of e others)) × IsPermutation out other
by_its_value e word f is rows others out p h =
    let k = by_value (Valued e) word f is rows others out p (values_of e rows, valued e rows, h) in
    (k.0, k.1.2 ∙ ap (word others) (their_values e others k.1.0 k.1.1), k.2)
