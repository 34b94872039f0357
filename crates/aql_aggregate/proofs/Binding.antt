-- Variables that are set one after another are read back, as long as no variable is there twice.
use Rattle.std.proofs.Common.{◌≡◌, List, [], ◌∷◌, ◌++◌, map, length, Bool, true, false, not, ◌&&◌, cond, Some, unwrap_or, refl, sym, ap, ◌∙◌, true≢false, arith}
use Rattle.std.specs.List.{list_any}
use Rattle.aql_value.specs.Datum.{Datum, null}
use Rattle.aql_tree.specs.declared.syntax.Ident.{Ident}
use Rattle.aql_meaning.specs.Row.{Row, same_ident, bind, bind_all, value_at}
use Rattle.aql_meaning.specs.laws.Idents.{same_self, same_swapped}
use Rattle.aql_aggregate.specs.Theorems.{are_distinct}
use Rattle.aql_aggregate.specs.laws.Totals.{any_append, first_false, second_false}

first_true : (a b : Bool) → not a && b ≡ true → a ≡ false
first_true true b h = absurd (true≢false (sym h))
first_true false b h = refl

second_true : (a b : Bool) → not a && b ≡ true → b ≡ true
second_true true b h = absurd (true≢false (sym h))
second_true false b h = h

-- a variable that is not among those that are set keeps its value
untouched : (z : Ident) (ys : List Ident) (vs : List Datum) (row : Row) → list_any (same_ident z) ys ≡ false
    → bind_all ys vs row z ≡ row z
untouched z [] vs row h = refl
untouched z (y ∷ ys) [] row h = untouched z ys [] (bind y row null) (second_false _ _ h)
    ∙ ap (λ b. cond b (Some null) (row z)) (same_swapped z y (first_false _ _ h))
untouched z (y ∷ ys) (v ∷ vs) row h = untouched z ys vs (bind y row v) (second_false _ _ h)
    ∙ ap (λ b. cond b (Some v) (row z)) (same_swapped z y (first_false _ _ h))

pub read_back : (ys : List Ident) → are_distinct ys ≡ true → (vs : List Datum) → length vs ≡ length ys
    → (row : Row) → map (value_at (bind_all ys vs row)) ys ≡ vs
read_back [] d [] l row = refl
read_back [] d (v ∷ vs) l row = absurd (omega (arith, l))
read_back (y ∷ ys) d [] l row = absurd (omega (arith, l))
read_back (y ∷ ys) d (v ∷ vs) l row =
    ap (λ o. unwrap_or o null ∷ map (value_at (bind_all ys vs (bind y row v))) ys)
    (untouched y ys vs (bind y row v) (first_true _ _ d) ∙ ap (λ b. cond b (Some v) (row y)) (same_self y))
    ∙ ap (λ rest. v ∷ rest) (read_back ys (second_true _ _ d) vs (omega (arith, l)) (bind y row v))

pub left_distinct : (xs ys : List Ident) → are_distinct (xs ++ ys) ≡ true → are_distinct xs ≡ true
left_distinct [] ys d = refl
left_distinct (x ∷ xs) ys d =
    ap (λ b. not b && are_distinct xs) (first_false _ _ (sym (any_append (same_ident x) xs ys)
    ∙ first_true _ _ d))
    ∙ left_distinct xs ys (second_true _ _ d)

pub right_distinct : (xs ys : List Ident) → are_distinct (xs ++ ys) ≡ true → are_distinct ys ≡ true
right_distinct [] ys d = d
right_distinct (x ∷ xs) ys d = right_distinct xs ys (second_true _ _ d)

pub read_under : (xs ys : List Ident) → are_distinct (xs ++ ys) ≡ true → (vs : List Datum) (row : Row)
    → map (value_at (bind_all ys vs row)) xs ≡ map (value_at row) xs
read_under [] ys d vs row = refl
read_under (x ∷ xs) ys d vs row =
    ap (λ o. unwrap_or o null ∷ map (value_at (bind_all ys vs row)) xs)
    (untouched x ys vs row (second_false _ _ (sym (any_append (same_ident x) xs ys) ∙ first_true _ _ d)))
    ∙ ap (λ rest. value_at row x ∷ rest) (read_under xs ys (second_true _ _ d) vs row)
