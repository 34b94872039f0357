-- Which elements pass a test in two lists, how often a variable is in a list, and that no variable is twice
-- in a list in which each is once at most.
use Rattle.std.proofs.Common.{◌≡◌, ◌∙◌, suc, ◌+◌, ◌≤◌, List, [], ◌∷◌, ◌++◌, Bool, true, false, true≢false, cond, refl, ap, sym, subst, arith}
use Rattle.std.specs.Prelude.{not, ◌||◌, ◌⊎◌}
use Rattle.std.specs.List.{list_any, AllByRecursion}
use Rattle.std.proofs.lemmas.Bool.{and_parts, and_from, or_cases, or_left, or_right, not-true}
use Rattle.std.proofs.lemmas.List.Folds.{list_any-append}
use Rattle.aql_tree.specs.declared.syntax.Ident.{Ident}
use Rattle.aql_meaning.specs.Row.{same_ident}
use Rattle.aql_plan.specs.Variables.{are_distinct, count}
use Rattle.aql_meaning.specs.laws.Idents.{same_is, same_self}

module _ {X : Type 0} (test : X → Bool) where
  pub any_front : (xs ys : List X) → list_any test xs ≡ true → list_any test (xs ++ ys) ≡ true
  any_front xs ys h = list_any-append test xs ys ∙ or_left (list_any test xs) (list_any test ys) h

  pub any_back : (xs ys : List X) → list_any test ys ≡ true → list_any test (xs ++ ys) ≡ true
  any_back xs ys h = list_any-append test xs ys ∙ or_right (list_any test xs) (list_any test ys) h

  pub any_either : (xs ys : List X) → list_any test (xs ++ ys) ≡ true
      → (list_any test xs ≡ true) ⊎ (list_any test ys ≡ true)
  any_either xs ys h =
      or_cases (list_any test xs) (list_any test ys) (sym (list_any-append test xs ys) ∙ h)

pub count_append : (x : Ident) (xs ys : List Ident) → count x (xs ++ ys) ≡ count x xs + count x ys
count_append x [] ys = omega arith
count_append x (y ∷ xs) ys = by (same_ident x y) (count_append x xs ys)
  where
    by : (b : Bool) → count x (xs ++ ys) ≡ count x xs + count x ys
        → cond b (suc (count x (xs ++ ys))) (count x (xs ++ ys))
        ≡ cond b (suc (count x xs)) (count x xs) + count x ys
    by true e = omega (arith, e)
    by false e = e

-- one that is counted is there, and one that is not counted is not
pub counted_in : (x : Ident) (xs : List Ident) → list_any (same_ident x) xs ≡ true → 1 ≤ count x xs
counted_in x [] h = absurd (true≢false (sym h))
counted_in x (y ∷ xs) h = by (same_ident x y) (counted_in x xs) h
  where
    by : (b : Bool) → (list_any (same_ident x) xs ≡ true → 1 ≤ count x xs)
        → (b || list_any (same_ident x) xs) ≡ true → 1 ≤ cond b (suc (count x xs)) (count x xs)
    by true f h = omega arith
    by false f h = f h

pub none_in : (x : Ident) (xs : List Ident) → count x xs ≤ 0 → list_any (same_ident x) xs ≡ false
none_in x [] h = refl
none_in x (y ∷ xs) h = by (same_ident x y) (none_in x xs) h
  where
    by : (b : Bool) → (count x xs ≤ 0 → list_any (same_ident x) xs ≡ false)
        → cond b (suc (count x xs)) (count x xs) ≤ 0 → (b || list_any (same_ident x) xs) ≡ false
    by true f h = absurd (omega (arith, h))
    by false f h = f h

none_counted : (x : Ident) (xs : List Ident) → list_any (same_ident x) xs ≡ false → count x xs ≤ 0
none_counted x [] h = omega arith
none_counted x (y ∷ xs) h = by (same_ident x y) (none_counted x xs) h
  where
    by : (b : Bool) → (list_any (same_ident x) xs ≡ false → count x xs ≤ 0)
        → (b || list_any (same_ident x) xs) ≡ false → cond b (suc (count x xs)) (count x xs) ≤ 0
    by true f h = absurd (true≢false h)
    by false f h = f h

pub counted_once : (xs : List Ident) → are_distinct xs ≡ true → (z : Ident) → count z xs ≤ 1
counted_once [] h z = omega arith
counted_once (x ∷ xs) h z =
    let k = and_parts (not (list_any (same_ident x) xs)) (are_distinct xs) h in
    by (same_ident z x) refl (not-true (list_any (same_ident x) xs) k.0) (counted_once xs k.1 z)
  where
    by : (b : Bool) → same_ident z x ≡ b → list_any (same_ident x) xs ≡ false → count z xs ≤ 1
        → cond b (suc (count z xs)) (count z xs) ≤ 1
    by true e f g =
        let c = none_counted z xs
        (subst (λ (w : Ident). list_any (same_ident w) xs ≡ false) (sym (same_is z x e)) f) in
        omega (arith, c)
    by false e f g = g

pub once_distinct : (xs : List Ident) → ((z : Ident) → count z xs ≤ 1) → are_distinct xs ≡ true
once_distinct [] f = refl
once_distinct (x ∷ xs) f =
    and_from (not (list_any (same_ident x) xs)) (are_distinct xs)
    (ap not (none_in x xs (first (same_ident x x) (same_self x) (f x))))
    (once_distinct xs (λ z. rest z (same_ident z x) (f z)))
  where
    first : (b : Bool) → b ≡ true → cond b (suc (count x xs)) (count x xs) ≤ 1 → count x xs ≤ 0
    first true e h = omega (arith, h)
    first false e h = absurd (true≢false (sym e))

    rest : (z : Ident) (b : Bool) → cond b (suc (count z xs)) (count z xs) ≤ 1 → count z xs ≤ 1
    rest z true h = omega (arith, h)
    rest z false h = h

-- what holds of each element of a list holds of one that is counted there
pub counted_has : (P : Ident → Type 0) (x : Ident) (ys : List Ident) → 1 ≤ count x ys → AllByRecursion P ys
    → P x
counted_has P x [] g h = absurd (omega (arith, g))
counted_has P x (y ∷ ys) g h = by (same_ident x y) refl g (λ k. counted_has P x ys k h.1)
  where
    by : (b : Bool) → same_ident x y ≡ b → 1 ≤ cond b (suc (count x ys)) (count x ys)
        → (1 ≤ count x ys → P x) → P x
    by true e g f = subst P (sym (same_is x y e)) h.0
    by false e g f = f g

-- and so of each element of a list in which none is more often
pub fewer_have : (P : Ident → Type 0) (xs ys : List Ident) → ((z : Ident) → count z xs ≤ count z ys)
    → AllByRecursion P ys → AllByRecursion P xs
fewer_have P [] ys f h = tt
fewer_have P (x ∷ xs) ys f h = (
  counted_has P x ys (first (same_ident x x) (same_self x) (f x)) h,
  fewer_have P xs ys (λ z. rest z (same_ident z x) (f z)) h,
)
  where
    first : (b : Bool) → b ≡ true → cond b (suc (count x xs)) (count x xs) ≤ count x ys → 1 ≤ count x ys
    first true e h = omega (arith, h)
    first false e h = absurd (true≢false (sym e))

    rest : (z : Ident) (b : Bool) → cond b (suc (count z xs)) (count z xs) ≤ count z ys
        → count z xs ≤ count z ys
    rest z true h = omega (arith, h)
    rest z false h = h
