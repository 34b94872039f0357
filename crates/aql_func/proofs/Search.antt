-- Where a text begins with, has, or is cut at another.
use Rattle.std.proofs.Common.{◌≡◌, ℕ, zero, suc, ◌+◌, ◌-◌, ◌<◌, ◌≤◌, List, [], ◌∷◌, ◌++◌, length, take, drop, Bool, true, false, ◌||◌, None, Some, refl, sym, ap, subst, ◌∙◌, true≢false, arith}
use Rattle.std.specs.Str.Iter.{HasSubslice}
use Rattle.std.specs.Str.Pattern.{FindsText, LacksTextAt}
use Rattle.aql_func.specs.Texts.{begins_with, occurs_in, parts_after, parts_of, onto_first}
use lib.Pointwise.{bytes_decides}

together : (n : ℕ) (t : List ℕ) → take n t ++ drop n t ≡ t
together zero t = refl
together (suc n) [] = refl
together (suc n) (c ∷ t) = ap (λ l. c ∷ l) (together n t)

take_front : (u b : List ℕ) → take (length u) (u ++ b) ≡ u
take_front [] b = refl
take_front (c ∷ u) b = ap (λ l. c ∷ l) (take_front u b)

begins_is : (t u : List ℕ) → begins_with t u ≡ true → t ≡ u ++ drop (length u) t
begins_is t u h = sym (together (length u) t)
    ∙ ap (λ l. l ++ drop (length u) t) (sym ((bytes_decides u (take (length u) t)).0 h))

drop_front : (u b : List ℕ) → drop (length u) (u ++ b) ≡ b
drop_front [] b = refl
drop_front (c ∷ u) b = drop_front u b

is_begin : (u b : List ℕ) → begins_with (u ++ b) u ≡ true
is_begin u b = (bytes_decides u (take (length u) (u ++ b))).1 (sym (take_front u b))

head_occurs : (t u : List ℕ) → begins_with t u ≡ true → occurs_in t u ≡ true
head_occurs [] u h = rw h refl
head_occurs (c ∷ t) u h = rw h refl

or_right : (a b : Bool) → b ≡ true → a || b ≡ true
or_right true b h = refl
or_right false b h = h

has_occurs : (a u b : List ℕ) → occurs_in (a ++ (u ++ b)) u ≡ true
has_occurs [] u b = head_occurs (u ++ b) u (is_begin u b)
has_occurs (c ∷ a) u b = or_right _ _ (has_occurs a u b)

occurs_has : (s u : List ℕ) → occurs_in s u ≡ true → HasSubslice s u
occurs_has [] u h = by (begins_with [] u) refl h
  where
    by : (b : Bool) → begins_with [] u ≡ b → b || false ≡ true → HasSubslice [] u
    by true e h = ([], drop (length u) [], begins_is [] u e)
    by false e h = absurd (true≢false (sym h))
occurs_has (c ∷ s) u h = by (begins_with (c ∷ s) u) refl h (occurs_has s u)
  where
    by : (b : Bool) → begins_with (c ∷ s) u ≡ b → b || occurs_in s u ≡ true
        → (occurs_in s u ≡ true → HasSubslice s u) → HasSubslice (c ∷ s) u
    by true e h f = ([], drop (length u) (c ∷ s), begins_is (c ∷ s) u e)
    by false e h f = let r = f h in (c ∷ r.0, r.1, ap (λ l. c ∷ l) r.2)

alike : (a b : Bool) → (a ≡ true → b ≡ true) → (b ≡ true → a ≡ true) → a ≡ b
alike true b f g = sym (f refl)
alike false true f g = g refl
alike false false f g = refl

pub occurs_text : (r : Bool) (s u : List ℕ) → (r ≡ true → HasSubslice s u) → (HasSubslice s u → r ≡ true)
    → r ≡ occurs_in s u
occurs_text r s u f g = alike r (occurs_in s u)
    (λ e. let h = f e in subst (λ l. occurs_in l u ≡ true) (sym h.2) (has_occurs h.0 u h.1))
    (λ e. g (occurs_has s u e))

lacks : (u s : List ℕ) (i : ℕ) → LacksTextAt u s i → begins_with (drop i s) u ≡ false
lacks u s i h = by (begins_with (drop i s) u) refl
  where
    by : (b : Bool) → begins_with (drop i s) u ≡ b → b ≡ false
    by true e = absurd (h (drop (length u) (drop i s)) (begins_is (drop i s) u e))
    by false e = refl

skipped : (n : ℕ) (u s : List ℕ) → n ≤ length s → parts_after n u s ≡ parts_after 0 u (drop n s)
skipped zero u s h = refl
skipped (suc n) u [] h = absurd (omega arith)
skipped (suc n) u (c ∷ cs) h = skipped n u cs (omega arith)

none_in : (u s : List ℕ) → ((i : ℕ) → i ≤ length s → begins_with (drop i s) u ≡ false)
    → parts_after 0 u s ≡ s ∷ []
none_in u [] h = refl
none_in u (c ∷ cs) h = rw (h 0 (omega arith)) (ap (onto_first c)
    (none_in u cs (λ i l. h (suc i) (omega arith))))

first_in : (d : ℕ) (v : List ℕ) (i : ℕ) (s : List ℕ) → i + length (d ∷ v) ≤ length s
    → ((k : ℕ) → k < i → begins_with (drop k s) (d ∷ v) ≡ false) → begins_with (drop i s) (d ∷ v) ≡ true
    → parts_after 0 (d ∷ v) s ≡ take i s ∷ parts_after 0 (d ∷ v) (drop (length (d ∷ v)) (drop i s))
first_in d v i [] l h f = absurd (omega arith)
first_in d v zero (c ∷ cs) l h f =
    let e : length (d ∷ v) - 1 ≡ length v = omega arith in
    rw f (rw e (ap (λ x. [] ∷ x) (skipped (length v) (d ∷ v) cs (omega arith))))
first_in d v (suc i) (c ∷ cs) l h f =
    rw (h 0 (omega arith)) (ap (onto_first c) (first_in d v i cs (omega arith)
    (λ k m. h (suc k) (omega arith)) f))

pub no_cut : (u s : List ℕ) → 0 < length u → FindsText u s None → parts_of u s ≡ s ∷ []
no_cut [] s l h = absurd (omega arith)
no_cut (d ∷ v) s l h = none_in (d ∷ v) s (λ i m. lacks (d ∷ v) s i (h i m))

pub one_cut : (u s : List ℕ) (i j : ℕ) → 0 < length u → j ≤ length s → FindsText u s (Some (i, j))
    → parts_of u s ≡ take i s ∷ parts_of u (drop j s)
one_cut [] s i j l m h = absurd (omega arith)
one_cut (d ∷ v) s i j l m h =
    let b : begins_with (drop i s) (d ∷ v) ≡ true =
    subst (λ x. begins_with x (d ∷ v) ≡ true) (sym h.1.split) (is_begin (d ∷ v) (drop j s)) in
    let e : drop (length (d ∷ v)) (drop i s) ≡ drop j s = ap (drop (length (d ∷ v))) h.1.split
    ∙ drop_front (d ∷ v) (drop j s) in
    let n : j ≡ i + length (d ∷ v) = h.1.ends in
    first_in d v i s (omega arith) (λ k n. lacks (d ∷ v) s k (h.0 k n)) b
    ∙ ap (λ x. take i s ∷ parts_after 0 (d ∷ v) x) e

-- where `split_once` cuts
abbrev pub Cut : List ℕ → List ℕ → List ℕ → List ℕ → Type 0
Cut u s before after = (i : ℕ) × (j : ℕ) × FindsText u s (Some (i, j)) × (before ≡ take i s)
    × (after ≡ drop j s) × (i ≤ j) × (length before ≡ i) × (length after + j ≡ length s)

pub cut_once : (u s before after : List ℕ) → 0 < length u → Cut u s before after
    → parts_of u s ≡ before ∷ parts_of u after
cut_once u s before after l h =
    let k : h.1 ≤ length s = omega arith in
    one_cut u s h.0 h.1 l k h.2 ∙ ap (λ x. x ∷ parts_of u (drop h.1 s)) (sym h.3)
    ∙ ap (λ x. before ∷ parts_of u x) (sym h.4)
