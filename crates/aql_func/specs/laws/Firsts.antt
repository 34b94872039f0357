-- The keys of a set of values are the first of each value; and what a set finds.
use Rattle.std.proofs.Common.{◌≡◌, ℕ, ◌+◌, List, [], ◌∷◌, ◌++◌, Bool, true, false, cond, ◌||◌, filter, take, refl, sym, ap, subst, ◌∙◌, append-nil, not, true≢false}
use mathlib.Core.Bool.{beq}
use Rattle.std.specs.List.{list_any}
use Rattle.std.specs.declared.cmp.Ordering.{Ordering}
use Rattle.std.specs.declared.cmp.Ordering.TheVariants.{Less, Equal, Greater}
use Rattle.std.specs.Ordering.{is_eq, on, eq_by_cmp, ordering_reverse}
use Rattle.std.specs.Cmp.{Equal-is}
use Rattle.std.proofs.lemmas.List.{map-append}
use Rattle.std.proofs.lemmas.List.Elements.{filter-append}
use Rattle.indexmap.specs.IndexSet.{insert_key}
use Rattle.aql_value.specs.declared.values.Value.{Value}
use Rattle.aql_value.specs.Datum.{Datum}
use Rattle.aql_value.specs.View.{datum_of, datums_in}
use Rattle.aql_value.specs.Compare.{compare}
use Rattle.aql_value.specs.Contents.{same, is_in}
use Rattle.aql_value.specs.laws.Keyed.{same_from_equal}
use Rattle.aql_value.specs.laws.Strict.{compare_total}
use Rattle.aql_func.specs.Lists.{firsts, add}

pub same_is : (s t : Datum) → same s t ≡ true → s ≡ t
same_is s t e = same_from_equal s t ((Equal-is (compare s t)).0 e)

turned : (o : Ordering) → is_eq (ordering_reverse o) ≡ is_eq o
turned Less = refl
turned Equal = refl
turned Greater = refl

pub same_flip : (s t : Datum) → same s t ≡ same t s
same_flip s t = ap is_eq (compare_total.antisymm s t) ∙ turned (compare t s)

-- t goes last, unless it is there
abbrev pub noted : List Datum → Datum → List Datum
noted ks t = cond (is_in ks t) ks (ks ++ t ∷ [])

pub any_tree : (v : Value) (ks : List Value) → list_any (λ k. is_eq (compare (datum_of v) (datum_of k))) ks
    ≡ is_in (datums_in ks) (datum_of v)
any_tree v [] = refl
any_tree v (k ∷ ks) = ap (λ b. is_eq (compare (datum_of v) (datum_of k)) || b) (any_tree v ks)

either : (b : Bool) (ks : List Value) (v : Value) → datums_in (cond b ks (ks ++ v ∷ []))
    ≡ cond b (datums_in ks) (datums_in ks ++ datum_of v ∷ [])
either true ks v = refl
either false ks v = map-append datum_of ks (v ∷ [])

pub keys_noted : (ks : List Value) (v : Value) → datums_in (insert_key (on datum_of (eq_by_cmp compare)) ks v)
    ≡ noted (datums_in ks) (datum_of v)
keys_noted ks v = either _ ks v ∙ ap (λ b. cond b (datums_in ks) (datums_in ks ++ datum_of v ∷ []))
    (any_tree v ks)

abbrev others : Datum → List Datum → List Datum
others u ts = filter (λ x. not (same u x)) ts

in_others : (u t : Datum) → same u t ≡ false → (ts : List Datum) → is_in (others u ts) t ≡ is_in ts t
in_others u t h [] = refl
in_others u t h (x ∷ xs) = by (same u x) refl (same t x) refl (in_others u t h xs)
  where
    by : (b : Bool) → same u x ≡ b → (d : Bool) → same t x ≡ d → is_in (others u xs) t ≡ is_in xs t
        → is_in (cond (not b) (x ∷ others u xs) (others u xs)) t ≡ d || is_in xs t
    by true p true q ih = absurd (let e = same_is t x q in let f = ap (same u) e in cc)
    by true p false q ih = ih
    by false p d q ih = rw q (ap (λ r. d || r) ih)

pub in_firsts : (ts : List Datum) (t : Datum) → is_in (firsts ts) t ≡ is_in ts t
in_firsts [] t = refl
in_firsts (u ∷ us) t = by (same t u) refl (in_firsts us t)
  where
    by : (d : Bool) → same t u ≡ d → is_in (firsts us) t ≡ is_in us t
        → d || is_in (others u (firsts us)) t ≡ d || is_in us t
    by true q ih = refl
    by false q ih = in_others u t (same_flip u t ∙ q) (firsts us) ∙ ih

others_push : (u t : Datum) (d : Bool) → same u t ≡ d → (ts : List Datum)
    → others u (ts ++ t ∷ []) ≡ cond d (others u ts) (others u ts ++ t ∷ [])
others_push u t d e ts = filter-append (λ x. not (same u x)) ts (t ∷ []) ∙ by d e
  where
    by : (d : Bool) → same u t ≡ d → others u ts ++ cond (not (same u t)) (t ∷ []) []
        ≡ cond d (others u ts) (others u ts ++ t ∷ [])
    by true e = rw e (append-nil (others u ts))
    by false e = rw e refl

noted_others : (u t : Datum) (xs : List Datum) → u ∷ others u (noted xs t) ≡ noted (u ∷ others u xs) t
noted_others u t xs = by (same u t) refl (is_in xs t) refl
  where
    by : (d : Bool) → same u t ≡ d → (b : Bool) → is_in xs t ≡ b
        → u ∷ others u (cond b xs (xs ++ t ∷ [])) ≡ cond (same t u || is_in (others u xs) t)
        (u ∷ others u xs) ((u ∷ others u xs) ++ t ∷ [])
    by true p true q = rw (same_flip t u ∙ p) refl
    by true p false q = rw (same_flip t u ∙ p) (ap (λ l. u ∷ l) (others_push u t true p xs))
    by false p true q = rw (same_flip t u ∙ p) (rw (in_others u t p xs ∙ q) refl)
    by false p false q = rw (same_flip t u ∙ p) (rw (in_others u t p xs
        ∙ q) (ap (λ l. u ∷ l) (others_push u t false p xs)))

pub firsts_push : (ts : List Datum) (t : Datum) → firsts (ts ++ t ∷ []) ≡ noted (firsts ts) t
firsts_push [] t = refl
firsts_push (u ∷ us) t = ap (λ l. u ∷ others u l) (firsts_push us t) ∙ noted_others u t (firsts us)

pub sift_yes : (b c : Bool) → beq b c ≡ true → (d : Bool) → b ≡ d → cond c d (not d) ≡ true
sift_yes b c e d f = subst (λ x. cond c x (not x) ≡ true) f (by b c e)
  where
    by : (b c : Bool) → beq b c ≡ true → cond c b (not b) ≡ true
    by true true e = refl
    by true false e = absurd (true≢false (sym e))
    by false true e = absurd (true≢false (sym e))
    by false false e = refl

pub sift_no : (b c : Bool) → beq b c ≡ false → (d : Bool) → b ≡ d → cond c d (not d) ≡ false
sift_no b c e d f = subst (λ x. cond c x (not x) ≡ false) f (by b c e)
  where
    by : (b c : Bool) → beq b c ≡ false → cond c b (not b) ≡ false
    by true true e = absurd (true≢false e)
    by true false e = refl
    by false true e = refl
    by false false e = absurd (true≢false e)

-- the values sifted so far
pub sift_more : (p : Datum → Bool) (xs : List Value) (i : ℕ) (v : Value) (out : List Datum)
    → datums_in (take (i + 1) xs) ≡ datums_in (take i xs) ++ datum_of v ∷ []
    → out ≡ filter p (datums_in (take i xs)) → cond (p (datum_of v)) (out ++ datum_of v ∷ []) out
    ≡ filter p (datums_in (take (i + 1) xs))
sift_more p xs i v out e f = rw e (rw f (sym (filter-append p (datums_in (take i xs)) (datum_of v ∷ [])
    ∙ by (p (datum_of v)) (filter p (datums_in (take i xs))))))
  where
    by : (b : Bool) (l : List Datum) → l ++ cond b (datum_of v ∷ []) [] ≡ cond b (l ++ datum_of v ∷ []) l
    by true l = refl
    by false l = append-nil l

pub is_in_push : (ts : List Datum) (x t : Datum) → is_in (ts ++ x ∷ []) t ≡ is_in ts t || same t x
is_in_push [] x t = or_false (same t x)
  where
    or_false : (b : Bool) → b || false ≡ b
    or_false true = refl
    or_false false = refl
is_in_push (u ∷ us) x t = ap (λ b. same t u || b) (is_in_push us x t)
    ∙ grouped (same t u) (is_in us t) (same t x)
  where
    grouped : (a b c : Bool) → a || (b || c) ≡ (a || b) || c
    grouped true b c = refl
    grouped false b c = refl

-- one more value where it is new, for two lists of the same values
pub seen_more : (ks out : List Datum) (x : Datum) → ((t : Datum) → is_in ks t ≡ is_in out t)
    → (t : Datum) → is_in (add true ks x) t ≡ is_in (add true out x) t
seen_more ks out x h t = by (is_in ks x) (h x)
  where
    by : (b : Bool) → b ≡ is_in out x → is_in (cond b ks (ks ++ x ∷ [])) t
        ≡ is_in (cond (is_in out x) out (out ++ x ∷ [])) t
    by true p = rw (sym p) (h t)
    by false p = rw (sym p) (is_in_push ks x t ∙ ap (λ b. b || same t x) (h t) ∙ sym (is_in_push out x t))

-- `contains` of a slice
pub held : (v : Value) (vs : List Value) → list_any (λ y. on datum_of (eq_by_cmp compare) y v) vs
    ≡ is_in (datums_in vs) (datum_of v)
held v [] = refl
held v (x ∷ xs) = ap (λ b. b || list_any (λ y. on datum_of (eq_by_cmp compare) y v) xs)
    (same_flip (datum_of x) (datum_of v)) ∙ ap (λ b. same (datum_of v) (datum_of x) || b) (held v xs)
