-- The distinct values of a list are told by which values it has.
use Rattle.std.proofs.Common.{◌≡◌, List, [], ◌∷◌, map, filter, Bool, true, false, cond, not, ◌&&◌, ◌||◌, refl, sym, ap, ◌∙◌}
use Rattle.std.specs.Prelude.{flat_map}
use Rattle.std.specs.Ordering.{is_eq}
use Rattle.std.proofs.lemmas.Cmp.{tied_itself}
use Rattle.aql_value.specs.Datum.{Datum}
use Rattle.aql_value.specs.Contents.{list, elements, same, is_in, is_below}
use Rattle.aql_value.specs.laws.Strict.{compare_total}
use Rattle.aql_value.specs.laws.Lists.{datum_list-array_of}
use Rattle.aql_func.specs.Lists.{firsts, among, sort_values, distinct}
use Rattle.aql_func.specs.laws.Shuffles.{Shuffled, none, skip, flip, chain, shuffled_same}
use Rattle.aql_func.specs.laws.Ascending.{same_ascending}
use Rattle.aql_func.specs.laws.Firsts.{same_is, same_flip, in_firsts}
use Rattle.aql_aggregate.specs.Theorems.{all_of}
use Rattle.aql_aggregate.specs.laws.Totals.{any_append, first_false, second_false}

abbrev others : Datum → List Datum → List Datum
others u ts = filter (λ x. not (same u x)) ts

-- each value once
abbrev pub Once : List Datum → Type 0
Once [] = Unit {0}
Once (t ∷ ts) = (is_in ts t ≡ false) × Once ts

in_others : (u t : Datum) (ts : List Datum) → is_in (others u ts) t ≡ not (same u t) && is_in ts t
in_others u t [] = none_in (same u t)
  where
    none_in : (b : Bool) → false ≡ not b && false
    none_in true = refl
    none_in false = refl
in_others u t (x ∷ xs) = by (same u x) refl (same t x) refl (same u t) refl (in_others u t xs)
  where
    by : (b : Bool) → same u x ≡ b → (d : Bool) → same t x ≡ d → (e : Bool) → same u t ≡ e
        → is_in (others u xs) t ≡ not (same u t) && is_in xs t
        → is_in (cond (not b) (x ∷ others u xs) (others u xs)) t ≡ not (same u t) && (same t x || is_in xs t)
    by true p d q true r ih = ih ∙ rw r refl
    by true p true q false r ih = absurd (let e = sym (same_is t x q) in let f = ap (same u) e in cc)
    by true p false q false r ih = rw q ih
    by false p true q true r ih = absurd (let e = same_is t x q in let f = ap (same u) e in cc)
    by false p true q false r ih = rw (q, r) refl
    by false p false q e r ih = rw q ih

once_others : (u : Datum) (ts : List Datum) → Once ts → Once (others u ts)
once_others u [] h = tt
once_others u (t ∷ ts) h = by (same u t) (once_others u ts h.1)
  where
    left_out : (b : Bool) → b && is_in ts t ≡ false
    left_out true = h.0
    left_out false = refl

    by : (b : Bool) → Once (others u ts) → Once (cond (not b) (t ∷ others u ts) (others u ts))
    by true ih = ih
    by false ih = (in_others u t ts ∙ left_out (not (same u t)), ih)

itself : (t : Datum) → same t t ≡ true
itself t = ap is_eq (tied_itself compare_total t)

pub once_firsts : (ts : List Datum) → Once (firsts ts)
once_firsts [] = tt
once_firsts (t ∷ ts) = (
  in_others t t (firsts ts) ∙ ap (λ b. not b && is_in (firsts ts) t) (itself t),
  once_others t
      (firsts ts) (once_firsts ts),
)

all_others : (u : Datum) (ts : List Datum) → is_in ts u ≡ false → others u ts ≡ ts
all_others u [] h = refl
all_others u (t ∷ ts) h = ap (λ b. cond (not b) (t ∷ others u ts) (others u ts)) (first_false _ _ h)
    ∙ ap (λ l. t ∷ l) (all_others u ts (second_false _ _ h))

-- a value that is there once may be taken to the front
to_front : (u : Datum) (ts : List Datum) → Once ts → is_in ts u ≡ true → Shuffled ts (u ∷ others u ts)
to_front u [] o h = absurd (cc)
to_front u (t ∷ ts) o h = by (same u t) refl h (to_front u ts o.1)
  where
    by : (b : Bool) → same u t ≡ b → b || is_in ts u ≡ true
        → (is_in ts u ≡ true → Shuffled ts (u ∷ others u ts))
        → Shuffled (t ∷ ts) (u ∷ cond (not b) (t ∷ others u ts) (others u ts))
    by true p k ih = let e = same_is u t p in rw e (rw (all_others t ts o.0) (shuffled_same (t ∷ ts)))
    by false p k ih = chain (skip t (ih k)) (flip t u (others u ts))

abbrev pub Alike : List Datum → List Datum → Type 0
Alike ts us = (x : Datum) → is_in ts x ≡ is_in us x

alike_once : (ts us : List Datum) → Once ts → Once us → Alike ts us → Shuffled ts us
alike_once [] [] o p h = none
alike_once [] (u ∷ us) o p h = absurd (let e = h u in let f = ap (λ b. b || is_in us u) (itself u) in cc)
alike_once (t ∷ ts) us o p h =
    let there : is_in us t ≡ true = sym (h t) ∙ ap (λ b. b || is_in ts t) (itself t) in
    chain (skip t (alike_once ts (others t us) o.1 (once_others t us p) rest)) (back (to_front t us p there))
  where
    rest : Alike ts (others t us)
    rest x = by (same t x) refl
      where
        by : (b : Bool) → same t x ≡ b → is_in ts x ≡ is_in (others t us) x
        by true e = (let f = same_is t x e in rw (sym f) o.0) ∙ sym (in_others t x us
            ∙ ap (λ b. not b && is_in us x) e)
        by false e = ap (λ b. b || is_in ts x) (sym (same_flip x t ∙ e)) ∙ h x
            ∙ sym (in_others t x us ∙ ap (λ b. not b && is_in us x) e)

    back : {xs ys : List Datum} → Shuffled xs ys → Shuffled ys xs
    back none = none
    back (skip x s) = skip x (back s)
    back (flip x y xs) = flip y x xs
    back (chain s t) = chain (back t) (back s)

pub distinct_alike : (ts us : List Datum) → Alike ts us → distinct ts ≡ distinct us
distinct_alike ts us h = same_ascending (alike_once (firsts ts) (firsts us) (once_firsts ts) (once_firsts us)
    (λ x. in_firsts ts x ∙ h x ∙ sym (in_firsts us x)))

pub in_among : (t : Datum) (us : List Datum) (x : Datum) → is_in (among t us) x ≡ same x t || is_in us x
in_among t [] x = refl
in_among t (u ∷ us) x = by (is_below u t) (in_among t us x)
  where
    turned : (a b c : Bool) → a || (b || c) ≡ b || (a || c)
    turned true true c = refl
    turned true false c = refl
    turned false b c = refl

    by : (b : Bool) → is_in (among t us) x ≡ same x t || is_in us x
        → is_in (cond b (u ∷ among t us) (t ∷ u ∷ us)) x ≡ same x t || is_in (u ∷ us) x
    by true ih = ap (λ b. same x u || b) ih ∙ turned (same x u) (same x t) (is_in us x)
    by false ih = refl

pub in_sorted : (ts : List Datum) (x : Datum) → is_in (sort_values ts) x ≡ is_in ts x
in_sorted [] x = refl
in_sorted (t ∷ ts) x = in_among t (sort_values ts) x ∙ ap (λ b. same x t || b) (in_sorted ts x)

pub in_distinct : (ts : List Datum) → Alike (distinct ts) ts
in_distinct ts x = in_sorted (firsts ts) x ∙ in_firsts ts x

pub members_alike : (parts : List (List Datum))
    → Alike (flat_map elements (map (λ ts. list (distinct ts)) parts)) (all_of parts)
members_alike [] x = refl
members_alike (ts ∷ parts) x =
    let rest = flat_map elements (map (λ ts. list (distinct ts)) parts) in
    any_append (same x) (elements (list (distinct ts))) rest
    ∙ ap (λ l. is_in l x || is_in rest x) (datum_list-array_of (distinct ts))
    ∙ ap (λ b. b || is_in rest x) (in_distinct ts x)
    ∙ ap (λ b. is_in ts x || b) (members_alike parts x)
    ∙ sym (any_append (same x) ts (all_of parts))

pub distinct_joined : (parts : List (List Datum))
    → distinct (flat_map elements (map (λ ts. list (distinct ts)) parts)) ≡ distinct (all_of parts)
distinct_joined parts = distinct_alike _ _ (members_alike parts)
