-- Sieving list by list is being in all, or in none, of the lists.
use Rattle.std.proofs.Common.{◌≡◌, List, [], ◌∷◌, ◌++◌, Bool, true, false, cond, ◌&&◌, ◌||◌, not, filter, refl, ap, sym, ◌∙◌}
use Rattle.std.specs.Prelude.{flat_map}
use Rattle.std.specs.List.{list_all, list_any}
use Rattle.aql_value.specs.Datum.{Datum}
use Rattle.aql_value.specs.Contents.{is_in}
use Rattle.aql_func.specs.Lists.{firsts, in_all, in_none}
use Rattle.aql_func.specs.inner.Sieves.{sift, sieve}
use Rattle.aql_func.specs.laws.Firsts.{in_firsts}

all_kept : (ts : List Datum) → filter (λ t. true) ts ≡ ts
all_kept [] = refl
all_kept (t ∷ ts) = ap (λ l. t ∷ l) (all_kept ts)

both_tests : (p q : Datum → Bool) (ts : List Datum) → filter q (filter p ts) ≡ filter (λ t. p t && q t) ts
both_tests p q [] = refl
both_tests p q (t ∷ ts) = by (p t) (both_tests p q ts)
  where
    by : (b : Bool) → filter q (filter p ts) ≡ filter (λ t. p t && q t) ts
        → filter q (cond b (t ∷ filter p ts) (filter p ts)) ≡ cond (b && q t)
        (t ∷ filter (λ t. p t && q t) ts) (filter (λ t. p t && q t) ts)
    by true h = ap (λ l. cond (q t) (t ∷ l) l) h
    by false h = h

pub alike_tests : {A : Type 0} (p q : A → Bool) → ((t : A) → p t ≡ q t) → (ts : List A)
    → filter p ts ≡ filter q ts
alike_tests p q h [] = refl
alike_tests p q h (t ∷ ts) = ap (λ b. cond b (t ∷ filter p ts) (filter p ts)) (h t)
    ∙ ap (λ l. cond (q t) (t ∷ l) l) (alike_tests p q h ts)

-- the distinct values of a list sift as the list does
pub sift_firsts : (present : Bool) (us ts : List Datum) → sift present (firsts us) ts ≡ sift present us ts
sift_firsts present us ts = alike_tests _ _ (λ t. ap (λ b. cond present b (not b)) (in_firsts us t)) ts

pub sieve_all : (others : List (List Datum)) (ts : List Datum) → sieve true others ts ≡ in_all others ts
sieve_all [] ts = sym (all_kept ts)
sieve_all (us ∷ others) ts = sieve_all others (sift true us ts)
    ∙ both_tests (is_in us) (λ t. list_all (λ us. is_in us t) others) ts

neither : (a b : Bool) → not a && not b ≡ not (a || b)
neither true b = refl
neither false b = refl

pub sieve_none : (others : List (List Datum)) (ts : List Datum) → sieve false others ts ≡ in_none others ts
sieve_none [] ts = sym (all_kept ts)
sieve_none (us ∷ others) ts =
    sieve_none others (sift false us ts)
    ∙ both_tests (λ t. not (is_in us t)) (λ t. not (list_any (λ us. is_in us t) others)) ts
    ∙ alike_tests _ _ (λ t. neither (is_in us t) (list_any (λ us. is_in us t) others)) ts

pub gathered_push : (lists : List (List Datum)) (ts : List Datum)
    → flat_map (λ (l : List Datum). l) (lists ++ ts ∷ []) ≡ flat_map (λ (l : List Datum). l) lists ++ ts
gathered_push [] ts = nil ts
  where
    nil : (l : List Datum) → l ++ [] ≡ l
    nil [] = refl
    nil (x ∷ xs) = ap (λ r. x ∷ r) (nil xs)
gathered_push (l ∷ lists) ts = ap (λ r. l ++ r) (gathered_push lists ts)
    ∙ sym (assoc l (flat_map (λ (l : List Datum). l) lists) ts)
  where
    assoc : (a b c : List Datum) → (a ++ b) ++ c ≡ a ++ (b ++ c)
    assoc [] b c = refl
    assoc (x ∷ xs) b c = ap (λ r. x ∷ r) (assoc xs b c)
