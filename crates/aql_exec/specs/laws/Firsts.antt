-- What a RETURN DISTINCT holds and gives.
use Rattle.std.proofs.Common.{◌≡◌, ℕ, ◌≤◌, List, [], ◌∷◌, ◌++◌, length, map, take, drop, Bool, true, false, cond, not, filter, ◌||◌, refl, sym, ap, ◌∙◌, arith, append_assoc, true≢false}
use Rattle.std.proofs.lemmas.List.{take-append-drop, map-append, length-map}
use Rattle.aql_value.specs.Datum.{Datum}
use Rattle.aql_value.specs.Contents.{same, is_in}
use Rattle.aql_tree.specs.Tree.{ExprTree}
use Rattle.aql_func.specs.Lists.{firsts, add_all}
use Rattle.aql_func.specs.laws.Firsts.{same_is, same_flip, is_in_push}
use Rattle.aql_meaning.specs.Row.{Row}
use Rattle.aql_meaning.specs.AtRows.{value_of, values_of}
use Rattle.aql_plan.specs.Plan as plan
use Rattle.aql_plan.specs.Runs.{Dataset, result_row}
use Rattle.aql_exec.specs.Rests.{sent_on, opened_on, closed_on, Rest, Prefixed, all_exact}
use Rattle.aql_exec.specs.Counting.{GivesCounting, NoneSent, nothing}
use Rattle.aql_exec.specs.FirstResults.{unseen, results_of, shown, seen_after, left_results}

-- ---- values that weren't seen

-- the values that are not the same as t, nor seen
seen_others : (seen : List Datum) (t : Datum) → is_in seen t ≡ true → (ts : List Datum)
    → filter (λ u. not (is_in seen u)) (filter (λ u. not (same t u)) ts) ≡ filter (λ u. not (is_in seen u)) ts
seen_others seen t h [] = refl
seen_others seen t h (u ∷ us) = by (same t u) refl (seen_others seen t h us)
  where
    by : (b : Bool) → same t u ≡ b
        → filter (λ u. not (is_in seen u)) (filter (λ u. not (same t u)) us)
        ≡ filter (λ u. not (is_in seen u)) us
        → filter (λ u. not (is_in seen u)) (cond (not b) (u ∷ filter (λ u. not (same t u)) us)
        (filter (λ u. not (same t u)) us)) ≡ cond (not (is_in seen u)) (u ∷ filter (λ u. not (is_in seen u)) us)
        (filter (λ u. not (is_in seen u)) us)
    by true e ih = rw (sym (ap (is_in seen) (same_is t u e)) ∙ h) ih
    by false e ih = ap (λ z. cond (not (is_in seen u)) (u ∷ z) z) ih

new_others : (seen : List Datum) (t : Datum) (ts : List Datum)
    → filter (λ u. not (is_in seen u)) (filter (λ u. not (same t u)) ts)
    ≡ filter (λ u. not (is_in (seen ++ t ∷ []) u)) ts
new_others seen t [] = refl
new_others seen t (u ∷ us) = by (same t u) (is_in seen u) refl (new_others seen t us)
    ∙ ap (λ b. cond (not b) (u ∷ filter (λ u. not (is_in (seen ++ t ∷ []) u)) us)
    (filter (λ u. not (is_in (seen ++ t ∷ []) u)) us)) (ap (λ b. is_in seen u || b) (same_flip t u)
    ∙ sym (is_in_push seen t u))
  where
    by : (b d : Bool) → is_in seen u ≡ d → filter (λ u. not (is_in seen u)) (filter (λ u. not (same t u)) us)
        ≡ filter (λ u. not (is_in (seen ++ t ∷ []) u)) us
        → filter (λ u. not (is_in seen u)) (cond (not b) (u ∷ filter (λ u. not (same t u)) us)
        (filter (λ u. not (same t u)) us)) ≡ cond (not (d || b))
        (u ∷ filter (λ u. not (is_in (seen ++ t ∷ []) u)) us)
        (filter (λ u. not (is_in (seen ++ t ∷ []) u)) us)
    by true true q ih = ih
    by true false q ih = ih
    by false true q ih = rw q ih
    by false false q ih = rw q (ap (λ z. u ∷ z) ih)

unseen_is : (seen ts : List Datum) → unseen seen ts ≡ filter (λ u. not (is_in seen u)) (firsts ts)
unseen_is seen [] = refl
unseen_is seen (t ∷ ts) = by (is_in seen t) refl (unseen_is seen ts) (unseen_is (seen ++ t ∷ []) ts)
  where
    by : (b : Bool) → is_in seen t ≡ b
        → unseen seen ts ≡ filter (λ u. not (is_in seen u)) (firsts ts)
        → unseen (seen ++ t ∷ []) ts ≡ filter (λ u. not (is_in (seen ++ t ∷ []) u)) (firsts ts)
        → cond b (unseen seen ts) (t ∷ unseen (seen ++ t ∷ []) ts)
        ≡ cond (not b) (t ∷ filter (λ u. not (is_in seen u)) (filter (λ u. not (same t u)) (firsts ts)))
        (filter (λ u. not (is_in seen u)) (filter (λ u. not (same t u)) (firsts ts)))
    by true q same_seen more_seen = same_seen ∙ sym (seen_others seen t q (firsts ts))
    by false q same_seen more_seen = ap (λ z. t ∷ z) (more_seen ∙ sym (new_others seen t (firsts ts)))

all_kept : (ts : List Datum) → filter (λ u. not (is_in [] u)) ts ≡ ts
all_kept [] = refl
all_kept (t ∷ ts) = ap (λ z. t ∷ z) (all_kept ts)

-- where nothing was seen, each value at its first place
pub none_seen : (ts : List Datum) → unseen [] ts ≡ firsts ts
none_seen ts = unseen_is [] ts ∙ all_kept (firsts ts)

pub unseen_append : (seen ts us : List Datum)
    → unseen seen (ts ++ us) ≡ unseen seen ts ++ unseen (add_all true seen ts) us
unseen_append seen [] us = refl
unseen_append seen (t ∷ ts) us =
    by (is_in seen t) (unseen_append seen ts us) (unseen_append (seen ++ t ∷ []) ts us)
  where
    by : (b : Bool) → unseen seen (ts ++ us) ≡ unseen seen ts ++ unseen (add_all true seen ts) us
        → unseen (seen ++ t ∷ []) (ts ++ us)
        ≡ unseen (seen ++ t ∷ []) ts ++ unseen (add_all true (seen ++ t ∷ []) ts) us
        → cond b (unseen seen (ts ++ us)) (t ∷ unseen (seen ++ t ∷ []) (ts ++ us))
        ≡ cond b (unseen seen ts) (t ∷ unseen (seen ++ t ∷ []) ts)
        ++ unseen (add_all true (cond b seen (seen ++ t ∷ [])) ts) us
    by true same_seen more_seen = same_seen
    by false same_seen more_seen = ap (λ z. t ∷ z) more_seen

-- what `insert` tells
pub is_new : (b d : Bool) → b ≡ true → b ≡ not d → d ≡ false
is_new b true e f = absurd (true≢false (sym e ∙ f))
is_new b false e f = refl

pub is_old : (b d : Bool) → b ≡ false → b ≡ not d → d ≡ true
is_old b true e f = refl
is_old b false e f = absurd (true≢false (sym f ∙ e))

-- one value more
pub take_one : (b : Bool) (seen : List Datum) (t : Datum) (ts out : List Datum) → is_in seen t ≡ b
    → (cond b out (out ++ t ∷ [])) ++ unseen (cond b seen (seen ++ t ∷ [])) ts ≡ out ++ unseen seen (t ∷ ts)
take_one true seen t ts out e = rw e refl
take_one false seen t ts out e = rw e (append_assoc out (t ∷ []) (unseen (seen ++ t ∷ []) ts))

-- ---- rows of results

values_append : (e : ExprTree) (held rows : List Row) → values_of e (held ++ rows)
    ≡ values_of e held ++ values_of e rows
values_append e held rows = map-append (value_of e) held rows

results_append : (e : ExprTree) (seen : List Datum) (held rows : List Row) → results_of e seen (held ++ rows)
    ≡ results_of e seen held ++ results_of e (add_all true seen (values_of e held)) rows
results_append e seen held rows =
    ap (λ ts. map result_row (unseen seen ts)) (values_append e held rows)
    ∙ ap (map result_row) (unseen_append seen (values_of e held) (values_of e rows))
    ∙ map-append result_row (unseen seen (values_of e held))
    (unseen (add_all true seen (values_of e held)) (values_of e rows))

-- a RETURN DISTINCT that holds no rows and saw no values gives what its node gives
pub returns_firsts : (e : ExprTree) (w : Dataset) (start : Row) (rows : List Row) (r : Rest)
    → left_results e true [] [] rows r
    → NoneSent r.counts × GivesCounting (plan.Return true e) w start rows r.rows r.counts
returns_firsts e w start rows r h = (
  λ l. (h.1 (sent_on l), h.1 (opened_on l), h.1 (closed_on l)),
  (h.0 ∙ ap (map result_row) (none_seen (values_of e rows)), h.1),
)

-- a block that is put in stands before the rows to come
pub put_results : (e : ExprTree) (made : Bool) (seen : List Datum) (held block rows : List Row) (r : Rest)
    → held ≡ [] → left_results e false seen block rows r
    → left_results e made seen held (block ++ rows) r
put_results e true seen held block rows r none h = rw none (h.0 ∙ sym (results_append e seen block rows), h.1)
put_results e false seen held block rows r none h = rw none
    (h.0 ∙ sym (results_append e seen block rows), h.1)

-- the first of the results are given
pub front_results : (e : ExprTree) (made : Bool) (most : ℕ) (seen after : List Datum)
    (held rows front rest : List Row) (r : Rest)
    → front ≡ take most (shown e made seen held) → rest ≡ drop most (shown e made seen held)
    → after ≡ seen_after e made seen held → left_results e true after rest rows r
    → (b : Rest) × Prefixed all_exact front nothing r b × left_results e made seen held rows b
front_results e made most seen after held rows front rest r f g a h =
    let kept = shown e made seen held in
    let coming = results_of e (seen_after e made seen held) rows in
    let all : kept ++ coming ≡ front ++ r.rows =
    ap (λ z. z ++ coming) (sym (take-append-drop most kept) ∙ ap (λ z. z ++ drop most kept) (sym f)
    ∙ ap (λ z. front ++ z) (sym g)) ∙ append_assoc front rest coming
    ∙ ap (λ z. front ++ z) (sym (h.0 ∙ ap (λ s. rest ++ results_of e s rows) a)) in (
      record { rows = kept ++ coming; counts = nothing },
      record {
        rows = all;
        counts = λ c. (let k = h.1 c in omega (arith, k));
        exact = λ c i. omega arith;
      },
      (refl, λ c. refl),
    )

unseen_fewer : (seen ts : List Datum) → length (unseen seen ts) ≤ length ts
unseen_fewer seen [] = omega arith
unseen_fewer seen (t ∷ ts) =
    by (is_in seen t) (unseen_fewer seen ts) (unseen_fewer (seen ++ t ∷ []) ts)
  where
    by : (b : Bool) → length (unseen seen ts) ≤ length ts → length (unseen (seen ++ t ∷ []) ts) ≤ length ts
        → length (cond b (unseen seen ts) (t ∷ unseen (seen ++ t ∷ []) ts)) ≤ length (t ∷ ts)
    by true n m = omega (arith, n)
    by false n m = omega (arith, m)

-- no more results than rows that are held
pub shown_fewer : (e : ExprTree) (made : Bool) (seen : List Datum) (held : List Row)
    → length (shown e made seen held) ≤ length held
shown_fewer e true seen held = omega arith
shown_fewer e false seen held =
    let n = unseen_fewer seen (values_of e held) in
    let m = length-map (unseen seen (values_of e held)) result_row in
    let k = length-map held (value_of e) in
    omega (arith, n, m, k)
