-- What a FILTER holds and gives.
use Rattle.std.proofs.Common.{◌≡◌, ℕ, zero, suc, ◌+◌, ◌-◌, ◌<◌, ◌≤◌, ◌^◌, ◌++◌, List, [], ◌∷◌, length, map, take, drop, Bool, true, false, cond, not, min, refl, sym, ap, ◌∙◌, arith, append_assoc, length-append}
use Rattle.std.specs.Prelude.{Result, Ok, Err, IfOk, OnOk}
use Rattle.std.proofs.lemmas.List.{take-append-drop}
use Rattle.std.proofs.lemmas.List.Elements.{filter-append}
use Rattle.std.proofs.lemmas.List.Filters.{length-filter_both}
use Rattle.aql_tree.specs.Tree.{ExprTree}
use Rattle.aql_value.specs.Datum.{Datum}
use Rattle.aql_value.specs.Truth.{truth}
use Rattle.aql_meaning.specs.Row.{Row}
use Rattle.aql_meaning.specs.AtRows.{value_of, values_of}
use Rattle.aql_meaning.specs.Clauses.{filter_true}
use Rattle.aql_plan.specs.Plan as plan
use Rattle.aql_plan.specs.Runs.{Dataset}
use Rattle.aql_block.specs.Tables.{marked}
use Rattle.aql_block.specs.declared.tally.Tally.{Tally}
use Rattle.aql_exec.specs.Rests.{Counter, scanned_full, scanned_index, filtered, sent_on, opened_on, closed_on, Rest, Prefixed, all_exact}
use Rattle.aql_exec.specs.Rising.{TallyRose}
use Rattle.aql_exec.specs.Counting.{counts, NoneSent, GivesCounting}
use Rattle.aql_exec.specs.laws.Counted.{rose_none, rose_same, rose_saturated}
use Rattle.aql_exec.specs.Filters.{passing, failing, kept_of, lost_of, left_keep}

-- ---- the node

passing_is : (e : ExprTree) (rows : List Row) → passing e rows ≡ filter_true rows (values_of e rows)
passing_is e [] = refl
passing_is e (row ∷ rows) = ap (λ z. cond (truth (value_of e row)) (row ∷ z) z) (passing_is e rows)

pub both : (e : ExprTree) (rows : List Row) → length (passing e rows) + length (failing e rows) ≡ length rows
both e rows = length-filter_both (λ row. truth (value_of e row)) (λ row. not (truth (value_of e row)))
    (λ row. refl) rows

-- a FILTER that holds no rows gives what its node gives
pub filters : (e : ExprTree) (w : Dataset) (start : Row) (rows : List Row) (r : Rest)
    → left_keep e true [] rows r
    → NoneSent r.counts × GivesCounting (plan.Filter e) w start rows r.rows r.counts
filters e w start rows r h =
    let n = both e rows in
    let m = ap length h.0 in
    let k = h.1 filtered in (
      λ l. (h.1 (sent_on l), h.1 (opened_on l), h.1 (closed_on l)),
      (h.0 ∙ passing_is e rows, h.1 scanned_full, h.1 scanned_index, omega (arith, n, m, k)),
    )

-- ---- marks

one_marked : (b : Bool) (row : Row) (rows out : List Row) (bs : List Bool) → marked rows bs ≡ out
    → marked (row ∷ rows) (b ∷ bs) ≡ cond b (row ∷ out) out
one_marked true row rows out bs h = ap (λ z. row ∷ z) h
one_marked false row rows out bs h = h

pub marked_is : (e : ExprTree) (rows : List Row) → marked rows (map truth (values_of e rows)) ≡ passing e rows
marked_is e [] = refl
marked_is e (row ∷ rows) = one_marked (truth (value_of e row)) row rows (passing e rows)
    (map truth (values_of e rows)) (marked_is e rows)

mapped_twice : {A B C : Type 0} (f : A → B) (g : B → C) (xs : List A) → map (λ x. g (f x)) xs
    ≡ map g (map f xs)
mapped_twice f g [] = refl
mapped_twice f g (x ∷ xs) = ap (λ z. g (f x) ∷ z) (mapped_twice f g xs)

-- the rows that stay, where the marks are the truth of the values
pub retained : {V : Type 0} (e : ExprTree) (held after : List Row) (given marks : List Bool) (values : List V)
    (datum : V → Datum) → after ≡ marked held given → given ≡ marks → marks
    ≡ map (λ v. truth (datum v)) values
    → map datum values ≡ values_of e held → after ≡ passing e held
retained e held after given marks values datum a g m v =
    a ∙ ap (marked held) (g ∙ m ∙ mapped_twice datum truth values ∙ ap (map truth) v) ∙ marked_is e held

-- ---- counts

pub rises_same : (t : Tally) → TallyRose t t 0 0 0
rises_same t = (rose_none _, rose_none _, rose_none _)

pub rises_more : (t t' : Tally) (n m : ℕ) → n ≡ m → TallyRose t t' 0 0 n → TallyRose t t' 0 0 m
rises_more t t' n m e h = rw (← e) h

pub rises_dropped : (t t' : Tally) (n : ℕ) → t.filtered < 2 ^ 64
    → t' ≡ record t { filtered = min (t.filtered + n) (2 ^ 64 - 1) } → TallyRose t t' 0 0 n
rises_dropped t t' n l e = (
  rose_same _ _ (ap (λ (z : Tally). z.scanned_full) e),
  rose_same _ _ (ap (λ (z : Tally). z.scanned_index) e),
  rose_saturated _ _ n (omega (arith, l)) (ap (λ (z : Tally). z.filtered) e),
)

-- ---- blocks

-- a block that is put in stands before the rows to come
lost_more : (e : ExprTree) (block rows : List Row)
    → length (failing e block) + length (failing e rows) ≡ 0 + length (failing e (block ++ rows))
lost_more e block rows =
    let a = ap length (filter-append (λ row. not (truth (value_of e row))) block rows) in
    let b = length-append (failing e block) (failing e rows) in
    omega (arith, a, b)

pub put_in : (e : ExprTree) (judged : Bool) (held block rows : List Row) (r : Rest) → held ≡ []
    → left_keep e false block rows r → left_keep e judged held (block ++ rows) r
put_in e true held block rows r none h = rw none (
  h.0 ∙ sym (filter-append _ block rows),
  λ c. h.1 c ∙ ap (λ n. counts 0 0 n c) (lost_more e block rows),
)
put_in e false held block rows r none h = rw none (
  h.0 ∙ sym (filter-append _ block rows),
  λ c. h.1 c ∙ ap (λ n. counts 0 0 n c) (lost_more e block rows),
)

-- the first of the rows that pass are given
pub front_given : (e : ExprTree) (judged : Bool) (most : ℕ) (held rows front rest : List Row) (r : Rest)
    → front ≡ take most (kept_of e judged held) → rest ≡ drop most (kept_of e judged held)
    → left_keep e true rest rows r
    → (b : Rest) × Prefixed all_exact front (counts 0 0 (length (lost_of e judged held))) r b
    × left_keep e judged held rows b
front_given e judged most held rows front rest r f g h =
    let kept = kept_of e judged held in
    let all : kept ++ passing e rows ≡ front ++ r.rows =
    ap (λ z. z ++ passing e rows) (sym (take-append-drop most kept) ∙ ap (λ z. z ++ drop most kept) (sym f)
    ∙ ap (λ z. front ++ z) (sym g)) ∙ append_assoc front rest (passing e rows)
    ∙ ap (λ z. front ++ z) (sym h.0) in (
      record {
        rows = kept ++ passing e rows;
        counts = counts 0 0 (length (lost_of e judged held) + length (failing e rows));
      },
      record {
        rows = all;
        counts = λ c. (let k = each c in omega (arith, k));
        exact = λ c i. (let k = each c in omega (arith, k));
      },
      (refl, λ c. refl),
    )
  where
    each : (c : Counter) → r.counts c + counts 0 0 (length (lost_of e judged held)) c
        ≡ counts 0 0 (length (lost_of e judged held) + length (failing e rows)) c
    each scanned_full = (let k = h.1 scanned_full in omega (arith, k))
    each scanned_index = (let k = h.1 scanned_index in omega (arith, k))
    each filtered = (let k = h.1 filtered in omega (arith, k))
    each (sent_on l) = (let k = h.1 (sent_on l) in omega (arith, k))
    each (opened_on l) = (let k = h.1 (opened_on l) in omega (arith, k))
    each (closed_on l) = (let k = h.1 (closed_on l) in omega (arith, k))

-- no more rows pass than are held
pub kept_fewer : (e : ExprTree) (judged : Bool) (held : List Row)
    → length (kept_of e judged held) ≤ length held
kept_fewer e true held = omega arith
kept_fewer e false held = (let n = both e held in omega (arith, n))

pub cut : (most : ℕ) (rows front rest : List Row) → front ≡ take most rows → rest ≡ drop most rows
    → length rest + length front ≡ length rows
cut most rows front rest f g =
    let a = ap length (take-append-drop most rows) in
    let b = length-append (take most rows) (drop most rows) in
    let i = ap length f in
    let j = ap length g in
    omega (arith, a, b, i, j)

-- where none is given, none is left
pub none_left : (most : ℕ) (rows front rest : List Row) → 1 ≤ most → front ≡ take most rows → rest
    ≡ drop most rows
    → length front ≡ 0 → rest ≡ []
none_left zero rows front rest m f g l = absurd (omega (arith, m))
none_left (suc most) [] front rest m f g l = g
none_left (suc most) (row ∷ rows) front rest m f g l =
    (let i = ap length f in absurd (omega (arith, i, l)))

-- two facts on what a call returned
pub both_ok : {A E R : Type 0} {P Q : A → Type 0} (r : Result A E) → IfOk r P → OnOk r R
    → ((x : A) → P x → R → Q x) → IfOk r Q
both_ok (Ok x) p q f = f x p q
both_ok (Err e) p q f = tt
