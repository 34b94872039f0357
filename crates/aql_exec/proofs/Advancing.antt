-- What an executor by a transform gives: the rows of its transform, with what the input counts.
use Rattle.std.proofs.Common.{◌≡◌, ◌+◌, ◌++◌, List, [], length, refl, sym, ap, ◌∙◌, subst, arith}
use Rattle.std.proofs.lemmas.List.{nil_from_length}
use Rattle.aql_meaning.specs.Row.{Row}
use Rattle.aql_block.specs.declared.calls.Step.{Step}
use Rattle.aql_exec.specs.Rests.{Counts, Exact, Rest, Prefixed, with_rows, all_exact}
use Rattle.aql_exec.specs.Steps.{Continues, given, reported}
use Rattle.aql_exec.specs.Streaming.{Counting}
use Rattle.aql_exec.specs.laws.Handing.{same_rows, same_counts}

-- a rest of the transform over the input's rows, with what the input counts
abbrev pub Adding : (List Row → Rest → Type 0) → Rest → Rest → Type 0
Adding left input r = (own : Rest) × left input.rows own × Counting input own r

-- a step of the transform is one of the executor
pub led_adding : {v : Exact} (before after : List Row → Rest → Type 0) (step : Step) (d : Counts) (s : List Row)
    (i' i : Rest)
    → length s ≡ 0 → i' ≡ with_rows s i → ((rows : List Row) → Continues all_exact (before rows) d step (after rows))
    → Continues v (Adding before i') d step (Adding after i)
led_adding before after step d s i' i l e k r h =
    let x = k i.rows h.0 h.1 in
    let rows : x.1.rows ≡ (x.0 ++ given step) ++ r.rows =
    x.3.rows ∙ ap (λ z. (x.0 ++ given step) ++ z) (sym h.2.0) in (
      x.0,
      record { rows = x.1.rows; counts = λ c. i'.counts c + x.1.counts c },
      x.2,
      record {
        rows = rows;
        counts = λ c. (let m = x.3.counts c in let n = h.2.1 c in let p = same_counts s i' i e c in
            omega (arith, m, n, p));
        exact = λ c y. (let m = x.3.exact c refl in let n = h.2.1 c in let p = same_counts s i' i e c in
            omega (arith, m, n, p));
      },
      (x.1, subst (λ z. before z x.1) (sym (same_rows s i' i l e)) x.4, (refl, λ c. refl)),
    )

-- a step that reported of nothing
pub quiet : {v : Exact} (before after : List Row → Rest → Type 0) (step : Step) (d : Counts) (i : Rest)
    → reported step ≡ 0 → ((rows : List Row) → Continues all_exact (before rows) d step (after rows))
    → (r : Rest) → Adding after i r → (b : Rest) × Prefixed v [] d r b × Adding before i b
quiet before after step d i t k r h =
    let x = k i.rows h.0 h.1 in
    let m = x.2 in
    let skips : x.0 ≡ [] = nil_from_length x.0 (omega (arith, m, t)) in
    let none : given step ≡ [] = nil_from_length (given step) (omega (arith, t)) in
    let rows : x.1.rows ≡ r.rows =
    x.3.rows ∙ ap (λ z. (z ++ given step) ++ h.0.rows) skips ∙ ap (λ z. z ++ h.0.rows) none ∙ sym h.2.0 in (
      record { rows = x.1.rows; counts = λ c. i.counts c + x.1.counts c },
      record {
        rows = rows;
        counts = λ c. (let m = x.3.counts c in let n = h.2.1 c in omega (arith, m, n));
        exact = λ c y. (let m = x.3.exact c refl in let n = h.2.1 c in omega (arith, m, n));
      },
      (x.1, x.4, (refl, λ c. refl)),
    )

-- the same rest over an input with no row in front
pub same_adding : (left : List Row → Rest → Type 0) (s : List Row) (i' i r : Rest) → length s ≡ 0
    → i' ≡ with_rows s i → Adding left i r → Adding left i' r
same_adding left s i' i r l e h = (
  h.0,
  subst (λ z. left z h.0) (sym (same_rows s i' i l e)) h.1,
  (h.2.0, λ c. h.2.1 c ∙ ap (λ z. z + h.0.counts c) (sym (same_counts s i' i e c))),
)

-- and so is an answer that tells of nothing
pub led_quiet : {v : Exact} (before after : List Row → Rest → Type 0) (step answer : Step) (d : Counts) (s : List Row)
    (i' i : Rest) → length s ≡ 0 → i' ≡ with_rows s i → reported step ≡ 0 → answer.skipped ≡ 0 → given answer ≡ []
    → ((rows : List Row) → Continues all_exact (before rows) d step (after rows))
    → Continues v (Adding before i') d answer (Adding after i)
led_quiet before after step answer d s i' i l e t z g k r h =
    let x = quiet before after step d i' t k r (same_adding after s i' i r l e h) in (
      [],
      x.0,
      sym z,
      record {
        rows = x.1.rows ∙ ap (λ y. y ++ r.rows) (sym g);
        counts = x.1.counts;
        exact = x.1.exact;
      },
      x.2,
    )

-- a block that is put in stands before the rows to come
pub put_adding : {v : Exact} (before after : List Row → Rest → Type 0) (block s0 s : List Row) (d : Counts)
    (i' i t b r : Rest) → length s0 ≡ 0 → length s ≡ 0 → Prefixed v (s ++ block) d t b → i' ≡ with_rows (s0 ++ s) t
    → i ≡ with_rows s0 b
    → ((rows : List Row) (own : Rest) → rows ≡ i'.rows → after rows own → before (block ++ rows) own)
    → Adding after i' r → (q : Rest) × Prefixed v [] d r q × Adding before i q
put_adding before after block s0 s d i' i t b r l0 l a e' e k h =
    let none0 : s0 ≡ [] = nil_from_length s0 l0 in
    let none : s ≡ [] = nil_from_length s l in
    let new_rows : i'.rows ≡ t.rows =
    ap (λ (z : Rest). z.rows) e' ∙ ap (λ z. (z ++ s) ++ t.rows) none0 ∙ ap (λ z. z ++ t.rows) none in
    let old_rows : i.rows ≡ block ++ t.rows =
    same_rows s0 i b l0 e ∙ a.rows ∙ ap (λ z. (z ++ block) ++ t.rows) none in (
      record { rows = r.rows; counts = λ c. i.counts c + h.0.counts c },
      record {
        rows = refl;
        counts = λ c. (let m = a.counts c in let n = h.2.1 c in let p = same_counts (s0 ++ s) i' t e' c in
            let q = same_counts s0 i b e c in omega (arith, m, n, p, q));
        exact = λ c y. (let m = a.exact c y in let n = h.2.1 c in let p = same_counts (s0 ++ s) i' t e' c in
            let q = same_counts s0 i b e c in omega (arith, m, n, p, q));
      },
      (
        h.0,
        subst (λ z. before z h.0) (ap (λ z. block ++ z) new_rows ∙ sym old_rows) (k i'.rows h.0 refl h.1),
        (h.2.0, λ c. refl),
      ),
    )
