-- What a LIMIT gives of the rows that it left out, of those that it holds and of those to come.
use Rattle.std.proofs.Common.{◌≡◌, ℕ, ◌+◌, ◌-◌, ◌≤◌, ◌++◌, ◌⊎◌, inl, inr, List, [], ◌∷◌, length, take, drop, true, refl, sym, ap, ◌∙◌, arith, append_assoc, length-append, length-drop}
use Rattle.std.proofs.Math.Seq.{take-append-add, drop-append-add}
use Rattle.std.proofs.lemmas.List.{take-append-drop, drop-append-le, drop_all, append-nil}
use Rattle.aql_meaning.specs.Row.{Row}
use Rattle.aql_meaning.specs.Clauses.{limit_rows}
use Rattle.aql_block.specs.declared.calls.Step.{Step}
use Rattle.aql_exec.specs.Rests.{Counts, Exact, Rest, Prefixed, with_rows}
use Rattle.aql_exec.specs.Counting.{nothing}
use Rattle.aql_exec.specs.Steps.{given}
use Rattle.aql_exec.specs.Mapping.{held_in}
use Rattle.aql_exec.specs.Limiting.{Limits}
use Rattle.aql_exec.specs.laws.Handing.{held_after, same_counts}

-- where no rows are held the input stands as it is
pub held_none : (k : ℕ) (rows input : List Row) → rows ≡ [] → held_in true k rows input ≡ input
held_none k rows input e =
    rw e (ap (λ z. z ++ drop k input) (append-nil (take k input)) ∙ take-append-drop k input)

-- a step that was taken
pub limit_taken : {v : Exact} (skip left k j : ℕ) (block held s0 s : List Row) (d : Counts) (i' i t b r : Rest) → block
    ≡ []
    → length s0 ≡ k → length s ≡ j → Prefixed v (s ++ held) d t b → i' ≡ with_rows (s0 ++ s) t → i ≡ with_rows s0 b
    → Limits skip left (held_in true (k + j) held i'.rows) i' r
    → (q : Rest) × Prefixed v [] d r q × Limits skip left (held_in true k block i.rows) i q
limit_taken skip left k j block held s0 s d i' i t b r e l0 l a f' f h =
    let n = length-append s0 s in
    let both : length (s0 ++ s) ≡ k + j = omega (arith, n, l0, l) in
    let new_rows : held_in true (k + j) held i'.rows ≡ ((s0 ++ s) ++ held) ++ t.rows =
    ap (λ (z : Rest). held_in true (k + j) held z.rows) f' ∙ held_after (k + j) (s0 ++ s) held t.rows both in
    let same : ((s0 ++ s) ++ held) ++ t.rows ≡ s0 ++ ((s ++ held) ++ t.rows) = simp append_assoc in
    let old_rows : held_in true k block i.rows ≡ s0 ++ ((s ++ held) ++ t.rows) =
    held_none k block i.rows e ∙ ap (λ (z : Rest). z.rows) f ∙ ap (λ z. s0 ++ z) a.rows in (
      record { rows = r.rows; counts = b.counts },
      record {
        rows = refl;
        counts = λ c. (let m = a.counts c in let p = h.1 c in let q = same_counts (s0 ++ s) i' t f' c in
            omega (arith, m, p, q));
        exact = λ c y. (let m = a.exact c y in let p = h.1 c in let q = same_counts (s0 ++ s) i' t f' c in
            omega (arith, m, p, q));
      },
      (h.0 ∙ ap (limit_rows skip left) (new_rows ∙ same ∙ sym old_rows), λ c. sym (same_counts s0 i b f c)),
    )

-- what is reported of, and what is left after that
parts : (skip left left' : ℕ) (s rows input : List Row) → skip ≤ length s
    → left' + ((length s - skip) + length rows) ≡ left
    → limit_rows skip left ((s ++ rows) ++ input)
    ≡ (drop skip s ++ rows) ++ limit_rows (skip - length s) left' input
parts skip left left' s rows input h e =
    let n = length-append (drop skip s) rows in
    let m = length-drop skip s in
    let left_is : left ≡ length (drop skip s ++ rows) + left' = omega (arith, n, m, e, h) in
    let none : skip - length s ≡ 0 = omega (arith, h) in
    let first : drop skip ((s ++ rows) ++ input) ≡ (drop skip s ++ rows) ++ input =
    ap (drop skip) (append_assoc s rows input) ∙ drop-append-le skip s (rows ++ input) h
    ∙ sym (append_assoc (drop skip s) rows input) in
    ap (take left) first ∙ ap (λ z. take z ((drop skip s ++ rows) ++ input)) left_is
    ∙ take-append-add (drop skip s ++ rows) input left'
    ∙ ap (λ z. (drop skip s ++ rows) ++ limit_rows z left' input) (sym none)

still_out : (skip left left' : ℕ) (s rows input : List Row) → length s ≤ skip → rows ≡ []
    → left' + ((length s - skip) + length rows) ≡ left
    → limit_rows skip left ((s ++ rows) ++ input)
    ≡ (drop skip s ++ rows) ++ limit_rows (skip - length s) left' input
still_out skip left left' s rows input h none e =
    let l = ap length none in
    let left_is : left ≡ left' = omega (arith, e, l, h) in
    let skip_is : skip ≡ length s + (skip - length s) = omega (arith, h) in
    let whole : (s ++ rows) ++ input ≡ s ++ input = ap (λ z. (s ++ z) ++ input) none
    ∙ ap (λ z. z ++ input) (append-nil s) in
    let reported : drop skip s ++ rows ≡ [] = ap (λ z. drop skip s ++ z) none ∙ append-nil (drop skip s)
    ∙ drop_all skip s h in
    ap (limit_rows skip left) whole ∙ ap (λ z. limit_rows z left (s ++ input)) skip_is
    ∙ ap (take left) (drop-append-add s input (skip - length s))
    ∙ ap (λ z. take z (drop (skip - length s) input)) left_is
    ∙ ap (λ z. z ++ limit_rows (skip - length s) left' input) (sym reported)

split : (skip left left' : ℕ) (s rows input : List Row) → (1 ≤ length rows → skip ≤ length s)
    → left' + ((length s - skip) + length rows) ≡ left → (skip ≤ length s) ⊎ (length s ≤ skip)
    → limit_rows skip left ((s ++ rows) ++ input)
    ≡ (drop skip s ++ rows) ++ limit_rows (skip - length s) left' input
split skip left left' s rows input f e (inl h) = parts skip left left' s rows input h e
split skip left left' s [] input f e (inr h) = still_out skip left left' s [] input h refl e
split skip left left' s (row ∷ rows) input f e (inr h) =
    parts skip left left' s (row ∷ rows) input (f (omega arith)) e

-- an answer: the rows that are reported of stand in front
pub limit_reported : {v : Exact} (skip left left' k : ℕ) (rows block s : List Row) (step : Step) (i' i r : Rest) → length s
    ≡ k
    → i' ≡ with_rows s i → (1 ≤ length rows → skip ≤ k) → left' + ((k - skip) + length rows) ≡ left → block
    ≡ []
    → ((given step ≡ rows) × (step.skipped ≡ k - skip))
    ⊎ ((given step ≡ []) × (step.skipped ≡ (k - skip) + length rows))
    → Limits (skip - k) left' (held_in true 0 block i.rows) i r
    → (skipped : List Row) × (b : Rest) × (length skipped ≡ step.skipped)
    × Prefixed v (skipped ++ given step) nothing r b
    × Limits skip left (held_in true k rows i'.rows) i' b
limit_reported {v = v} skip left left' k rows block s step i' i r l f g e none t h = answer t
  where
    b : Rest
    b = record { rows = (drop skip s ++ rows) ++ r.rows; counts = r.counts }

    now : r.rows ≡ limit_rows (skip - length s) left' i.rows
    now = h.0 ∙ ap (limit_rows (skip - k) left') (held_none 0 block i.rows none)
        ∙ ap (λ z. limit_rows (skip - z) left' i.rows) (sym l)

    before : Limits skip left (held_in true k rows i'.rows) i' b
    before =
        let all : held_in true k rows i'.rows ≡ (s ++ rows) ++ i.rows =
        ap (λ (z : Rest). held_in true k rows z.rows) f ∙ held_after k s rows i.rows l in
        let cut : limit_rows skip left ((s ++ rows) ++ i.rows)
        ≡ (drop skip s ++ rows) ++ limit_rows (skip - length s) left' i.rows =
        split skip left left' s rows i.rows (rw (← l) at g) (rw (← l) at e) (grind arith) in (
          ap (λ z. (drop skip s ++ rows) ++ z) now ∙ sym (ap (limit_rows skip left) all ∙ cut),
          λ c. h.1 c ∙ sym (same_counts s i' i f c),
        )

    answer : ((given step ≡ rows) × (step.skipped ≡ k - skip))
        ⊎ ((given step ≡ []) × (step.skipped ≡ (k - skip) + length rows))
        → (skipped : List Row) × (b : Rest) × (length skipped ≡ step.skipped)
        × Prefixed v (skipped ++ given step) nothing r b × Limits skip left (held_in true k rows i'.rows) i' b
    answer (inl x) =
        let m = length-drop skip s in (
          drop skip s,
          b,
          (let y = x.1 in omega (arith, m, l, y)),
          record {
            rows = ap (λ z. (drop skip s ++ z) ++ r.rows) (sym x.0);
            counts = λ c. omega arith;
            exact = λ c y. omega arith;
          },
          before,
        )
    answer (inr x) =
        let m = length-drop skip s in
        let n = length-append (drop skip s) rows in (
          drop skip s ++ rows,
          b,
          (let y = x.1 in omega (arith, m, n, l, y)),
          record {
            rows = ap (λ z. z ++ r.rows) (sym (ap (λ z. (drop skip s ++ rows) ++ z) x.0
                ∙ append-nil (drop skip s ++ rows)));
            counts = λ c. omega arith;
            exact = λ c y. omega arith;
          },
          before,
        )
