-- Rows that an executor makes of each row of its input: where they stand among the rows of the input.
use Rattle.std.proofs.Common.{◌≡◌, ℕ, ◌++◌, List, [], length, map, take, drop, true, refl, sym, ap, ◌∙◌, arith}
use Rattle.std.proofs.Math.Seq.{take-append_seam, drop-append_seam}
use Rattle.std.proofs.lemmas.List.{nil_from_length, map-append, length-map}
use Rattle.aql_meaning.specs.Row.{Row}
use Rattle.aql_exec.specs.Rests.{Counter, Counts, Exact, Rest, Prefixed, with_rows}
use Rattle.aql_exec.specs.Counting.{nothing}
use Rattle.aql_exec.specs.Mapping.{held_in, Images}

seam : (s rows left : List Row)
    → (take (length s) (s ++ left) ++ rows) ++ drop (length s) (s ++ left) ≡ (s ++ rows) ++ left
seam s rows left = rw (take-append_seam, drop-append_seam) refl

-- the rows that are held stand after those that were skipped
pub held_after : (k : ℕ) (s rows left : List Row) → length s ≡ k
    → held_in true k rows (s ++ left) ≡ (s ++ rows) ++ left
held_after k s rows left e = rw (← e) (seam s rows left)

-- nothing is unreported of an input
pub none_unreported : (s : List Row) (i' i : Rest) → length s ≡ 0 → i' ≡ with_rows s i → i' ≡ i
none_unreported s i' i l e = e ∙ ap (λ z. with_rows z i) (nil_from_length s l)

-- with no row in front the input is the same
pub same_rows : (s : List Row) (i' i : Rest) → length s ≡ 0 → i' ≡ with_rows s i → i'.rows ≡ i.rows
same_rows s i' i l e = ap (λ (z : Rest). z.rows) e ∙ ap (λ z. z ++ i.rows) (nil_from_length s l)

pub same_counts : (s : List Row) (i' i : Rest) → i' ≡ with_rows s i → (c : Counter) → i'.counts c ≡ i.counts c
same_counts s i' i e c = ap (λ (z : Rest). z.counts c) e

pub same_images : (f : Row → Row) (s : List Row) (i' i r : Rest) → length s ≡ 0 → i' ≡ with_rows s i
    → Images f i.rows i r → Images f i'.rows i' r
same_images f s i' i r l e h = (
  h.0 ∙ ap (map f) (sym (same_rows s i' i l e)),
  λ c. h.1 c
      ∙ sym (same_counts s i' i e c),
)

-- a step that was taken: what it reported of is in front of the input
pub taken : {x : Exact} (f : Row → Row) (k : ℕ) (rows s0 s : List Row) (d : Counts) (i' i t b r : Rest)
    → length s0 ≡ 0 → length s ≡ k → Prefixed x (s ++ rows) d t b
    → i' ≡ with_rows (s0 ++ s) t → i ≡ with_rows s0 b → Images f (held_in true k rows i'.rows) i' r
    → (q : Rest) × Prefixed x [] d r q × Images f i.rows i q
taken f k rows s0 s d i' i t b r l0 l a e' e h =
    let none : s0 ≡ [] = nil_from_length s0 l0 in
    let i'_rows : i'.rows ≡ s ++ t.rows =
    ap (λ (z : Rest). z.rows) e' ∙ ap (λ z. (z ++ s) ++ t.rows) none in
    let i_rows : i.rows ≡ b.rows = same_rows s0 i b l0 e in
    let held : held_in true k rows i'.rows ≡ b.rows =
    ap (held_in true k rows) i'_rows ∙ held_after k s rows t.rows l ∙ sym a.rows in (
      record { rows = r.rows; counts = b.counts },
      record {
        rows = refl;
        counts = λ c. (let m = a.counts c in let n = h.1 c in let p = same_counts (s0 ++ s) i' t e' c in
            omega (arith, m, n, p));
        exact = λ c v. (let m = a.exact c v in let n = h.1 c in let p = same_counts (s0 ++ s) i' t e' c in
            omega (arith, m, n, p));
      },
      (h.0 ∙ ap (map f) (held ∙ sym i_rows), λ c. sym (same_counts s0 i b e c)),
    )

-- a step that is handed back, with the images of its rows
pub handed : {x : Exact} (f : Row → Row) (k : ℕ) (rows out s : List Row) (i' i r : Rest)
    → length s ≡ k → i' ≡ with_rows s i → out ≡ map f rows → Images f i.rows i r
    → (skipped : List Row) × (b : Rest) × (length skipped ≡ k) × Prefixed x (skipped ++ out) nothing r b
    × Images f (held_in true k rows i'.rows) i' b
handed f k rows out s i' i r l e o h =
    let held : held_in true k rows i'.rows ≡ (s ++ rows) ++ i.rows =
    ap (λ (z : Rest). held_in true k rows z.rows) e ∙ held_after k s rows i.rows l in
    let parts : map f (held_in true k rows i'.rows) ≡ (map f s ++ map f rows) ++ map f i.rows =
    ap (map f) held ∙ map-append f (s ++ rows) i.rows
    ∙ ap (λ z. z ++ map f i.rows) (map-append f s rows) in (
      map f s,
      record { rows = (map f s ++ out) ++ r.rows; counts = r.counts },
      simp length-map l,
      record { rows = refl; counts = λ c. omega arith; exact = λ c v. omega arith },
      (
        ap (λ z. (map f s ++ z) ++ r.rows) o ∙ ap (λ z. (map f s ++ map f rows) ++ z) h.0 ∙ sym parts,
        λ c. h.1 c ∙ sym (same_counts s i' i e c),
      ),
    )
