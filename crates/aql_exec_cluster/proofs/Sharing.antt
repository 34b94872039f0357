-- A place in a list of blocks, and what is in front of it after a step.
use Rattle.std.proofs.Common.{◌≡◌, ℕ, zero, suc, ◌+◌, ◌-◌, ◌<◌, ◌≤◌, ◌++◌, List, [], ◌∷◌, length, take, drop, get_or, refl, sym, ap, ◌∙◌, subst, arith, append_assoc, length-append, length-drop}
use Rattle.std.specs.Prelude.{slice_get, Some}
use Rattle.std.proofs.lemmas.List.{drop_all, drop-drop, drop-append-le, take-append-drop, take_more, get_or-drop, length-take-le, append-nil}
use Rattle.std.proofs.lemmas.Option.{get_or_from_slice_get, slice_get_within}
use Rattle.aql_meaning.specs.Row.{Row}
use Rattle.aql_block.specs.Tables.{Table, rows_of}
use Rattle.aql_engine.specs.Run.{rows_in}
use Rattle.aql_exec_cluster.specs.Shared.{rows_from}

-- the rows of the block at the place, and those of the blocks after it
pub at_block : (bs : List Table) (at row : ℕ) (b : Table) → slice_get bs at ≡ Some b
    → rows_from bs at row ≡ drop row (rows_of b) ++ rows_in (drop (suc at) bs)
at_block [] at row b e = absurd (cc)
at_block (x ∷ bs) zero row b e =
    let same : x ≡ b = cc in ap (λ z. drop row (rows_of z) ++ rows_in bs) same
at_block (x ∷ bs) (suc at) row b e = at_block bs at row b e

from_start : (bs : List Table) → rows_from bs 0 0 ≡ rows_in bs
from_start [] = refl
from_start (b ∷ bs) = refl

-- all rows stand after the start
pub at_start : (bs bs' : List Table) (at row : ℕ) → bs' ≡ bs → at ≡ 0 → row ≡ 0
    → rows_from bs' at row ≡ rows_in bs
at_start bs bs' at row same a r = rw (same, a, r) (from_start bs)

-- past the rows of a block the next one begins
after_block : (bs : List Table) (at row : ℕ) (b : Table) → slice_get bs at ≡ Some b → length (rows_of b) ≤ row
    → rows_from bs (suc at) 0 ≡ rows_from bs at row
after_block [] at row b e h = absurd (cc)
after_block (x ∷ bs) zero row b e h =
    let same : b ≡ x = cc in
    let none : drop row (rows_of x) ≡ [] =
    drop_all row (rows_of x) (subst (λ z. length (rows_of z) ≤ row) same h) in
    from_start bs ∙ ap (λ z. z ++ rows_in bs) (sym none)
after_block (x ∷ bs) (suc at) row b e h = after_block bs at row b e h

pub next_block : (bs : List Table) (at row : ℕ) (b : Table) → slice_get bs at ≡ Some b
    → length (rows_of b) ≤ row
    → rows_from bs (at + 1) 0 ≡ rows_from bs at row
next_block bs at row b e h =
    let next : at + 1 ≡ suc at = omega arith in
    ap (λ n. rows_from bs n 0) next ∙ after_block bs at row b e h

pub past_blocks : (bs : List Table) (at row : ℕ) → length bs ≤ at → rows_from bs at row ≡ []
past_blocks [] at row h = refl
past_blocks (b ∷ bs) zero row h = absurd (omega (arith, h))
past_blocks (b ∷ bs) (suc at) row h = past_blocks bs at row (omega (arith, h))

-- some rows of the block further on
pub further : (bs : List Table) (at row n : ℕ) (b : Table) → slice_get bs at ≡ Some b
    → row + n ≤ length (rows_of b) → rows_from bs at (row + n) ≡ drop n (rows_from bs at row)
further bs at row n b e h =
    let rows = rows_of b in
    let rest = rows_in (drop (suc at) bs) in
    let few : n ≤ length (drop row rows) = (let l = length-drop row rows in omega (arith, l, h)) in
    at_block bs at (row + n) b e ∙ ap (λ z. z ++ rest) (sym (drop-drop n row rows))
    ∙ sym (drop-append-le n (drop row rows) rest few) ∙ ap (drop n) (sym (at_block bs at row b e))

pub rows_there : (bs : List Table) (at row n : ℕ) (b : Table) → slice_get bs at ≡ Some b
    → row + n ≤ length (rows_of b) → n ≤ length (rows_from bs at row)
rows_there bs at row n b e h =
    let rows = rows_of b in
    let rest = rows_in (drop (suc at) bs) in
    let l = length-drop row rows in
    let m = ap length (at_block bs at row b e) in
    let k = length-append (drop row rows) rest in
    omega (arith, l, h, m, k)

-- the rows up to there in front of those after them
pub copied : (bs : List Table) (at row n : ℕ) (b : Table) (copy : List Row) → slice_get bs at ≡ Some b
    → row + n ≤ length (rows_of b) → copy ≡ take n (drop row (rows_of b))
    → rows_from bs at row ≡ copy ++ rows_from bs at (row + n)
copied bs at row n b copy e h is =
    let rows = rows_of b in
    let rest = rows_in (drop (suc at) bs) in
    at_block bs at row b e ∙ ap (λ z. z ++ rest) (sym (take-append-drop n (drop row rows)))
    ∙ append_assoc (take n (drop row rows)) (drop n (drop row rows)) rest
    ∙ ap (λ z. take n (drop row rows) ++ (z ++ rest)) (drop-drop n row rows)
    ∙ ap (λ z. z ++ (drop (row + n) rows ++ rest)) (sym is)
    ∙ ap (λ z. copy ++ z) (sym (at_block bs at (row + n) b e))

-- a copy with the next row
pub one_more : (rows copy copy' : List Row) (from at : ℕ) (row : Row) → from ≤ at
    → slice_get rows at ≡ Some row
    → copy ≡ take (at - from) (drop from rows) → copy' ≡ copy ++ row ∷ []
    → copy' ≡ take ((at + 1) - from) (drop from rows)
one_more rows copy copy' from at row h e is is' =
    let n = at - from in
    let rest = drop from rows in
    let within = slice_get_within rows at row e in
    let l = length-drop from rows in
    let there : n < length rest = omega (arith, within, l, h) in
    let place : from + n ≡ at = omega (arith, h) in
    let next : get_or rest n row ≡ row =
    get_or-drop from rows n row ∙ ap (λ k. get_or rows k row) place
    ∙ get_or_from_slice_get rows at row row e in
    let count : n + 1 ≡ (at + 1) - from = omega (arith, h) in
    is' ∙ ap (λ z. z ++ row ∷ []) is ∙ ap (λ z. take n rest ++ z ∷ []) (sym next)
    ∙ sym (take_more rest n row there) ∙ ap (λ k. take k rest) count

-- rows that a place was moved past
pub past_rows : (rows rest block : List Row) (n : ℕ) → rest ≡ drop n rows → n ≤ length rows → block ≡ []
    → (s : List Row) × (length s ≡ n) × (rows ≡ (s ++ block) ++ rest)
past_rows rows rest block n is h none = (
  take n rows,
  length-take-le n rows h,
  sym (ap (λ z. (take n rows ++ z) ++ rest) none ∙ ap (λ z. z ++ rest) (append-nil (take n rows))
      ∙ ap (λ z. take n rows ++ z) is ∙ take-append-drop n rows),
)
