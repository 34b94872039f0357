-- The rows that come to a shard, some at a time.
use Rattle.std.proofs.Common.{◌≡◌, ◌∙◌, ℕ, zero, suc, ◌+◌, ◌-◌, ◌<◌, ◌≤◌, List, [], ◌∷◌, ◌++◌, length, take, drop, get_or, Some, true, false, refl, sym, ap, arith, length-append, length-drop, length-take, append-nil}
use Rattle.std.specs.Prelude.{option_to_list, slice_get, Option, None, MatchOption, is_some}
use Rattle.std.specs.List.{All}
use mathlib.Core.Bool.{false≢true}
use Rattle.std.proofs.lemmas.Grind.{flat_map-append}
use Rattle.std.proofs.lemmas.List.{drop_more, take_more}
use Rattle.std.proofs.lemmas.List.Elements.{filter-append, All-append, All-cons, All-nil}
use Rattle.aql_tree.specs.declared.syntax.Expr.{Expr}
use Rattle.aql_tree.specs.Tree.{expr_then}
use Rattle.aql_tree.specs.View.{tree}
use Rattle.aql_meaning.specs.Row.{Row}
use Rattle.aql_plan.specs.View.{expr_trees}
use Rattle.aql_exec_cluster.specs.declared.routing.Routing.{Routing}
use Rattle.aql_exec_cluster.specs.declared.routing.Target.{Target}
use Rattle.aql_block.specs.Tables.{Table, rows_of}
use Rattle.aql_exec_cluster.specs.Shared.{rows_from}
use Rattle.aql_exec_cluster.specs.Routings.{comes_to, rows_to, rows_at_places}
use Rattle.aql_exec_cluster.proofs.Sharing.{one_more, copied}

-- ---- keys

-- the key at a place, with those after it
pub keys_here : (keys : List Expr) (i : ℕ) (key : Expr) → key ≡ get_or keys i key → i < length keys
    → expr_trees (drop i keys) ≡ expr_then (tree key) (expr_trees (drop (i + 1) keys))
keys_here keys i key e l =
    ap expr_trees (drop_more keys i key l)
    ∙ ap (λ k. expr_then (tree k) (expr_trees (drop (i + 1) keys))) (sym e)

-- ---- places

one_place : (rows : List Row) (at : ℕ) (row : Row) → slice_get rows at ≡ Some row
    → rows_at_places rows (at ∷ []) ≡ row ∷ []
one_place rows at row e = ap (λ o. option_to_list o ++ []) e

-- a place more
pub place_more : (rows : List Row) (places : List ℕ) (at : ℕ) (row : Row) → slice_get rows at ≡ Some row
    → rows_at_places rows (places ++ at ∷ []) ≡ rows_at_places rows places ++ row ∷ []
place_more rows places at row e =
    flat_map-append (λ i. option_to_list (slice_get rows i)) places (at ∷ [])
    ∙ ap (λ z. rows_at_places rows places ++ z) (one_place rows at row e)

-- the place that comes next
pub next_place : (rows : List Row) (places : List ℕ) (i : ℕ) (row : Row) → i < length places
    → slice_get rows (get_or places i 0) ≡ Some row
    → rows_at_places rows (take (i + 1) places) ≡ rows_at_places rows (take i places) ++ row ∷ []
next_place rows places i row l e =
    ap (rows_at_places rows) (take_more places i 0 l)
    ∙ place_more rows (take i places) (get_or places i 0) row e

one_each : (rows : List Row) (at : ℕ) → at < length rows
    → length (option_to_list (slice_get rows at)) ≡ 1
one_each [] at l = absurd (omega (arith, l))
one_each (row ∷ rows) zero l = refl
one_each (row ∷ rows) (suc at) l = one_each rows at (omega (arith, l))

-- a row at each of them
pub row_each : (rows : List Row) (places : List ℕ) → All (λ at. at < length rows) places
    → length (rows_at_places rows places) ≡ length places
row_each rows [] within = refl
row_each rows (at ∷ places) within =
    let here = one_each rows at (within 0 0 (omega arith)) in
    let rest = row_each rows places (λ k d l. within (suc k) d (omega (arith, l))) in
    let both = length-append (option_to_list (slice_get rows at)) (rows_at_places rows places) in
    omega (arith, here, rest, both)

pub all_more : (n : ℕ) (places : List ℕ) (at : ℕ) → All (λ i. i < n) places → at < n
    → All (λ i. i < n) (places ++ at ∷ [])
all_more n places at within l =
    All-append (λ i. i < n) places (at ∷ []) within (All-cons (λ i. i < n) at [] l (All-nil (λ i. i < n)))

-- ---- the rows of a block that come to a shard, up to a place

module _ (routing : Routing) (target : Target) where
  pub sends_more : (rows : List Row) (places : List ℕ) (from at : ℕ) (row : Row) → from ≤ at
      → slice_get rows at ≡ Some row → comes_to routing target row ≡ true
      → rows_at_places rows places ≡ rows_to routing target (take (at - from) (drop from rows))
      → rows_at_places rows (places ++ at ∷ [])
      ≡ rows_to routing target (take ((at + 1) - from) (drop from rows))
  sends_more rows places from at row l e comes h =
      let before = take (at - from) (drop from rows) in
      let there : rows_to routing target (row ∷ []) ≡ row ∷ [] = rw comes refl in
      place_more rows places at row e
      ∙ ap (λ z. z ++ row ∷ []) h
      ∙ ap (λ z. rows_to routing target before ++ z) (sym there)
      ∙ sym (filter-append (comes_to routing target) before (row ∷ []))
      ∙ ap (rows_to routing target) (one_more rows before (before ++ row ∷ []) from at row l e refl refl)

  pub passes_over : (rows : List Row) (places : List ℕ) (from at : ℕ) (row : Row) → from ≤ at
      → slice_get rows at ≡ Some row → comes_to routing target row ≡ false
      → rows_at_places rows places ≡ rows_to routing target (take (at - from) (drop from rows))
      → rows_at_places rows places ≡ rows_to routing target (take ((at + 1) - from) (drop from rows))
  passes_over rows places from at row l e comes h =
      let before = take (at - from) (drop from rows) in
      let there : rows_to routing target (row ∷ []) ≡ [] = rw comes refl in
      h ∙ sym (append-nil (rows_to routing target before))
      ∙ ap (λ z. rows_to routing target before ++ z) (sym there)
      ∙ sym (filter-append (comes_to routing target) before (row ∷ []))
      ∙ ap (rows_to routing target) (one_more rows before (before ++ row ∷ []) from at row l e refl refl)

  -- so many rows of a block further on, where these of them come to the shard
  pub passed : (bs : List Table) (at row n : ℕ) (b : Table) (sent : List Row) → slice_get bs at ≡ Some b
      → row + n ≤ length (rows_of b) → sent ≡ rows_to routing target (take n (drop row (rows_of b)))
      → (rows_to routing target (rows_from bs at row)
      ≡ sent ++ rows_to routing target (rows_from bs at (row + n)))
      × (length (rows_from bs at row) ≡ n + length (rows_from bs at (row + n)))
  passed bs at row n b sent here fits is =
      let front = take n (drop row (rows_of b)) in
      let rest = rows_from bs at (row + n) in
      let all = copied bs at row n b front here fits refl in (
        ap (rows_to routing target) all ∙ filter-append (comes_to routing target) front rest
            ∙ ap (λ z. z ++ rows_to routing target rest) (sym is),
        (let many = ap length all in
            let parts = length-append front rest in
            let count = length-take n (drop row (rows_of b)) in
            let left = length-drop row (rows_of b) in
            omega (arith, many, parts, count, left, fits)),
      )

-- what was found, where something was
pub found_some : {A : Type 0} (o : Option A) (none : Type 0) (found : A → Type 0) → MatchOption o none found
    → is_some o ≡ true → (a : A) × found a
found_some None none found h e = absurd (false≢true e)
found_some (Some a) none found h e = (a, h)
