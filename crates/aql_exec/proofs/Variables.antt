-- The values of a variable in the rows of a block, and null where a row has none.
use Rattle.std.proofs.Common.{◌≡◌, ◌∙◌, ℕ, List, [], ◌∷◌, length, map, false, cond, Some, None, refl, ap, ap₂, sym}
use Rattle.std.specs.Prelude.{replicate, unwrap_or}
use Rattle.aql_value.specs.Datum.{Datum, null}
use Rattle.aql_tree.specs.declared.syntax.Ident.TheVariants.{Num}
use Rattle.aql_meaning.specs.Row.{Row, value_at}
use Rattle.aql_block.specs.Rows.{row_of, is_among}
use Rattle.aql_block.specs.Tables.{Table, cells, rows_of}
use Rattle.aql_block.specs.laws.Registers.{only_cells}

pub values_found : (x : ℕ) (rows : List Row) (vs : List Datum) → map (λ row. row (Num x)) rows ≡ map Some vs
    → vs ≡ map (λ row. value_at row (Num x)) rows
values_found x [] [] e = refl
values_found x [] (v ∷ vs) e = absurd (cc)
values_found x (row ∷ rows) [] e = absurd (cc)
values_found x (row ∷ rows) (v ∷ vs) e =
    let here : row (Num x) ≡ Some v = cc in
    let others : map (λ (row : Row). row (Num x)) rows ≡ map Some vs = cc in
    ap₂ (λ t ts. t ∷ ts) (sym (ap (λ o. unwrap_or o null) here)) (values_found x rows vs others)

missing : (x : ℕ) (xs : List ℕ) (vs : List Datum) → is_among xs (Num x) ≡ false
    → value_at (row_of (cells xs vs)) (Num x) ≡ null
missing x xs vs e =
    ap (λ (row : Row). unwrap_or (row (Num x)) null) (sym (only_cells xs vs))
    ∙ ap (λ b. unwrap_or (cond b (row_of (cells xs vs) (Num x)) None) null) e

nulls : (x : ℕ) (xs : List ℕ) (rows : List (List Datum)) → is_among xs (Num x) ≡ false
    → map (λ row. value_at row (Num x)) (map (λ vs. row_of (cells xs vs)) rows)
    ≡ replicate (length (map (λ vs. row_of (cells xs vs)) rows)) null
nulls x xs [] e = refl
nulls x xs (vs ∷ rows) e = ap₂ (λ t ts. t ∷ ts) (missing x xs vs e) (nulls x xs rows e)

pub values_missing : (x : ℕ) (t : Table) (n : ℕ) → n ≡ length (rows_of t) → is_among t.registers (Num x) ≡ false
    → replicate n null ≡ map (λ row. value_at row (Num x)) (rows_of t)
values_missing x t n l e = ap (λ k. replicate k null) l ∙ sym (nulls x t.registers t.values e)
