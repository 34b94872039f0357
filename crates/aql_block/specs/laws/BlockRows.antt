-- The rows of a block have its registers and no other variables, and none that goes by a name.
use Rattle.std.proofs.Common.{◌≡◌, ◌∙◌, ℕ, zero, suc, List, [], ◌∷◌, refl, ap, sym, subst}
use Rattle.std.specs.Prelude.{Option, Some, None, is_some, slice_get, map}
use Rattle.aql_value.specs.Datum.{Datum}
use Rattle.aql_tree.specs.declared.syntax.Ident.TheVariants.{Name, Num}
use Rattle.aql_meaning.specs.Row.{Row, bind}
use Rattle.aql_block.specs.Rows.{Entries, row_of, HasAll, only}
use Rattle.aql_block.specs.Tables.{Table, cells, rows_of}
use Rattle.aql_block.specs.laws.Registers.{bind_self, has_all_bind, has_all_cells, only_bind, only_cells}

-- a row of a block is the row of some cells
each_row : (xs : List ℕ) (rows : List (List Datum)) (at : ℕ) (r : Row)
    → slice_get (map (λ vs. row_of (cells xs vs)) rows) at ≡ Some r
    → (vs : List Datum) × (row_of (cells xs vs) ≡ r)
each_row xs [] at r none_there = absurd (cc)
each_row xs (vs ∷ rows) zero r e = (vs, (cc))
each_row xs (vs ∷ rows) (suc at) r e = each_row xs rows at r e

-- it has each register
pub row_has_all : (t : Table) (at : ℕ) (r : Row) → slice_get (rows_of t) at ≡ Some r → HasAll t.registers r
row_has_all t at r e =
    let k = each_row t.registers t.values at r e in
    subst (λ (s : Row). HasAll t.registers s) k.1 (has_all_cells t.registers k.0)

-- and no other variable
pub row_only : (t : Table) (at : ℕ) (r : Row) → slice_get (rows_of t) at ≡ Some r → only t.registers r ≡ r
row_only t at r e =
    let k = each_row t.registers t.values at r e in
    ap (λ (s : Row). only t.registers s) (sym k.1) ∙ only_cells t.registers k.0 ∙ k.1

-- the same of a row with one more variable, in a block with one more register
pub extended_has_all : (t : Table) (at : ℕ) (r : Row) (x : ℕ) (v : Datum)
    → slice_get (rows_of t) at ≡ Some r → HasAll (x ∷ t.registers) (bind (Num x) r v)
extended_has_all t at r x v e =
    (ap (λ o. is_some o) (bind_self x r v), has_all_bind t.registers x r v (row_has_all t at r e))

pub extended_only : (t : Table) (at : ℕ) (r : Row) (x : ℕ) (v : Datum)
    → slice_get (rows_of t) at ≡ Some r → only (x ∷ t.registers) (bind (Num x) r v) ≡ bind (Num x) r v
extended_only t at r x v e =
    only_bind x t.registers r v ∙ ap (λ (s : Row). bind (Num x) s v) (row_only t at r e)

-- no variable of a row goes by a name
pub no_names : (es : Entries) (name : List ℕ) → row_of es (Name name) ≡ None
no_names [] name = refl
no_names (e ∷ es) name = no_names es name
