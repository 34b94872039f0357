use Rattle.std.proofs.Common.{◌≡◌, ◌∙◌, ℕ, [], ◌∷◌, List, map, ap, ap₂, sym, subst}
use Rattle.aql_value.specs.Datum.{Datum}
use Rattle.aql_block.specs.Rows.{Entries, row_of}
use Rattle.aql_block.specs.Columns.{ColumnView, rows_in, IsFilled}
use Rattle.aql_block.proofs.Filled.{filled_single}
use Rattle.aql_block.proofs.Tabled.{rows_by, single_row, rows_single}
use Rattle.aql_block.proofs.blocks.Block.from_row.Goals as goal

pub invariant_of-result : goal.invariant_of-result
invariant_of-result c =
    subst (λ (xs : List ℕ). IsFilled xs c.in_ok-registers.columns.items 1 1)
    (sym c.in_ok-registers.ensures.registers)
    (subst (λ (cs : List ColumnView). IsFilled (map (λ (e : ℕ × Datum). e.0) c.args.row) cs 1 1)
    (sym c.in_ok-registers.ensures.columns) (filled_single c.args.row))

pub returns-clause-rows : goal.returns-clause-rows
returns-clause-rows c =
    ap₂ (λ (xs : List ℕ) (cs : List ColumnView). rows_by xs (rows_in 1 cs))
    c.in_ok-registers.ensures.registers
    c.in_ok-registers.ensures.columns
    ∙ ap (λ rows. rows_by (map (λ (e : ℕ × Datum). e.0) c.args.row) rows) (single_row c.args.row)
    ∙ ap (λ (es : Entries). row_of es ∷ []) (rows_single c.args.row)
