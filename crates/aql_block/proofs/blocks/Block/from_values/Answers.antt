use Rattle.std.proofs.Common.{◌≡◌, ◌∙◌, ℕ, [], ◌∷◌, List, length, ap, ap₂, arith}
use Rattle.std.proofs.lemmas.List.{length-map}
use Rattle.aql_value.specs.View.{datum_of, datums_in}
use Rattle.aql_block.specs.Columns.{ColumnView, blanks, beside, rows_in}
use Rattle.aql_block.proofs.Tabled.{rows_by, rows_of_values}
use Rattle.aql_block.proofs.blocks.Block.from_values.Goals as goal

pub returns-clause-rows : goal.returns-clause-rows
returns-clause-rows c =
    let v = c.args.values in
    let ds = datums_in v.items in
    let held : c.len-rows.result ≡ length ds =
    omega (arith, c.len-rows.ensures, v.ok.0, length-map v.items datum_of) in
    ap₂ (λ (xs : List ℕ) (cs : List ColumnView). rows_by xs (rows_in c.len-rows.result cs))
    c.in_ok-registers.ensures.items
    (c.in_ok-columns.ensures.items ∙ ap (λ (p : ColumnView). p ∷ []) c.from_values.ensures)
    ∙ ap (λ k. rows_by (c.args.var ∷ []) (beside ds (blanks k))) held
    ∙ rows_of_values c.args.var ds
