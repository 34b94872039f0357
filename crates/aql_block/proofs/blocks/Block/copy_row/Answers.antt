use Rattle.std.proofs.Common.{◌≡◌, ◌∙◌, ◌<◌, ℕ, [], List, length, ap, ap₂, sym, subst}
use Rattle.std.specs.List.{AllByRecursion}
use Rattle.aql_block.specs.Tables.{Table, cells, cells_at}
use Rattle.aql_block.specs.Columns.{ColumnView, values_at}
use Rattle.aql_block.proofs.Beside.{length-rows_in}
use Rattle.aql_block.proofs.Filled.{all_place}
use Rattle.aql_block.proofs.Tabled.{cells_here}
use Rattle.aql_block.proofs.blocks.Block.copy_row.Goals as goal

pub copy_values-requires-clause-place : goal.copy_values-requires-clause-place
copy_values-requires-clause-place c =
    let b = c.self.inside in
    let l : c.args.at < b.rows =
    subst (λ (n : ℕ). c.args.at < n) (length-rows_in b.rows b.room b.columns.items c.self.invariant.fit)
    (subst (λ (t : Table). c.args.at < length t.values) (sym c.self.view_is) c.requires) in
    subst (λ (cs : List ColumnView). AllByRecursion (λ (p : ColumnView). c.args.at < length p.held) cs)
    (sym c.deref-2.ensures.value)
    (all_place b.rows b.room c.args.at b.columns.items c.self.invariant.fit l)

pub returns : goal.returns
returns c =
    let b = c.self.inside in
    let l : c.args.at < b.rows =
    subst (λ (n : ℕ). c.args.at < n) (length-rows_in b.rows b.room b.columns.items c.self.invariant.fit)
    (subst (λ (t : Table). c.args.at < length t.values) (sym c.self.view_is) c.requires) in
    let same : cells c.deref.result.now (values_at c.deref-2.result.now c.args.at)
    ≡ cells_at c.args.self.now c.args.at =
    ap₂ (λ (xs : List ℕ) (cs : List ColumnView). cells xs (values_at cs c.args.at)) c.deref.ensures.value
    c.deref-2.ensures.value
    ∙ sym (cells_here b.registers.items b.columns.items b.rows b.room c.args.at c.self.invariant.fit l)
    ∙ ap (λ (t : Table). cells_at t c.args.at) c.self.view_is in
    rw (← same) c.copy_values.ensures
