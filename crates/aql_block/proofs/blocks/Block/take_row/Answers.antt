use Rattle.std.proofs.Common.{◌≡◌, ◌∙◌, ◌<◌, [], ℕ, List, length, map, ap, ap₂, sym, subst}
use Rattle.std.specs.Prelude.{Some, slice_get, slice_set}
use Rattle.std.specs.List.{AllByRecursion}
use Rattle.aql_block.specs.Rows.{Entries, row_of}
use Rattle.aql_block.specs.Tables.{Table, cells, rows_of}
use Rattle.aql_block.specs.Columns.{ColumnView, rows_in, IsFilled, values_at, without}
use Rattle.aql_block.proofs.Filled.{all_place, filled_without}
use Rattle.aql_block.proofs.Tabled.{rows_by, rows_held, rows_without, row_at, with_mapped}
use Rattle.aql_block.proofs.blocks.Block.take_row.Goals as goal

pub take_values-requires-clause-place : goal.take_values-requires-clause-place
take_values-requires-clause-place c =
    let b = c.self.inside in
    let held : length (rows_of c.args.self.now) ≡ b.rows =
    sym (ap (λ (t : Table). length (rows_of t)) c.self.view_is)
    ∙ rows_held b.registers.items b.columns.items b.rows b.room c.self.invariant in
    let l : c.args.at < b.rows = subst (λ (n : ℕ). c.args.at < n) held c.requires in
    subst (λ (cs : List ColumnView). AllByRecursion (λ (p : ColumnView). c.args.at < length p.held) cs)
    (sym c.deref_mut.ensures.value)
    (all_place b.rows b.room c.args.at b.columns.items c.self.invariant.fit l)

pub invariant_of-self : goal.invariant_of-self
invariant_of-self c =
    let b = c.self.inside in
    let w = with_mapped (without c.args.at) b.columns c.take_values.new.columns
    (c.take_values.ensures.rest
    ∙ ap (λ (cs : List ColumnView). map (without c.args.at) cs) c.deref_mut.ensures.value) b.columns.ok.0 in
    subst (λ (cs : List ColumnView). IsFilled b.registers.items cs b.rows b.room) (sym w)
    (filled_without b.registers.items b.columns.items b.rows b.room c.args.at c.self.invariant)

pub returns-clause-row : goal.returns-clause-row
returns-clause-row c =
    let b = c.self.inside in
    let held : length (rows_of c.args.self.now) ≡ b.rows =
    sym (ap (λ (t : Table). length (rows_of t)) c.self.view_is)
    ∙ rows_held b.registers.items b.columns.items b.rows b.room c.self.invariant in
    let l : c.args.at < b.rows = subst (λ (n : ℕ). c.args.at < n) held c.requires in
    ap (λ (t : Table). slice_get (rows_of t) c.args.at) (sym c.self.view_is)
    ∙ row_at b.registers.items b.columns.items b.rows b.room c.args.at c.self.invariant l
    ∙ ap₂ (λ (xs : List ℕ) (cs : List ColumnView). Some (row_of (cells xs (values_at cs c.args.at))))
    (sym c.deref.ensures.value) (sym c.deref_mut.ensures.value)
    ∙ ap (λ (es : Entries). Some (row_of es)) (sym c.take_values.ensures.row)

pub returns-clause-rest : goal.returns-clause-rest
returns-clause-rest c =
    let b = c.self.inside in
    let w = with_mapped (without c.args.at) b.columns c.take_values.new.columns
    (c.take_values.ensures.rest
    ∙ ap (λ (cs : List ColumnView). map (without c.args.at) cs) c.deref_mut.ensures.value) b.columns.ok.0 in
    ap (λ (cs : List ColumnView). rows_by b.registers.items (rows_in b.rows cs)) w
    ∙ rows_without b.registers.items b.columns.items b.rows c.args.at
    ∙ ap (λ (t : Table). slice_set (rows_of t) c.args.at (row_of (cells t.registers []))) c.self.view_is
