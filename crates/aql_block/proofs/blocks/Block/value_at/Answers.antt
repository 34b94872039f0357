use Rattle.std.proofs.Common.{◌≡◌, ◌∙◌, ◌<◌, ℕ, [], List, length, false, ap, sym, subst, arith}
use Rattle.std.proofs.lemmas.Option.{slice_get-get_or}
use Rattle.std.specs.Prelude.{Some, None, slice_get}
use Rattle.aql_tree.specs.declared.syntax.Ident.TheVariants.{Num}
use Rattle.aql_block.specs.Rows.{Entries, row_of, is_among, IsFirst}
use Rattle.aql_block.specs.Tables.{Table, cells, cells_at}
use Rattle.aql_block.specs.Columns.{ColumnView, values_at}
use Rattle.aql_block.proofs.Beside.{length-rows_in}
use Rattle.aql_block.proofs.Found.{no_cell, first_register}
use Rattle.aql_block.proofs.Tabled.{cells_here, value_there}
use Rattle.aql_block.proofs.blocks.Block.value_at.Goals as goal

pub index-requires : goal.index-requires
index-requires c =
    let b = c.self.inside in
    let first : IsFirst b.registers.items c.args.var c.in-Some.place =
    subst (λ (xs : List ℕ). IsFirst xs c.args.var c.in-Some.place) c.deref.ensures.value c.in-Some.ensures in
    let l = first_register b.registers.items c.args.var c.in-Some.place first in
    omega (arith, l, c.self.invariant.count, b.columns.ok.0)

pub returns-in-None : goal.returns-in-None
returns-in-None c =
    let b = c.self.inside in
    let none : is_among b.registers.items (Num c.args.var) ≡ false =
    ap (λ (xs : List ℕ). is_among xs (Num c.args.var)) (sym c.deref.ensures.value) ∙ c.in-None.ensures in
    subst (λ (t : Table). None ≡ row_of (cells_at t c.args.at) (Num c.args.var)) c.self.view_is
    (sym (no_cell b.registers.items _ c.args.var none))

pub returns-in-Some : goal.returns-in-Some
returns-in-Some c =
    let b = c.self.inside in
    let first : IsFirst b.registers.items c.args.var c.in-Some.place =
    subst (λ (xs : List ℕ). IsFirst xs c.args.var c.in-Some.place) c.deref.ensures.value c.in-Some.ensures in
    let l = first_register b.registers.items c.args.var c.in-Some.place first in
    let here : c.args.at < b.rows =
    subst (λ (n : ℕ). c.args.at < n) (length-rows_in b.rows b.room b.columns.items c.self.invariant.fit)
    (subst (λ (t : Table). c.args.at < length t.values) (sym c.self.view_is) c.requires) in
    let within : c.in-Some.place < length b.columns.items = omega (arith, l, c.self.invariant.count) in
    c.get.ensures
    ∙ sym (value_there b.registers.items b.columns.items b.rows b.room c.args.at c.args.var c.in-Some.place
    c.index.result.now c.self.invariant here first
    (slice_get-get_or b.columns.items c.in-Some.place c.index.result.now within
    ∙ ap (λ (p : ColumnView). Some p) (sym c.index.ensures)))
    ∙ ap (λ (es : Entries). row_of es (Num c.args.var))
    (sym (cells_here b.registers.items b.columns.items b.rows b.room c.args.at c.self.invariant.fit here))
    ∙ ap (λ (t : Table). row_of (cells_at t c.args.at) (Num c.args.var)) c.self.view_is
