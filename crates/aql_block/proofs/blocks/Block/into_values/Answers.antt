use Rattle.std.proofs.Common.{◌≡◌, ◌∙◌, ◌<◌, ℕ, List, length, map, Bool, true, false, ap, sym, subst, arith}
use Rattle.std.specs.Prelude.{Some}
use Rattle.aql_value.specs.Datum.{Datum}
use Rattle.aql_tree.specs.declared.syntax.Ident.TheVariants.{Num}
use Rattle.aql_meaning.specs.Row.{Row}
use Rattle.aql_block.specs.Rows.{is_among, IsFirst}
use Rattle.aql_block.specs.Tables.{Table, rows_of}
use Rattle.aql_block.specs.Columns.{ColumnView, rows_in}
use Rattle.aql_block.proofs.Found.{among, first_register, column_values}
use Rattle.aql_block.proofs.Tabled.{looked_up}
use Rattle.aql_block.proofs.blocks.Block.into_values.Goals as goal

pub swap_remove-requires : goal.swap_remove-requires
swap_remove-requires c =
    let b = c.self.inside in
    let first : IsFirst b.registers.items c.args.var c.in_ok-at.at =
    subst (λ (xs : List ℕ). IsFirst xs c.args.var c.in_ok-at.at) c.deref.ensures.value c.in_ok-at.ensures in
    let l = first_register b.registers.items c.args.var c.in_ok-at.at first in
    omega (arith, l, c.self.invariant.count, b.columns.ok.0)

pub returns-clause-found : goal.returns-clause-found
returns-clause-found c =
    let b = c.self.inside in
    let first : IsFirst b.registers.items c.args.var c.in_ok-at.at =
    subst (λ (xs : List ℕ). IsFirst xs c.args.var c.in_ok-at.at) c.deref.ensures.value c.in_ok-at.ensures in
    let there : true ≡ is_among c.args.self.registers (Num c.args.var) =
    sym (among b.registers.items c.args.var c.in_ok-at.at first)
    ∙ ap (λ (t : Table). is_among t.registers (Num c.args.var)) c.self.view_is in
    (λ h. absurd (cc), λ h. there ∙ h)

pub returns-clause-values : goal.returns-clause-values
returns-clause-values c =
    let b = c.self.inside in
    let first : IsFirst b.registers.items c.args.var c.in_ok-at.at =
    subst (λ (xs : List ℕ). IsFirst xs c.args.var c.in_ok-at.at) c.deref.ensures.value c.in_ok-at.ensures in
    ap (λ (t : Table). map (λ (row : Row). row (Num c.args.var)) (rows_of t)) (sym c.self.view_is)
    ∙ looked_up b.registers.items (rows_in b.rows b.columns.items) c.args.var
    ∙ column_values b.registers.items b.columns.items b.rows b.room c.args.var c.in_ok-at.at
    c.swap_remove.result first c.self.invariant.fit c.self.invariant.count
    ∙ ap (λ (p : ColumnView). map (λ (v : Datum). Some v) p.held) (sym c.swap_remove.ensures.value)
    ∙ ap (λ (ds : List Datum). map (λ (v : Datum). Some v) ds) (sym c.into_values.ensures)
