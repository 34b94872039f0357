use Rattle.std.proofs.Common.{◌≡◌, ◌∙◌, ◌≤◌, ℕ, List, ◌∷◌, length, ap, ap₂, sym, subst, arith}
use Rattle.std.proofs.lemmas.List.{length-map}
use Rattle.aql_value.specs.View.{datum_of, datums_in}
use Rattle.aql_tree.specs.declared.syntax.Ident.TheVariants.{Num}
use Rattle.aql_meaning.specs.Clauses.{with_values}
use Rattle.aql_block.specs.Tables.{Table, rows_of}
use Rattle.aql_block.specs.Columns.{ColumnView, rows_in, IsFilled}
use Rattle.aql_block.proofs.Beside.{length-rows_in}
use Rattle.aql_block.proofs.Filled.{filled_set}
use Rattle.aql_block.proofs.Tabled.{rows_by, rows_held, rows_set}
use Rattle.aql_block.proofs.Cut.{column_of}
use Rattle.aql_block.proofs.blocks.Block.set.Goals as goal

pub invariant_of-self-2 : goal.invariant_of-self-2
invariant_of-self-2 c =
    let b = c.self.inside in
    let ds = datums_in c.args.values.items in
    let more = length c.args.values.items in
    let registers : c.insert-2.new.self.items ≡ c.args.var ∷ b.registers.items =
    c.in_ok-insert-2.ensures.items ∙ ap (λ (xs : List ℕ). c.args.var ∷ xs) c.in_ok-reserve.ensures.items in
    let columns : c.insert.new.self.items ≡ column_of more ds ∷ b.columns.items =
    c.in_ok-insert.ensures.items ∙ ap (λ (p : ColumnView). p ∷ b.columns.items) c.from_values.ensures in
    let held : length (rows_of c.args.self.now) ≡ b.rows =
    sym (ap (λ (t : Table). length (rows_of t)) c.self.view_is)
    ∙ rows_held b.registers.items b.columns.items b.rows b.room c.self.invariant in
    let all : length ds ≡ b.rows = length-map c.args.values.items datum_of ∙ c.requires ∙ held in
    let le : b.rows ≤ more = omega (arith, c.requires, held) in
    subst (λ (xs : List ℕ). IsFilled xs c.insert.new.self.items b.rows b.rows) (sym registers)
    (subst (λ (cs : List ColumnView). IsFilled (c.args.var ∷ b.registers.items) cs b.rows b.rows)
    (sym columns)
    (filled_set b.registers.items b.columns.items b.rows b.room c.args.var more ds c.self.invariant all le))

pub returns-clause-ok : goal.returns-clause-ok
returns-clause-ok c =
    let b = c.self.inside in
    let ds = datums_in c.args.values.items in
    let more = length c.args.values.items in
    let registers : c.insert-2.new.self.items ≡ c.args.var ∷ b.registers.items =
    c.in_ok-insert-2.ensures.items ∙ ap (λ (xs : List ℕ). c.args.var ∷ xs) c.in_ok-reserve.ensures.items in
    let columns : c.insert.new.self.items ≡ column_of more ds ∷ b.columns.items =
    c.in_ok-insert.ensures.items ∙ ap (λ (p : ColumnView). p ∷ b.columns.items) c.from_values.ensures in
    let held : length (rows_of c.args.self.now) ≡ b.rows =
    sym (ap (λ (t : Table). length (rows_of t)) c.self.view_is)
    ∙ rows_held b.registers.items b.columns.items b.rows b.room c.self.invariant in
    let all : length ds ≡ b.rows = length-map c.args.values.items datum_of ∙ c.requires ∙ held in
    ap₂ (λ (xs : List ℕ) (cs : List ColumnView). rows_by xs (rows_in b.rows cs)) registers columns
    ∙ rows_set b.registers.items c.args.var ds (rows_in b.rows b.columns.items)
    (all ∙ sym (length-rows_in b.rows b.room b.columns.items c.self.invariant.fit))
    ∙ ap (λ (t : Table). with_values (Num c.args.var) (rows_of t) ds) c.self.view_is

pub returns-clause-room : goal.returns-clause-room
returns-clause-room c =
    let b = c.self.inside in
    sym (rows_held b.registers.items b.columns.items b.rows b.room c.self.invariant)
    ∙ ap (λ (t : Table). length (rows_of t)) c.self.view_is
