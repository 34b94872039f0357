use Rattle.std.proofs.Common.{◌≡◌, ◌∙◌, ℕ, List, take, map, ap, ap₂, sym, subst}
use Rattle.aql_block.specs.Tables.{Table, rows_of}
use Rattle.aql_block.specs.Columns.{ColumnView, rows_in, IsFilled, first_of}
use Rattle.aql_block.proofs.Filled.{filled_first}
use Rattle.aql_block.proofs.Tabled.{rows_by, rows_first, with_mapped}
use Rattle.aql_block.proofs.blocks.Block.truncate.Goals as goal

pub invariant_of-self : goal.invariant_of-self
invariant_of-self c =
    let b = c.self.inside in
    let w = with_mapped (first_of c.args.len) b.columns c.truncate_all.new.columns
    (c.truncate_all.ensures
    ∙ ap (λ (cs : List ColumnView). map (first_of c.args.len) cs) c.deref_mut.ensures.value)
    b.columns.ok.0 in
    subst (λ (cs : List ColumnView). IsFilled b.registers.items cs c.min-self-inside.result b.room) (sym w)
    (subst (λ (n : ℕ). IsFilled b.registers.items (map (first_of c.args.len) b.columns.items) n b.room)
    (sym c.min-self-inside.ensures)
    (filled_first b.registers.items b.columns.items b.rows b.room c.args.len c.self.invariant))

pub returns-clause-rows : goal.returns-clause-rows
returns-clause-rows c =
    let b = c.self.inside in
    let w = with_mapped (first_of c.args.len) b.columns c.truncate_all.new.columns
    (c.truncate_all.ensures
    ∙ ap (λ (cs : List ColumnView). map (first_of c.args.len) cs) c.deref_mut.ensures.value)
    b.columns.ok.0 in
    ap₂ (λ (n : ℕ) (cs : List ColumnView). rows_by b.registers.items (rows_in n cs)) c.min-self-inside.ensures
    w
    ∙ rows_first b.registers.items b.columns.items b.rows c.args.len
    ∙ ap (λ (t : Table). take c.args.len (rows_of t)) c.self.view_is
