use Rattle.std.proofs.Common.{◌≡◌, ◌∙◌, ℕ, List, length, map, ap, ap₂, sym, subst, arith}
use Rattle.std.specs.List.{AllByRecursion}
use Rattle.aql_block.specs.Tables.{Table, rows_of, marked}
use Rattle.aql_block.specs.Columns.{ColumnView, rows_in, IsFilled, marked_of}
use Rattle.aql_block.proofs.Filled.{each, filled_marked}
use Rattle.aql_block.proofs.Tabled.{rows_by, rows_held, rows_marked, with_mapped}
use Rattle.aql_block.proofs.blocks.Block.retain.Goals as goal

pub retain_all-requires : goal.retain_all-requires
retain_all-requires c =
    let b = c.self.inside in
    let e : length c.args.marks.now ≡ b.rows =
    c.requires ∙ sym (ap (λ (t : Table). length (rows_of t)) c.self.view_is)
    ∙ rows_held b.registers.items b.columns.items b.rows b.room c.self.invariant in
    subst (λ (cs : List ColumnView). AllByRecursion
    (λ (p : ColumnView). length p.held ≡ length c.args.marks.now) cs)
    (sym c.deref_mut.ensures.value)
    (each (λ (p : ColumnView) f. f.0 ∙ sym e) b.columns.items c.self.invariant.fit)

pub count_of-self-inside-requires : goal.count_of-self-inside-requires
count_of-self-inside-requires c =
    let b = c.self.inside in
    let e : length c.args.marks.now ≡ b.rows =
    c.requires ∙ sym (ap (λ (t : Table). length (rows_of t)) c.self.view_is)
    ∙ rows_held b.registers.items b.columns.items b.rows b.room c.self.invariant in
    omega (arith, e)

pub invariant_of-self : goal.invariant_of-self
invariant_of-self c =
    let b = c.self.inside in
    let e : length c.args.marks.now ≡ b.rows =
    c.requires ∙ sym (ap (λ (t : Table). length (rows_of t)) c.self.view_is)
    ∙ rows_held b.registers.items b.columns.items b.rows b.room c.self.invariant in
    let w = with_mapped (marked_of c.args.marks.now) b.columns c.retain_all.new.columns
    (c.retain_all.ensures
    ∙ ap (λ (cs : List ColumnView). map (marked_of c.args.marks.now) cs) c.deref_mut.ensures.value)
    b.columns.ok.0 in
    subst (λ (cs : List ColumnView). IsFilled b.registers.items cs c.count_of-self-inside.result b.room)
    (sym w)
    (subst (λ (n : ℕ). IsFilled b.registers.items (map (marked_of c.args.marks.now) b.columns.items) n b.room)
    (sym c.count_of-self-inside.ensures)
    (filled_marked b.registers.items b.columns.items b.rows b.room c.args.marks.now c.self.invariant e))

pub returns-clause-rows : goal.returns-clause-rows
returns-clause-rows c =
    let b = c.self.inside in
    let e : length c.args.marks.now ≡ b.rows =
    c.requires ∙ sym (ap (λ (t : Table). length (rows_of t)) c.self.view_is)
    ∙ rows_held b.registers.items b.columns.items b.rows b.room c.self.invariant in
    let w = with_mapped (marked_of c.args.marks.now) b.columns c.retain_all.new.columns
    (c.retain_all.ensures
    ∙ ap (λ (cs : List ColumnView). map (marked_of c.args.marks.now) cs) c.deref_mut.ensures.value)
    b.columns.ok.0 in
    ap₂ (λ (n : ℕ) (cs : List ColumnView). rows_by b.registers.items (rows_in n cs))
    c.count_of-self-inside.ensures w
    ∙ rows_marked b.registers.items b.columns.items b.rows b.room c.args.marks.now c.self.invariant e
    ∙ ap (λ (t : Table). marked (rows_of t) c.args.marks.now) c.self.view_is
