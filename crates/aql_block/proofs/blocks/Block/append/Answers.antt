use Rattle.std.proofs.Common.{◌≡◌, ◌∙◌, ◌+◌, ◌<◌, ◌++◌, ◌∷◌, [], ℕ, List, length, true, false, ap, ap₂, sym, subst, arith}
use Rattle.std.specs.List.{AllByRecursion}
use Rattle.aql_block.specs.Rows.{row_of, HasAll, only}
use Rattle.aql_block.specs.Tables.{Table, rows_of}
use Rattle.aql_block.specs.Columns.{ColumnView, HasRoom, rows_in, IsFilled, pushed, moved_values}
use Rattle.aql_block.specs.laws.Registers.{only_taken}
use Rattle.aql_block.proofs.Filled.{all_room, below_room, filled_pushed, length-taken}
use Rattle.aql_block.proofs.Tabled.{rows_by, rows_held, rows_pushed, with_pushed}
use Rattle.aql_block.proofs.blocks.Block.append.Goals as goal

pub push_values-requires-clause-room : goal.push_values-requires-clause-room
push_values-requires-clause-room c =
    let b = c.self.inside in
    let held : length (rows_of c.args.self.now) ≡ b.rows =
    sym (ap (λ (t : Table). length (rows_of t)) c.self.view_is)
    ∙ rows_held b.registers.items b.columns.items b.rows b.room c.self.invariant in
    let l : b.rows < b.room =
    below_room b.rows b.room c.self.invariant.within (λ (e : b.rows ≡ b.room).
    let full : c.is_full.result ≡ true =
    c.is_full.ensures.1 (held ∙ e ∙ ap (λ (t : Table). t.room) c.self.view_is) in
    let both : true ≡ false = sym full ∙ c.if-is_full.false in absurd (cc)) in
    subst (λ (cs : List ColumnView). AllByRecursion HasRoom cs) (sym c.deref_mut.ensures.value)
    (all_room b.rows b.room b.columns.items c.self.invariant.fit l)

pub overflow_add-self : goal.overflow_add-self
overflow_add-self c =
    let b = c.self.inside in
    let held : length (rows_of c.args.self.now) ≡ b.rows =
    sym (ap (λ (t : Table). length (rows_of t)) c.self.view_is)
    ∙ rows_held b.registers.items b.columns.items b.rows b.room c.self.invariant in
    let l : b.rows < b.room =
    below_room b.rows b.room c.self.invariant.within (λ (e : b.rows ≡ b.room).
    let full : c.is_full.result ≡ true =
    c.is_full.ensures.1 (held ∙ e ∙ ap (λ (t : Table). t.room) c.self.view_is) in
    let both : true ≡ false = sym full ∙ c.if-is_full.false in absurd (cc)) in
    omega (arith, l)

pub invariant_of-self : goal.invariant_of-self
invariant_of-self c =
    let b = c.self.inside in
    let held : length (rows_of c.args.self.now) ≡ b.rows =
    sym (ap (λ (t : Table). length (rows_of t)) c.self.view_is)
    ∙ rows_held b.registers.items b.columns.items b.rows b.room c.self.invariant in
    let l : b.rows < b.room =
    below_room b.rows b.room c.self.invariant.within (λ (e : b.rows ≡ b.room).
    let full : c.is_full.result ≡ true =
    c.is_full.ensures.1 (held ∙ e ∙ ap (λ (t : Table). t.room) c.self.view_is) in
    let both : true ≡ false = sym full ∙ c.if-is_full.false in absurd (cc)) in
    let w = with_pushed b.columns c.push_values.new.columns
    (moved_values b.registers.items (row_of c.args.row))
    (c.push_values.ensures
    ∙ ap₂ (λ (cs : List ColumnView) (xs : List ℕ). pushed cs (moved_values xs (row_of c.args.row)))
    c.deref_mut.ensures.value c.deref.ensures.value)
    b.columns.ok.0 in
    subst (λ (cs : List ColumnView). IsFilled b.registers.items cs (b.rows + 1) b.room) (sym w)
    (filled_pushed b.registers.items b.columns.items b.rows b.room
    (moved_values b.registers.items (row_of c.args.row)) c.self.invariant
    (length-taken b.registers.items (row_of c.args.row)) l)

pub returns-clause-ok : goal.returns-clause-ok
returns-clause-ok c =
    let b = c.self.inside in
    let w = with_pushed b.columns c.push_values.new.columns
    (moved_values b.registers.items (row_of c.args.row))
    (c.push_values.ensures
    ∙ ap₂ (λ (cs : List ColumnView) (xs : List ℕ). pushed cs (moved_values xs (row_of c.args.row)))
    c.deref_mut.ensures.value c.deref.ensures.value)
    b.columns.ok.0 in
    ap (λ (cs : List ColumnView). rows_by b.registers.items (rows_in (b.rows + 1) cs)) w
    ∙ rows_pushed b.registers.items b.columns.items b.rows b.room
    (moved_values b.registers.items (row_of c.args.row)) (only b.registers.items (row_of c.args.row))
    c.self.invariant (length-taken b.registers.items (row_of c.args.row))
    (only_taken b.registers.items (row_of c.args.row)
    (subst (λ (t : Table). HasAll t.registers (row_of c.args.row)) (sym c.self.view_is) c.requires))
    ∙ ap (λ (t : Table). rows_of t ++ only t.registers (row_of c.args.row) ∷ []) c.self.view_is
