use Rattle.std.proofs.Common.{◌≡◌, ◌∙◌, ◌+◌, ◌<◌, ◌++◌, ◌∷◌, [], ℕ, List, length, map, ap, ap₂, sym, subst, arith}
use Rattle.std.specs.List.{AllByRecursion}
use Rattle.aql_value.specs.View.{datum_of}
use Rattle.aql_tree.specs.declared.syntax.Ident.TheVariants.{Num}
use Rattle.aql_meaning.specs.Row.{bind}
use Rattle.aql_block.specs.Rows.{row_of, HasAll, only}
use Rattle.aql_block.specs.Tables.{Table, rows_of}
use Rattle.aql_block.specs.Columns.{ColumnView, HasRoom, rows_in, IsFilled, pushed, copied_values, first_of}
use Rattle.aql_block.specs.laws.Registers.{only_copied}
use Rattle.aql_block.proofs.Filled.{all_room, all_held, filled_pushed, length-copied}
use Rattle.aql_block.proofs.Tabled.{rows_by, rows_pushed, room_left, table_of, with_pushed, with_cut}
use Rattle.aql_block.proofs.blocks.Block.append_with.Goals as goal

pub push_copies-requires-clause-room : goal.push_copies-requires-clause-room
push_copies-requires-clause-room c =
    let b = c.self.inside in
    let l = room_left c.args.self.now b.registers.items b.columns.items b.rows b.room c.self.invariant
    c.self.view_is c.requires.room in
    subst (λ (cs : List ColumnView). AllByRecursion HasRoom cs) (sym c.deref_mut.ensures.value)
    (all_room b.rows b.room b.columns.items c.self.invariant.fit l)

pub overflow_add-self : goal.overflow_add-self
overflow_add-self c =
    let b = c.self.inside in
    let l : b.rows < b.room =
    room_left c.args.self.now b.registers.items b.columns.items b.rows b.room c.self.invariant
    c.self.view_is c.requires.room in
    omega (arith, l)

pub invariant_of-self : goal.invariant_of-self
invariant_of-self c =
    let b = c.self.inside in
    let xs = b.registers.items in
    let x = c.args.var in
    let row = row_of c.args.row.now in
    let v = datum_of c.args.value in
    let l = room_left c.args.self.now xs b.columns.items b.rows b.room c.self.invariant
    c.self.view_is c.requires.room in
    let w = with_pushed b.columns c.push_copies.new.columns (copied_values xs x row v)
    (c.in-Ok.ensures.ok
    ∙ ap₂ (λ (cs : List ColumnView) (ys : List ℕ). pushed cs (copied_values ys x row v))
    c.deref_mut.ensures.value c.deref.ensures.value)
    b.columns.ok.0 in
    subst (λ (cs : List ColumnView). IsFilled xs cs (b.rows + 1) b.room) (sym w)
    (filled_pushed xs b.columns.items b.rows b.room (copied_values xs x row v) c.self.invariant
    (length-copied xs x row v) l)

pub returns-in-Ok-clause-ok : goal.returns-in-Ok-clause-ok
returns-in-Ok-clause-ok c =
    let b = c.self.inside in
    let xs = b.registers.items in
    let x = c.args.var in
    let row = row_of c.args.row.now in
    let v = datum_of c.args.value in
    let longer = bind (Num x) row v in
    let w = with_pushed b.columns c.push_copies.new.columns (copied_values xs x row v)
    (c.in-Ok.ensures.ok
    ∙ ap₂ (λ (cs : List ColumnView) (ys : List ℕ). pushed cs (copied_values ys x row v))
    c.deref_mut.ensures.value c.deref.ensures.value)
    b.columns.ok.0 in
    ap (λ (cs : List ColumnView). rows_by xs (rows_in (b.rows + 1) cs)) w
    ∙ rows_pushed xs b.columns.items b.rows b.room (copied_values xs x row v) (only xs longer)
    c.self.invariant (length-copied xs x row v)
    (only_copied xs x row v
    (subst (λ (t : Table). HasAll t.registers longer) (sym c.self.view_is) c.requires.all))
    ∙ ap (λ (t : Table). rows_of t ++ only t.registers longer ∷ []) c.self.view_is

pub invariant_of-self-in-Err : goal.invariant_of-self-in-Err
invariant_of-self-in-Err c =
    let b = c.self.inside in
    let back : map (first_of b.rows) c.push_copies.new.columns ≡ b.columns.items =
    c.in-Err.ensures.err b.rows
    (subst (λ (cs : List ColumnView). AllByRecursion (λ (p : ColumnView). length p.held ≡ b.rows) cs)
    (sym c.deref_mut.ensures.value) (all_held b.rows b.room b.columns.items c.self.invariant.fit))
    ∙ c.deref_mut.ensures.value in
    let w = with_cut b.columns c.push_copies.new.columns c.deref_mut-in-Err.result.now
    c.truncate_all.new.columns b.rows back c.deref_mut-in-Err.ensures.value c.truncate_all.ensures
    b.columns.ok.0 in
    subst (λ (cs : List ColumnView). IsFilled b.registers.items cs b.rows b.room) (sym w) c.self.invariant

pub returns-in-Err-clause-err : goal.returns-in-Err-clause-err
returns-in-Err-clause-err c =
    let b = c.self.inside in
    let back : map (first_of b.rows) c.push_copies.new.columns ≡ b.columns.items =
    c.in-Err.ensures.err b.rows
    (subst (λ (cs : List ColumnView). AllByRecursion (λ (p : ColumnView). length p.held ≡ b.rows) cs)
    (sym c.deref_mut.ensures.value) (all_held b.rows b.room b.columns.items c.self.invariant.fit))
    ∙ c.deref_mut.ensures.value in
    let w = with_cut b.columns c.push_copies.new.columns c.deref_mut-in-Err.result.now
    c.truncate_all.new.columns b.rows back c.deref_mut-in-Err.ensures.value c.truncate_all.ensures
    b.columns.ok.0 in
    ap (λ (cs : List ColumnView). table_of b.registers.items b.room (rows_in b.rows cs)) w ∙ c.self.view_is
