use Rattle.std.proofs.Common.{◌≡◌, ◌∙◌, ◌-◌, ℕ, List, length, take, drop, min, map, ap, ap₂, sym, subst, arith}
use Rattle.std.proofs.lemmas.List.{take_min, drop_min}
use Rattle.std.specs.Vec.{with_items}
use Rattle.aql_block.specs.Tables.{Table, rows_of}
use Rattle.aql_block.specs.Columns.{ColumnView, rows_in, IsFilled, first_of, rest_of}
use Rattle.aql_block.proofs.Filled.{filled_first, filled_rest}
use Rattle.aql_block.proofs.Tabled.{rows_by, rows_held, rows_first, rows_rest, with_mapped}
use Rattle.aql_block.proofs.blocks.Block.split.Goals as goal

pub invariant_of-first : goal.invariant_of-first
invariant_of-first c =
    let b = c.self.inside in
    let k = c.min-at.result in
    let w = with_mapped (first_of k) b.columns c.split_all.new.columns
    (c.in_ok-rest.ensures.first
    ∙ ap (λ (cs : List ColumnView). map (first_of k) cs) c.deref_mut.ensures.value) b.columns.ok.0 in
    let e : min b.rows k ≡ k = omega (arith, c.min-at.ensures) in
    subst (λ (xs : List ℕ). IsFilled xs (with_items b.columns c.split_all.new.columns).items k b.room)
    (sym (c.in_ok-same.ensures ∙ c.deref.ensures.value))
    (subst (λ (cs : List ColumnView). IsFilled b.registers.items cs k b.room) (sym w)
    (subst (λ (n : ℕ). IsFilled b.registers.items (map (first_of k) b.columns.items) n b.room) e
    (filled_first b.registers.items b.columns.items b.rows b.room k c.self.invariant)))

pub invariant_of-others : goal.invariant_of-others
invariant_of-others c =
    let b = c.self.inside in
    let k = c.min-at.result in
    let w : c.in_ok-rest.rest.items ≡ map (rest_of k) b.columns.items =
    c.in_ok-rest.ensures.rest ∙ ap (λ (cs : List ColumnView). map (rest_of k) cs) c.deref_mut.ensures.value in
    subst (λ (cs : List ColumnView). IsFilled b.registers.items cs (b.rows - k) (b.rows - k)) (sym w)
    (filled_rest b.registers.items b.columns.items b.rows b.room k c.self.invariant)

pub returns-clause-first : goal.returns-clause-first
returns-clause-first c =
    let b = c.self.inside in
    let k = c.min-at.result in
    let rows = rows_by b.registers.items (rows_in b.rows b.columns.items) in
    let w = with_mapped (first_of k) b.columns c.split_all.new.columns
    (c.in_ok-rest.ensures.first
    ∙ ap (λ (cs : List ColumnView). map (first_of k) cs) c.deref_mut.ensures.value) b.columns.ok.0 in
    let held : length rows ≡ b.rows =
    rows_held b.registers.items b.columns.items b.rows b.room c.self.invariant in
    let least : k ≡ min b.rows k = omega (arith, c.min-at.ensures) in
    let e : k ≡ min c.args.at (length rows) = omega (arith, c.min-at.ensures, held) in
    ap₂ (λ (xs : List ℕ) (cs : List ColumnView). rows_by xs (rows_in k cs))
    (c.in_ok-same.ensures ∙ c.deref.ensures.value) w
    ∙ ap (λ (n : ℕ). rows_by b.registers.items (rows_in n (map (first_of k) b.columns.items))) least
    ∙ rows_first b.registers.items b.columns.items b.rows k
    ∙ ap (λ (n : ℕ). take n rows) e ∙ take_min c.args.at rows
    ∙ ap (λ (t : Table). take c.args.at (rows_of t)) c.self.view_is

pub returns-clause-rest : goal.returns-clause-rest
returns-clause-rest c =
    let b = c.self.inside in
    let k = c.min-at.result in
    let rows = rows_by b.registers.items (rows_in b.rows b.columns.items) in
    let w : c.in_ok-rest.rest.items ≡ map (rest_of k) b.columns.items =
    c.in_ok-rest.ensures.rest ∙ ap (λ (cs : List ColumnView). map (rest_of k) cs) c.deref_mut.ensures.value in
    let held : length rows ≡ b.rows =
    rows_held b.registers.items b.columns.items b.rows b.room c.self.invariant in
    let e : k ≡ min c.args.at (length rows) = omega (arith, c.min-at.ensures, held) in
    ap (λ (cs : List ColumnView). rows_by b.registers.items (rows_in (b.rows - k) cs)) w
    ∙ rows_rest b.registers.items b.columns.items b.rows k
    ∙ ap (λ (n : ℕ). drop n rows) e ∙ drop_min c.args.at rows
    ∙ ap (λ (t : Table). drop c.args.at (rows_of t)) c.self.view_is

pub returns-clause-registers : goal.returns-clause-registers
returns-clause-registers c =
    let same = ap (λ (t : Table). t.registers) c.self.view_is in
    (c.in_ok-same.ensures ∙ c.deref.ensures.value ∙ same, same)
