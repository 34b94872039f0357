use Rattle.std.proofs.Common.{◌≡◌, ◌<◌, ◌≤◌, ℕ, length, sym, subst}
use Rattle.std.specs.Prelude.{Some, None, option_map, slice_get}
use Rattle.aql_block.specs.Rows.{row_of}
use Rattle.aql_block.specs.Tables.{Table, rows_of, cells_at}
use Rattle.aql_block.specs.Columns.{rows_in}
use Rattle.aql_block.proofs.Beside.{length-rows_in}
use Rattle.aql_block.proofs.Tabled.{row_there, no_row_there}
use Rattle.aql_block.proofs.blocks.Block.row.Goals as goal

pub invariant_of-result : goal.invariant_of-result
invariant_of-result c =
    let b = c.self.inside in
    subst (λ (t : Table). c.args.at < length t.values) c.self.view_is
    (subst (λ (n : ℕ). c.args.at < n)
    (sym (length-rows_in b.rows b.room b.columns.items c.self.invariant.fit)) c.if-at-self.true)

pub returns-then-at-self : goal.returns-then-at-self
returns-then-at-self c =
    let b = c.self.inside in
    subst (λ (t : Table). Some (row_of (cells_at t c.args.at)) ≡ slice_get (rows_of t) c.args.at)
    c.self.view_is
    (row_there b.registers.items (rows_in b.rows b.columns.items) c.args.at
    (subst (λ (n : ℕ). c.args.at < n)
    (sym (length-rows_in b.rows b.room b.columns.items c.self.invariant.fit)) c.if-at-self.true))

pub returns-else-at-self : goal.returns-else-at-self
returns-else-at-self c =
    let b = c.self.inside in
    subst (λ (t : Table). None ≡ slice_get (rows_of t) c.args.at) c.self.view_is
    (no_row_there b.registers.items (rows_in b.rows b.columns.items) c.args.at
    (subst (λ (n : ℕ). n ≤ c.args.at)
    (sym (length-rows_in b.rows b.room b.columns.items c.self.invariant.fit)) c.if-at-self.false))
