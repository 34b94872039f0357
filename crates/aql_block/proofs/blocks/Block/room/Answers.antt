use Rattle.std.proofs.Common.{◌≡◌, ◌≤◌, ℕ, length, sym, subst}
use Rattle.aql_block.specs.Tables.{Table, rows_of}
use Rattle.aql_block.proofs.Tabled.{rows_held}
use Rattle.aql_block.proofs.blocks.Block.room.Goals as goal

pub returns-clause-within : goal.returns-clause-within
returns-clause-within c =
    let b = c.self.inside in
    subst (λ (t : Table). length (rows_of t) ≤ t.room) c.self.view_is
    (subst (λ (n : ℕ). n ≤ b.room)
    (sym (rows_held b.registers.items b.columns.items b.rows b.room c.self.invariant))
    c.self.invariant.within)
