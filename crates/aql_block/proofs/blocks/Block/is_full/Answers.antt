use Rattle.std.proofs.Common.{◌≡◌, ◌↔◌, length, subst}
use Rattle.std.specs.Prelude.{IsTrue, ◌==◌}
use Rattle.aql_block.specs.Tables.{Table, rows_of}
use Rattle.aql_block.proofs.Tabled.{rows_held, is_full_when}
use Rattle.aql_block.proofs.blocks.Block.is_full.Goals as goal

pub returns : goal.returns
returns c =
    let b = c.self.inside in
    subst (λ (t : Table). IsTrue (b.rows == b.room) ↔ (length (rows_of t) ≡ t.room)) c.self.view_is
    (is_full_when b.rows b.room _
    (rows_held b.registers.items b.columns.items b.rows b.room c.self.invariant))
