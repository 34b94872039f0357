use Rattle.std.proofs.Common.{◌≡◌, ◌∙◌, length, ap, sym}
use Rattle.aql_block.specs.Tables.{Table, rows_of}
use Rattle.aql_block.proofs.Tabled.{rows_held}
use Rattle.aql_block.proofs.blocks.Block.len.Goals as goal

pub returns : goal.returns
returns c =
    let b = c.self.inside in
    sym (rows_held b.registers.items b.columns.items b.rows b.room c.self.invariant)
    ∙ ap (λ (t : Table). length (rows_of t)) c.self.view_is
