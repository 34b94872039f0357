use Rattle.std.proofs.Common.{◌++◌, [], ◌∷◌, sym, subst, ap, ◌∙◌}
use Rattle.aql_block.specs.Rows.{row_of, HasAll, only}
use Rattle.aql_block.specs.Tables.{rows_of}
use Rattle.aql_block.specs.laws.BlockRows.{row_has_all, row_only}
use Rattle.aql_exec_cluster.proofs.Sharing.{one_more}
use Rattle.aql_exec_cluster.proofs.blocks.copy_range.Goals as goal

pub append-requires : goal.append-requires
append-requires c =
    let block = c.args.block.now in
    let row = row_of c.in-Some.row in
    subst (λ xs. HasAll xs (row_of c.in_ok-to_row.field-0)) (sym c.loop-at.invariant.registers)
    (subst (λ z. HasAll block.registers (row_of z)) (sym c.in_ok-to_row.ensures)
    (row_has_all block c.loop-at.at row (sym c.in-Some.ensures)))

pub loop-at-preserved : goal.loop-at-preserved
loop-at-preserved c =
    let block = c.args.block.now in
    let row = row_of c.in-Some.row in
    let before = c.loop-at.invariant in
    let same = ap (λ xs. only xs (row_of c.in_ok-to_row.field-0)) before.registers
    ∙ ap (λ z. only block.registers (row_of z)) c.in_ok-to_row.ensures
    ∙ row_only block c.loop-at.at row (sym c.in-Some.ensures) in
    record {
      registers = c.append.ensures.registers ∙ before.registers;
      room = c.append.ensures.room ∙ before.room;
      rows = one_more (rows_of block) (rows_of c.loop-at.copy) (rows_of c.append.new.self) c.args.from
          c.loop-at.at row c.loop-at.auto.at (sym c.in-Some.ensures) before.rows
          (c.in-Ok.ensures.ok ∙ ap (λ z. rows_of c.loop-at.copy ++ z ∷ []) same);
    }
