use Rattle.std.proofs.Common.{◌++◌, [], ◌∷◌, length, length-append, get_or, sym, subst, ap, ◌∙◌, arith}
use Rattle.aql_block.specs.Rows.{row_of, HasAll, only}
use Rattle.aql_block.specs.Tables.{rows_of}
use Rattle.aql_block.specs.laws.BlockRows.{row_has_all, row_only}
use Rattle.aql_exec_cluster.proofs.Routed.{next_place}
use Rattle.aql_exec_cluster.proofs.blocks.copy_places.Goals as goal

pub append-requires : goal.append-requires
append-requires c =
    let block = c.args.block.now in
    let row = row_of c.in-Some.row in
    let at = get_or c.args.places.now c.loop-at.at-index 0 in
    subst (λ xs. HasAll xs (row_of c.in_ok-to_row.field-0)) (sym c.loop-at.invariant.registers)
    (subst (λ z. HasAll block.registers (row_of z)) (sym c.in_ok-to_row.ensures)
    (row_has_all block at row (sym c.in-Some.ensures)))

pub loop-at-preserved : goal.loop-at-preserved
loop-at-preserved c =
    let block = c.args.block.now in
    let row = row_of c.in-Some.row in
    let at = get_or c.args.places.now c.loop-at.at-index 0 in
    let before = c.loop-at.invariant in
    let same = ap (λ xs. only xs (row_of c.in_ok-to_row.field-0)) before.registers
    ∙ ap (λ z. only block.registers (row_of z)) c.in_ok-to_row.ensures
    ∙ row_only block at row (sym c.in-Some.ensures) in
    let added = c.in-Ok.ensures.ok ∙ ap (λ z. rows_of c.loop-at.copy ++ z ∷ []) same in
    record {
      registers = c.append.ensures.registers ∙ before.registers;
      room = c.append.ensures.room ∙ before.room;
      count = (let n = ap length added in let m = length-append (rows_of c.loop-at.copy) (row ∷ []) in
          let k = before.count in omega (arith, n, m, k));
      rows = added ∙ ap (λ z. z ++ row ∷ []) before.rows
          ∙ sym (next_place (rows_of block) c.args.places.now c.loop-at.at-index row c.loop-at-test.true
          (sym c.in-Some.ensures));
    }
