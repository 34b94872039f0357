use Rattle.std.proofs.Common.{◌≡◌, ◌∙◌, ◌≤◌, ◌++◌, ◌∷◌, [], length, ap, subst}
use Rattle.aql_block.specs.Rows.{row_of, HasAll, only}
use Rattle.aql_block.specs.Tables.{rows_of}
use Rattle.aql_exec_cluster.proofs.Sorted.{left_read, registers_read, popped_by}
use Rattle.aql_exec_cluster.proofs.queues.Queues.move_row.Goals as goal

pub pop-requires-clause-some : goal.pop-requires-clause-some
pop-requires-clause-some c =
    subst (λ z. 1 ≤ length z)
    (left_read c.args.self.now.list.items c.args.at c.index_mut.result.now c.requires.at
    c.index_mut.ensures.value) c.requires.some

pub append-requires : goal.append-requires
append-requires c =
    let same = registers_read c.args.block.now.registers c.args.self.now.list.items c.args.at
    c.index_mut.result.now c.requires.registers c.requires.at c.index_mut.ensures.value in
    subst (λ z. HasAll z (row_of c.in_ok-row.row)) same c.in_ok-row.ensures.has

pub returns-clause-moved : goal.returns-clause-moved
returns-clause-moved c =
    let queue = c.index_mut.result.now in
    let row = row_of c.in_ok-row.row in
    let same = registers_read c.args.block.now.registers c.args.self.now.list.items c.args.at queue
    c.requires.registers c.requires.at c.index_mut.ensures.value in
    let whole = subst (λ z. only z row ≡ row) same c.in_ok-row.ensures.only in (
      row,
      c.in-Ok.ensures.ok ∙ ap (λ z. rows_of c.args.block.now ++ z ∷ []) whole,
      popped_by c.args.self.now.list.items c.args.at queue c.pop.new.self row c.requires.at
          c.index_mut.ensures.value c.in_ok-row.ensures.row,
    )
