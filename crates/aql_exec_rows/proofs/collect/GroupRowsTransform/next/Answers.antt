use Rattle.std.proofs.Common.{length, ap, arith, length-append}
use Rattle.aql_block.specs.Tables.{rows_of}
use Rattle.aql_exec.specs.Counting.{nothing}
use Rattle.aql_exec.specs.laws.Counted.{rises_none}
use Rattle.aql_exec_rows.specs.declared.collect.GroupRows.{GroupRows}
use Rattle.aql_exec_rows.specs.Collecting.{rows_from}
use Rattle.aql_exec_rows.proofs.Joining.{none_ahead, if_ok}
use Rattle.aql_exec_rows.proofs.Leaving.{front_given}
use Rattle.aql_exec_rows.proofs.Setting.{row_count}
use Rattle.aql_exec_rows.proofs.collect.GroupRowsTransform.next.Goals as goal

pub returns-then-not-self-clause-left : goal.returns-then-not-self-clause-left
returns-then-not-self-clause-left g c = (
  nothing,
  rises_none g.W.Surroundings c.args._tally.now c.args._world.now,
  λ rows r h. (r, none_ahead _ r (ap rows_of c.empty.ensures), c.in_ok-prepare.ensures.left rows r h),
)

pub returns-clause-held : goal.returns-clause-held
returns-clause-held g c = if_ok c.take_last.result c.take_last.ensures.rows (λ block rows.
    (let before = c.prepare.new.self in
    let left = c.take_last.new.groups.items in
    let n = row_count before.frame before.finished.items in
    let m = row_count before.frame left in
    let k = ap length rows in
    let l = length-append (rows_of block) (rows_from before.frame left) in
    let held = c.in_ok-prepare.ensures.held in
    omega (arith, n, m, k, l, held)))

pub returns-clause-left : goal.returns-clause-left
returns-clause-left g c = if_ok c.take_last.result c.take_last.ensures.rows (λ block rows. (
  nothing,
  rises_none g.W.Surroundings c.args._tally.now c.args._world.now,
  λ others r h.
      (let before = c.prepare.new.self in
      let after : GroupRows = record before { finished = c.take_last.new.groups } in
      let made = c.if-not-self.false in
      let b = front_given before after (rows_of block) others r made made rows h in
      (b.0, b.1, c.in_ok-prepare.ensures.left others b.0 b.2)),
))
