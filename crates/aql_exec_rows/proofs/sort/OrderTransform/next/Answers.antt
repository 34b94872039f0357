use Rattle.std.proofs.Common.{◌∙◌, ◌≤◌, length, reverse, ap, sym, subst, arith, length-append}
use Rattle.aql_block.specs.Tables.{rows_of}
use Rattle.aql_exec.specs.Counting.{nothing}
use Rattle.aql_exec_rows.specs.Keys.{keyed_in, rows_alone}
use Rattle.aql_exec_rows.specs.Sorting.{AreFew}
use Rattle.aql_exec.specs.laws.Counted.{rises_none}
use Rattle.aql_exec_rows.proofs.Joining.{none_ahead, front_leaves, row_count, fewer_few, if_ok, both_on_ok}
use Rattle.aql_exec_rows.proofs.sort.OrderTransform.next.Goals as goal

pub returns-then-not-self-clause-left : goal.returns-then-not-self-clause-left
returns-then-not-self-clause-left g c = (
  nothing,
  rises_none g.W.Surroundings c.args._tally.now c.args._world.now,
  λ rows r h. (r, none_ahead _ r (ap rows_of c.empty.ensures), c.in_ok-prepare.ensures.left rows r h),
)

pub returns-clause-valid : goal.returns-clause-valid
returns-clause-valid g c =
    both_on_ok c.give.result c.give.ensures.alike c.give.ensures.rows (λ block alike rows.
    let before = c.prepare.new.self in
    let after = c.give.new.self in
    let is = c.in_ok-prepare.ensures.is in
    let n = row_count before.rows.items in
    let m = row_count after.rows.items in
    let k = ap length rows in
    let l = length-append (rows_of block) (rows_alone (reverse (keyed_in after.rows.items))) in
    let fewer : length after.rows.items ≤ length before.rows.items = omega (arith, n, m, k, l) in
    record {
      alike = alike;
      sorted = λ s. (
        c.give.ensures.closed ∙ sym c.in_ok-prepare.ensures.sorted ∙ sym c.give.ensures.sorted ∙ s,
        ap rows_of c.give.ensures.block ∙ c.in_ok-prepare.ensures.block,
      );
      few = subst (λ limit. AreFew limit (length after.rows.items)) (sym c.give.ensures.limit)
          (fewer_few before.limit (length after.rows.items) (length before.rows.items) fewer is.few);
    })

pub returns-clause-left : goal.returns-clause-left
returns-clause-left g c =
    if_ok c.give.result c.give.ensures.rows (λ block rows. (
      nothing,
      rises_none g.W.Surroundings c.args._tally.now c.args._world.now,
      λ others r h.
          (let sorted = c.if-not-self.false in
          let b = front_leaves c.prepare.new.self c.give.new.self (rows_of block) others r sorted
          (c.give.ensures.sorted ∙ sorted) rows h in
          (b.0, b.1, c.in_ok-prepare.ensures.left others b.0 b.2)),
    ))
