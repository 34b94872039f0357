use Rattle.std.proofs.Common.{◌≡◌, ◌∙◌, ◌-◌, ◌++◌, [], length, drop, refl, ap, sym, arith, length-drop}
use Rattle.aql_exec.specs.Counting.{nothing}
use Rattle.aql_exec.specs.laws.Counted.{rises_none}
use Rattle.aql_exec_rows.specs.declared.collect.GroupRows.{GroupRows}
use Rattle.aql_exec_rows.specs.Collecting.{rows_from}
use Rattle.aql_exec_rows.proofs.Joining.{none_ahead}
use Rattle.aql_exec_rows.proofs.Leaving.{front_given}
use Rattle.aql_exec_rows.proofs.Setting.{cut, row_count}
use Rattle.aql_exec_rows.proofs.collect.GroupRowsTransform.skip.Goals as goal

pub returns-then-not-self-clause-left : goal.returns-then-not-self-clause-left
returns-then-not-self-clause-left g c = (
  nothing,
  rises_none g.W.Surroundings c.args._tally.now c.args._world.now,
  λ rows r h. ([], r, refl, none_ahead [] r refl, c.in_ok-prepare.ensures.left rows r h),
)

pub returns-clause-left : goal.returns-clause-left
returns-clause-left g c =
    let before = c.prepare.new.self in
    let after : GroupRows = record before { finished = c.truncate.new.self } in
    let all = before.finished.items in
    let kept = c.len-2.result - c.min-count.result in
    let front = rows_from before.frame (drop kept all) in
    let rows = cut before.frame kept all
    ∙ ap (λ z. front ++ rows_from before.frame z) (sym c.truncate.ensures.items) in
    let count = row_count before.frame (drop kept all) in
    let dropped = length-drop kept all in
    let whole : c.len-2.result ≡ length all = c.len-2.ensures ∙ before.finished.ok.0 in
    let same : c.len.result ≡ length all = c.len.ensures ∙ before.finished.ok.0 in
    let few = c.min-count.ensures in (
      nothing,
      rises_none g.W.Surroundings c.args._tally.now c.args._world.now,
      λ others r h.
          (let made = c.if-not-self.false in
          let b = front_given before after front others r made made rows h in (
            front,
            b.0,
            omega (arith, count, dropped, whole, same, few),
            b.1,
            c.in_ok-prepare.ensures.left others b.0 b.2,
          )),
    )
