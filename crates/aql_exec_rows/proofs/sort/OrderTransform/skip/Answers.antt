use Rattle.std.proofs.Common.{◌≡◌, ◌∙◌, ◌-◌, ◌++◌, [], length, drop, reverse, refl, ap, sym, subst, arith, length-drop}
use Rattle.std.proofs.lemmas.List.{length-take}
use Rattle.aql_exec.specs.Counting.{nothing}
use Rattle.aql_exec_rows.specs.declared.sort.Order.{Order}
use Rattle.aql_exec_rows.specs.Keys.{keyed_in, rows_alone}
use Rattle.aql_exec_rows.specs.Sorting.{AllHave}
use Rattle.aql_exec.specs.laws.Counted.{rises_none}
use Rattle.aql_exec_rows.proofs.Joining.{none_ahead, front_leaves, row_count, last_cut, fewer_few, take_has}
use Rattle.aql_exec_rows.proofs.sort.OrderTransform.skip.Goals as goal

pub returns-then-not-self-clause-left : goal.returns-then-not-self-clause-left
returns-then-not-self-clause-left g c = (
  nothing,
  rises_none g.W.Surroundings c.args._tally.now c.args._world.now,
  λ rows r h. ([], r, refl, none_ahead [] r refl, c.in_ok-prepare.ensures.left rows r h),
)

pub returns-clause-valid : goal.returns-clause-valid
returns-clause-valid g c =
    let before = c.prepare.new.self in
    let is = c.in_ok-prepare.ensures.is in
    let kept = c.len-2.result - c.min-count.result in
    let cut = c.truncate.ensures.items in
    let n = ap length cut in
    let m = length-take kept before.rows.items in
    record {
      alike = λ u. subst (λ z. AllHave before.registers.items (keyed_in z)) (sym cut)
          (take_has before.registers.items kept before.rows.items (is.alike u));
      sorted = is.sorted;
      few = fewer_few before.limit (length c.truncate.new.self.items) (length before.rows.items)
          (omega (arith, n, m)) is.few;
    }

pub returns-clause-left : goal.returns-clause-left
returns-clause-left g c =
    let before = c.prepare.new.self in
    let after : Order = record before { rows = c.truncate.new.self } in
    let kept = c.len-2.result - c.min-count.result in
    let front = rows_alone (reverse (keyed_in (drop kept before.rows.items))) in
    let rows = last_cut kept before.rows.items
    ∙ ap (λ z. front ++ rows_alone (reverse (keyed_in z))) (sym c.truncate.ensures.items) in
    let count = row_count (drop kept before.rows.items) in
    let dropped = length-drop kept before.rows.items in
    let all : c.len-2.result ≡ length before.rows.items = c.len-2.ensures ∙ before.rows.ok.0 in
    let same : c.len.result ≡ length before.rows.items = c.len.ensures ∙ before.rows.ok.0 in
    let few = c.min-count.ensures in (
      nothing,
      rises_none g.W.Surroundings c.args._tally.now c.args._world.now,
      λ others r h.
          (let sorted = c.if-not-self.false in
          let b = front_leaves before after front others r sorted sorted rows h in (
            front,
            b.0,
            omega (arith, count, dropped, all, same, few),
            b.1,
            c.in_ok-prepare.ensures.left others b.0 b.2,
          )),
    )
