-- COLLECT: what the groups leave once they are finished, and after rows of them were given.
use Rattle.std.proofs.Common.{◌≡◌, ◌++◌, List, map, true, reverse, refl, sym, ap, ◌∙◌, subst, arith}
use Rattle.std.proofs.lemmas.List.{reverse-reverse}
use Rattle.aql_value.specs.View.{datums_in}
use Rattle.aql_func.specs.Lists.{sort_values}
use Rattle.aql_meaning.specs.Row.{Row}
use Rattle.aql_meaning.specs.Groups.{GroupedRow}
use Rattle.aql_block.specs.Rows.{row_of}
use Rattle.aql_exec.specs.Rests.{Exact, Rest, Prefixed}
use Rattle.aql_exec.specs.Counting.{nothing}
use Rattle.aql_aggregate.specs.declared.staged.StagedKind.{StagedKind}
use Rattle.aql_exec_rows.specs.Settings.{AreKinds}
use Rattle.aql_exec_rows.specs.GroupStates.{Holds, finished_of, finished_in, result_of}
use Rattle.aql_exec_rows.specs.Framed.{framed, IsFrame}
use Rattle.aql_exec_rows.specs.Collecting.{CollectsBy, rows_from, LeavesGroups, left_collect}
use Rattle.aql_exec_rows.specs.declared.collect.GroupRows.{GroupRows}
use Rattle.aql_exec_rows.specs.declared.grouping.Grouping.{Grouping}
use Rattle.aql_exec_rows.specs.declared.group.Finished.{Finished}
use Rattle.aql_exec_rows.specs.declared.groups.Groups.{Groups}
use Rattle.aql_exec_rows.specs.declared.frame.Frame.{Frame}
use Rattle.aql_exec_rows.proofs.Finishing.{all_collected}
use Rattle.aql_exec_rows.proofs.Keyings.{map_reverse}

-- the rows of the finished groups are what a COLLECT makes of the rows that these keep
pub groups_finished : (g : Grouping) (kinds : List StagedKind) (frame : Frame) (rows : List GroupedRow)
    (groups : Groups) (all turned : List Finished) (out : List Row)
    → IsFrame g frame → AreKinds g.stage g.aggregates kinds → Holds g kinds rows groups
    → finished_in all ≡ map (result_of g.into kinds rows) (sort_values (datums_in groups.keys.keys))
    → turned ≡ reverse all → out ≡ rows_from frame turned → CollectsBy g (row_of frame.start) rows out
groups_finished g kinds frame rows groups all turned out is known holds results t e =
    subst (CollectsBy g (row_of frame.start) rows)
    (ap (map (framed frame)) (sym results) ∙ sym (e ∙ ap (rows_from frame) t
    ∙ ap (map (framed frame)) (ap reverse (map_reverse finished_of all) ∙ reverse-reverse (finished_in all))))
    (all_collected g kinds rows frame is known groups holds)

-- of the rows of the finished groups the first are given or skipped
pub front_given : {v : Exact} (before after : GroupRows) (front rows : List Row) (r : Rest)
    → before.made ≡ true → after.made ≡ true
    → rows_from before.frame before.finished.items ≡ front ++ rows_from after.frame after.finished.items
    → left_collect after rows r → (b : Rest) × Prefixed v front nothing r b × left_collect before rows b
front_given before after front rows r m n e h =
    let left = subst (λ b. LeavesGroups b after rows r.rows) n h.0 in (
      record { rows = front ++ r.rows; counts = r.counts },
      record { rows = refl; counts = λ c. omega arith; exact = λ c y. omega arith },
      (
        subst (λ b. LeavesGroups b before rows (front ++ r.rows)) (sym m) (ap (λ z. front ++ z) left ∙ sym e),
        h.1,
      ),
    )
