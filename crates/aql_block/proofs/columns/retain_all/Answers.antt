use Rattle.std.proofs.Common.{◌≡◌, ◌∙◌, ◌+◌, ◌<◌, length, set, ap, sym, subst, arith}
use Rattle.aql_block.specs.Columns.{ColumnView, marked_of}
use Rattle.aql_block.proofs.Steps.{Worked, worked_more}
use Rattle.aql_block.proofs.columns.retain_all.Goals as goal

pub loop-column-preserved : goal.loop-column-preserved
loop-column-preserved c =
    let i = c.loop-column.column-index in
    let now = c.loop-column.column-items in
    let old = c.args.columns.now in
    let l : i < length old = omega arith in
    subst (λ (p : ColumnView). Worked (marked_of c.args.marks.now) (i + 1) (set now i p) old)
    (sym (c.retain.ensures ∙ ap (λ (p : ColumnView). marked_of c.args.marks.now p) (sym c.column-item.is)))
    (worked_more (marked_of c.args.marks.now) i now old c.column-item.result c.loop-column.invariant l c.column-item.is)
