use Rattle.std.proofs.Common.{◌≡◌, ◌∙◌, ◌+◌, ◌<◌, length, set, ap, sym, subst, arith}
use Rattle.aql_block.specs.Columns.{ColumnView, first_of}
use Rattle.aql_block.proofs.Steps.{Worked, worked_more}
use Rattle.aql_block.proofs.columns.truncate_all.Goals as goal

pub loop-column-preserved : goal.loop-column-preserved
loop-column-preserved c =
    let i = c.loop-column.column-index in
    let now = c.loop-column.column-items in
    let old = c.args.columns.now in
    let l : i < length old = omega arith in
    subst (λ (p : ColumnView). Worked (first_of c.args.len) (i + 1) (set now i p) old)
    (sym (c.truncate.ensures ∙ ap (λ (p : ColumnView). first_of c.args.len p) (sym c.column-item.is)))
    (worked_more (first_of c.args.len) i now old c.column-item.result c.loop-column.invariant l c.column-item.is)
