use Rattle.std.proofs.Common.{◌≡◌, ◌∙◌, ◌+◌, ◌<◌, ◌++◌, ◌∷◌, [], length, set, ap, sym, subst, arith}
use Rattle.aql_block.specs.Columns.{ColumnView, first_of, rest_of}
use Rattle.aql_block.proofs.Steps.{Worked, worked_more, worked_next, handed_more}
use Rattle.aql_block.proofs.columns.split_all.Goals as goal

pub loop-column-preserved : goal.loop-column-preserved
loop-column-preserved c =
    let i = c.loop-column.column-index in
    let now = c.loop-column.column-items in
    let old = c.args.columns.now in
    let at = c.args.at in
    let l : i < length old = omega arith in
    let was = worked_next (first_of at) i now old c.column-item.result c.loop-column.invariant.0 l
    c.column-item.is in (
      subst (λ (p : ColumnView). Worked (first_of at) (i + 1) (set now i p) old)
          (sym (c.in_ok-split.ensures.first ∙ ap (λ (p : ColumnView). first_of at p) (sym c.column-item.is)))
          (worked_more (first_of at) i now old c.column-item.result c.loop-column.invariant.0 l c.column-item.is),
      c.in_ok-push.ensures.items
          ∙ ap (λ (p : ColumnView). c.loop-column.rest.items ++ p ∷ [])
          (c.in_ok-split.ensures.rest ∙ ap (λ (p : ColumnView). rest_of at p) (sym c.column-item.is))
          ∙ handed_more (rest_of at) i old c.loop-column.rest.items c.column-item.result c.loop-column.invariant.1 l was,
    )
