use Rattle.std.proofs.Common.{◌≡◌, ◌∙◌, ◌+◌, ◌<◌, ◌∷◌, [], length, set, get_or, ap, sym, subst, arith}
use Rattle.std.proofs.lemmas.List.{get_or_default, map-append}
use Rattle.std.specs.Prelude.{slice_get}
use Rattle.aql_value.specs.View.{datum_of}
use Rattle.aql_block.specs.declared.rows.Entry.{Entry}
use Rattle.aql_block.specs.Columns.{ColumnView, values_at, without}
use Rattle.aql_block.specs.Entries.{entries_in}
use Rattle.aql_block.proofs.Steps.{Worked, worked_more, worked_next, cell_there, all_cells}
use Rattle.aql_block.proofs.columns.take_values.Goals as goal

pub loop-place-preserved : goal.loop-place-preserved
loop-place-preserved c =
    let xs = c.args.registers.now in
    let i = c.loop-place.place in
    let now = c.loop-place.columns in
    let old = c.args.columns.now in
    let at = c.args.at in
    let d = c.index-columns-place.result in
    let l = c.loop-place-test.true in
    let lo : i < length old = omega (arith, l, c.requires.count) in
    let was = worked_next (without at) i now old d c.loop-place.invariant.0 lo c.index-columns-place.is in (
      subst (λ (p : ColumnView). Worked (without at) (i + 1) (set now i p) old)
          (sym (c.take-value.ensures.rest
          ∙ ap (λ (p : ColumnView). without at p) (sym c.index-columns-place.is)))
          (worked_more (without at) i now old d c.loop-place.invariant.0 lo c.index-columns-place.is),
      ap entries_in c.in-Ok.ensures.items
          ∙ map-append (λ (e : Entry). (e.var, datum_of e.value)) c.loop-place.entries.items
          (record { var = get_or xs i 0; value = c.take-value.result } ∷ [])
          ∙ cell_there xs old at i (get_or xs i 0) d (datum_of c.take-value.result)
          (entries_in c.loop-place.entries.items) c.loop-place.invariant.1 l c.requires.count
          (get_or_default xs i 0 (get_or xs i 0) l) was
          (ap (λ (p : ColumnView). slice_get p.held at) c.index-columns-place.is
          ∙ c.take-value.ensures.value),
      omega (arith, c.loop-place.invariant.2, c.in-Ok.ensures.capacity),
      omega (arith, c.loop-place.invariant.3, c.in-Ok.ensures.len),
    )

pub returns-clause-row : goal.returns-clause-row
returns-clause-row c =
    all_cells c.args.registers.now (values_at c.args.columns.now c.args.at) c.loop-place.place
    (entries_in c.loop-place.entries.items) c.loop-place.invariant.1 (omega arith)
