use Rattle.std.proofs.Common.{◌≡◌, ◌∙◌, ◌<◌, ◌∷◌, [], length, get_or, ap, arith}
use Rattle.std.proofs.lemmas.List.{get_or_default, map-append}
use Rattle.aql_value.specs.View.{datum_of}
use Rattle.aql_block.specs.declared.rows.Entry.{Entry}
use Rattle.aql_block.specs.Columns.{values_at}
use Rattle.aql_block.specs.Entries.{entries_in}
use Rattle.aql_block.proofs.Steps.{cell_there, all_cells}
use Rattle.aql_block.proofs.columns.copy_values.Goals as goal

pub loop-place-preserved : goal.loop-place-preserved
loop-place-preserved c =
    let xs = c.args.registers.now in
    let i = c.loop-place.place in
    let l : i < length xs = omega arith in
    ap entries_in c.in_ok-push.ensures.items
    ∙ map-append (λ (e : Entry). (e.var, datum_of e.value)) c.loop-place.entries.items
    (record { var = get_or xs i 0; value = c.in_ok-value.value } ∷ [])
    ∙ cell_there xs c.args.columns.now c.args.at i (get_or xs i 0) c.index-columns-place.result
    (datum_of c.in_ok-value.value) (entries_in c.loop-place.entries.items) c.loop-place.invariant l
    c.requires.count (get_or_default xs i 0 (get_or xs i 0) l) c.index-columns-place.is
    c.in_ok-value.ensures

pub returns : goal.returns
returns c =
    all_cells c.args.registers.now (values_at c.args.columns.now c.args.at) c.loop-place.place
    (entries_in c.loop-place.entries.items) c.loop-place.invariant (omega arith)
