use Rattle.std.proofs.Common.{◌∙◌, ◌++◌, ◌∷◌, [], length, ap}
use Rattle.std.proofs.lemmas.List.{map-append, length-set}
use Rattle.aql_block.specs.Rows.{row_of}
use Rattle.aql_block.specs.Tables.{rows_of}
use Rattle.aql_plan.specs.View.{key_trees}
use Rattle.aql_exec_rows.specs.Keys.{keyed_of, keyed_in}
use Rattle.aql_exec_rows.proofs.Keyings.{one_moved}
use Rattle.aql_exec_rows.proofs.keyed.add_rows.Goals as goal

pub loop-at-preserved : goal.loop-at-preserved
loop-at-preserved c =
    let es = key_trees c.args.keys.now in
    let row = row_of c.in_ok-row.row in
    let held = c.loop-at.held.items in
    let moved = c.in_ok-row.ensures in
    let pushed = ap keyed_in c.in_ok-push.ensures.items
    ∙ map-append keyed_of held (_ ∷ [])
    ∙ ap (λ z. keyed_in held ++ (z, row) ∷ []) c.in_ok-keys.ensures in
    record {
      count = ap length moved.rest ∙ length-set _ _ _ ∙ c.loop-at.invariant.count;
      rows = one_moved es (keyed_in held) _ _ (rows_of c.loop-at.block) (rows_of c.take_row.new.self)
          c.loop-at.at row _ moved.row moved.rest pushed c.loop-at.invariant.rows;
    }
