use Rattle.std.proofs.Common.{◌≡◌, ◌∙◌, ◌++◌, ◌∷◌, List, [], length, length-append, sym, ap, subst, arith}
use Rattle.std.proofs.Math.Nat.{le_refl}
use Rattle.aql_plan.specs.View.{directions, key_trees}
use Rattle.aql_meaning.specs.Row.{Row}
use Rattle.aql_meaning.specs.AtRows.{row_before}
use Rattle.aql_block.specs.Tables.{rows_of}
use Rattle.aql_exec_cluster.specs.Queues.{Merges}
use Rattle.aql_exec_cluster.proofs.Sorted.{all_empty, merges_one, merges_then}
use Rattle.aql_exec_cluster.proofs.queues.Queues.merge.Goals as goal

pub returns-in_default-clause-none : goal.returns-in_default-clause-none
returns-in_default-clause-none c e =
    let queues = c.args.self.now.list.items in
    all_empty queues (length queues) (le_refl (length queues)) c.in_default.ensures

pub loop-row-init : goal.loop-row-init
loop-row-init c =
    let before = row_before (directions c.args.keys.now) (key_trees c.args.keys.now) in
    let inputs = c.args.inputs.now.progress.items in
    let queues = c.args.self.now.list.items in
    let after = c.move_row.new.self.list.items in
    let moved = c.in_ok-move_row.ensures.moved in
    let rows : rows_of c.move_row.new.block ≡ moved.0 ∷ [] =
    moved.1 ∙ ap (λ z. z ++ moved.0 ∷ []) c.in_ok-block.ensures.none in
    let n = ap length rows in
    let left = moved.2.left in
    record {
      count = moved.2.count;
      keyed = c.in_ok-move_row.ensures.keyed;
      merges = subst (λ (z : List Row). Merges before (length inputs) inputs after z queues) (sym rows)
          (merges_one before inputs queues after (length inputs) c.in-Some.first moved.0 c.requires.count
          c.requires.ready c.in-Some.ensures moved.2);
      rows = n;
      room = c.in_ok-move_row.ensures.room ∙ c.in_ok-block.ensures.room;
      left = omega (arith, n, left);
    }

pub loop-row-preserved : goal.loop-row-preserved
loop-row-preserved c =
    let before = row_before (directions c.args.keys.now) (key_trees c.args.keys.now) in
    let inputs = c.args.inputs.now.progress.items in
    let queues = c.args.self.now.list.items in
    let mid = c.loop-row.self.list.items in
    let after = c.move_row-in-loop-row.new.self.list.items in
    let rows = rows_of c.loop-row.block in
    let known = c.loop-row.invariant in
    let moved = c.in_ok-move_row-2.ensures.moved in
    let n = ap length moved.1 ∙ length-append rows (moved.0 ∷ []) in
    let so_far = known.rows in
    let was = known.left in
    let left = moved.2.left in
    record {
      count = moved.2.count ∙ known.count;
      keyed = c.in_ok-move_row-2.ensures.keyed;
      merges = subst (λ (z : List Row). Merges before (length inputs) inputs after z queues) (sym moved.1)
          (merges_then before inputs queues mid after (length inputs) rows (moved.0 ∷ []) known.merges
          (merges_one before inputs mid after (length inputs) c.in-Some-next.next moved.0
          (c.requires.count ∙ sym known.count) c.in-Some-next.ensures.ready c.in-Some-next.ensures.first
          moved.2));
      rows = omega (arith, n, so_far);
      room = c.in_ok-move_row-2.ensures.room ∙ known.room;
      left = omega (arith, n, was, left);
    }
