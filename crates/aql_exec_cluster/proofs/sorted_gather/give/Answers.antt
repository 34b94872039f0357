use Rattle.std.proofs.Common.{◌≡◌, ◌∙◌, ◌++◌, List, length, append-nil, sym, ap, subst}
use Rattle.aql_plan.specs.View.{directions, key_trees}
use Rattle.aql_meaning.specs.Row.{Row}
use Rattle.aql_meaning.specs.AtRows.{row_before}
use Rattle.aql_block.specs.Tables.{rows_of}
use Rattle.aql_exec_cluster.specs.Queues.{Merges}
use Rattle.aql_exec_cluster.proofs.sorted_gather.give.Goals as goal

pub returns-then-call-gt0-clause-rows : goal.returns-then-call-gt0-clause-rows
returns-then-call-gt0-clause-rows c =
    let before = row_before (directions c.args.keys.now) (key_trees c.args.keys.now) in
    let inputs = c.args.inputs.now.progress.items in
    let rows = rows_of c.in_ok-block.block in
    let all : rows ++ rows_of c.empty.result ≡ rows =
    ap (λ z. rows ++ z) (ap rows_of c.empty.ensures) ∙ append-nil rows in (
      rows,
      sym (c.from.ensures ∙ c.len.ensures),
      subst (λ (z : List Row). Merges before (length inputs) inputs c.merge.new.self.list.items z
          c.args.queues.now.list.items) (sym all) c.in_ok-block.ensures.merges,
    )
