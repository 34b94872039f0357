use Rattle.std.proofs.Common.{◌∙◌, ◌++◌, [], append-nil, refl, sym, ap}
use Rattle.aql_block.specs.Tables.{rows_of}
use Rattle.aql_exec_cluster.specs.Shared.{rows_at}
use Rattle.aql_exec_cluster.specs.Routings.{rows_to}
use Rattle.aql_exec_cluster.proofs.scatter.next_rows.Goals as goal

pub returns-then-call-gt0-clause-rows : goal.returns-then-call-gt0-clause-rows
returns-then-call-gt0-clause-rows c =
    let sent = rows_of c.in_ok-rows.rows in
    let left = rows_to c.args.routing.now c.args.target (rows_at c.args.blocks.now c.copy_sent.new.place) in
    let none = ap rows_of c.empty.ensures in (
      sent,
      sym (c.from-skipped.ensures ∙ c.len.ensures),
      c.in_ok-rows.ensures.rows
          ∙ ap (λ z. z ++ left) (sym (ap (λ z. sent ++ z) none ∙ append-nil sent)),
    )

pub returns-clause-rows : goal.returns-clause-rows
returns-clause-rows c = ([], refl, c.in_ok-block.ensures.rows)
