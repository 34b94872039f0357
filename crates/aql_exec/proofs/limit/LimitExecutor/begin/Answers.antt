use Rattle.std.proofs.Common.{◌++◌, refl, ap, ◌∙◌, arith}
use Rattle.aql_meaning.specs.Clauses.{limit_rows}
use Rattle.aql_block.specs.Tables.{rows_of}
use Rattle.aql_exec.specs.Counting.{nothing}
use Rattle.aql_exec.proofs.limit.LimitExecutor.begin.Goals as goal

pub returns-clause-makes : goal.returns-clause-makes
returns-clause-makes g c w p body ins r port h =
    let me = c.args.self.now in (
      nothing,
      (h.0 ∙ ap (λ z. limit_rows me.offset me.count (rows_of z ++ (ins 0).rows)) c.empty.ensures, λ k. refl),
      λ l. (refl, refl, refl),
      λ k. (let n = h.1 k in omega (arith, n)),
    )
