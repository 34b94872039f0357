use Rattle.std.proofs.Common.{refl, arith}
use Rattle.aql_exec.specs.Counting.{nothing}
use Rattle.aql_block.specs.Rows.{row_of}
use Rattle.aql_exec.proofs.mapped.MappedExecutor.begin.Goals as goal

pub returns-clause-makes : goal.returns-clause-makes
returns-clause-makes g c w p body ins r port h = (
  nothing,
  rw h.0 (g.met.M.RowMap.maps c.args.self.now.by (g.W.Surroundings.stock w) (row_of c.args._start.now) (ins 0).rows),
  λ l. (refl, refl, refl),
  λ k. (let n = h.1 k in omega (arith, n)),
)
