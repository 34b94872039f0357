use Rattle.std.proofs.Common.{◌≡◌, false}
use Rattle.aql_block.specs.Tables.{rows_of}
use Rattle.aql_exec.specs.laws.Telling.{only_input}
use Rattle.aql_exec.specs.laws.Handing.{taken}
use Rattle.aql_exec.proofs.mapped.MappedExecutor.take.Goals as goal

pub returns-clause-leads : goal.returns-clause-leads
returns-clause-leads g c v w p body d s0 s ins' ins t b r l0 l1 a e' e os ends h =
    let me = c.args.self.now in
    let first = only_input c.args._input c.requires.input in
    let has : me.has ≡ false = (rw first at c.requires.asked.1).2 in
    rw has (taken (g.M.RowMap.image me.by) c.args.step.skipped (rows_of c.args.step.block) s0 s d (ins' 0)
    (ins 0)
    t b r (rw (first, has) at l0) l1 a (rw first at e') (rw first at e) h)
