use Rattle.std.proofs.Common.{◌<◌, length, subst, arith}
use Rattle.std.proofs.lemmas.List.{length-set}
use Rattle.aql_block.specs.Tables.{rows_of}
use Rattle.aql_exec_cluster.specs.Gathering.{gives_gather}
use Rattle.aql_exec_cluster.specs.laws.Places.{said_of_some, of_some}
use Rattle.aql_exec_cluster.specs.laws.Taking.{taken_step}
use Rattle.aql_exec_cluster.proofs.Gathered.{gathered}
use Rattle.aql_exec_cluster.proofs.gather.GatherExecutor.take.Goals as goal

pub returns-clause-leads : goal.returns-clause-leads
returns-clause-leads g c =
    let me = c.args.self.now in
    let inputs = me.inputs.progress.items in
    let n = length inputs in
    let k = c.args.input in
    let rows = rows_of c.args.step.block in
    let test = c.if-input-len.false in
    let len = c.len.ensures in
    let l : k < n = omega (arith, test, len) in
    let asked = said_of_some n k _ l c.requires.asked in
    let skipped = asked.2.skipped in
    let offset = asked.1.0.0.0 in
    of_some n _ (λ some v w p body d s0 s ins' ins t b r l0 l1 a e' e os ends h.
    gathered n k (rows_of me.held) rows d ins' ins r l asked.1.1
    (taken_step rows s0 s d (ins' k) (ins k) t b l0 (omega (arith, l1, skipped, offset)) a e' e) os
    (subst (λ z. gives_gather z rows ins' r) (length-set inputs k c.args.step.progress) h))
