use Rattle.std.proofs.Common.{length, ap, ◌∙◌, arith}
use Rattle.aql_engine.specs.Run.{rows_in}
use Rattle.aql_exec_cluster.specs.Shared.{rows_from}
use Rattle.aql_exec_cluster.proofs.Sharing.{at_start}
use Rattle.aql_exec_cluster.proofs.Parts.{all_few}
use Rattle.aql_exec_cluster.proofs.part.PartFounded.begin_over.Goals as goal

pub returns-clause-makes : goal.returns-clause-makes
returns-clause-makes g c w p body ins r port h =
    let place = c.start-self.result in
    let start = c.start-self.ensures in
    let same = at_start c.args.part.now.value c.in_ok-clone.field-0.value place.block place.row
    c.in_ok-clone.ensures.cases start.0 start.1 in
    (h.0 ∙ same, h.1)

pub returns-clause-budget : goal.returns-clause-budget
returns-clause-budget g c w f =
    let place = c.start-self.result in
    let start = c.start-self.ensures in
    let bs = c.in_ok-clone.field-0.value in
    let same = ap length (at_start c.args.part.now.value bs place.block place.row c.in_ok-clone.ensures.cases
    start.0 start.1) in
    let list = ap (λ z. length (rows_in z)) c.deref.ensures in
    let few = c.len-blocks.ensures.few in
    all_few (length (rows_from bs place.block place.row)) c.len-blocks.result (omega (arith, same, list, few))
    c.len-blocks.type_inv
