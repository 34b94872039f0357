use Rattle.std.proofs.Common.{[], inr, refl, ap}
use Rattle.aql_block.specs.Tables.{rows_of}
use Rattle.aql_exec.specs.Rests.{sent_on, opened_on, closed_on}
use Rattle.aql_exec_rows.proofs.collect.GroupRowsTransform.begin.Goals as goal

pub returns-clause-left : goal.returns-clause-left
returns-clause-left g c w rows r h =
    let holds = rw c.deref.ensures.value at c.in_ok-self-3.ensures.held in
    let out = h.0 [] (holds, inr refl) in
    (λ l. (h.1 (sent_on l), h.1 (opened_on l), h.1 (closed_on l)), (rw (c.in_ok-self-2.ensures.start, ap rows_of c.empty.ensures) at out, h.1))
