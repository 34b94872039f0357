use Rattle.std.proofs.Common.{◌∙◌, ◌≤◌, ⊎_elim, length, arith}
use Rattle.std.proofs.lemmas.Bool.{cases_lt}
use Rattle.std.proofs.lemmas.List.{get_or_past, length-set}
use Rattle.aql_block.specs.declared.calls.Progress.TheVariants.{HasMore}
use Rattle.aql_exec_cluster.proofs.Stands.{ready_more}
use Rattle.aql_exec_cluster.proofs.inputs.Inputs.begin.Goals as goal

pub loop-input-preserved : goal.loop-input-preserved
loop-input-preserved c = record {
  count = length-set _ _ _ ∙ c.loop-input.invariant.count;
  ready = ready_more c.loop-input.self.progress.items c.loop-input.input c.loop-input.invariant.ready;
}

pub returns-clause-ready : goal.returns-clause-ready
returns-clause-ready c k =
    let items = c.loop-input.self.progress.items in
    let count = c.loop-input.invariant.count in
    let n = c.len-input-end.ensures in
    let ok = c.args.self.now.progress.ok.0 in
    ⊎_elim (λ l. c.loop-input.invariant.ready k (omega (arith, l, count, n, ok)))
    (λ (l : length items ≤ k). get_or_past items k HasMore l) (cases_lt k (length items))
