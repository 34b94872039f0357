use Rattle.std.proofs.Common.{◌∙◌, ◌<◌, length, ap, arith}
use Rattle.std.specs.Prelude.{slice_set}
use Rattle.std.proofs.lemmas.List.Edits.{map_over_more}
use Rattle.aql_exec_cluster.specs.Standing.{after_answer}
use Rattle.aql_exec_cluster.proofs.inputs.Inputs.wake.Goals as goal

pub loop-input-preserved : goal.loop-input-preserved
loop-input-preserved c =
    let old = c.args.self.now.progress.items in
    let items = c.loop-input.self.progress.items in
    let i = c.loop-input.input in
    let test = c.loop-input-test.true in
    let n = c.len-input-end.ensures in
    let ok = c.args.self.now.progress.ok.0 in
    let l : i < length old = omega (arith, test, n, ok) in
    ap (λ p. slice_set items i p) c.awake.ensures
    ∙ map_over_more after_answer old items i c.index.result.now l c.loop-input.invariant c.index.ensures
