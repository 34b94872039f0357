use Rattle.std.proofs.Common.{◌≡◌, ◌++◌, ◌∷◌, [], length, map, ap, arith, length-append}
use Rattle.aql_value.specs.View.{datum_of, datums_in}
use Rattle.aql_exec_rows.specs.GroupStates.{result_of}
use Rattle.aql_exec_rows.proofs.Finishing.{one_finished}
use Rattle.aql_exec_rows.proofs.groups.Groups.finish.Goals as goal

pub loop-key-preserved : goal.loop-key-preserved
loop-key-preserved c =
    let key = c.in-Some.key in
    let group = c.in-Some-pop.group in
    let finished = c.in_ok-finish-in-Some-pop.field-0 in
    let left = c.pop.new.self.items in
    let before = c.loop-key.invariant in
    let step = c.in-Some.ensures.steps in
    let popped : c.loop-key.kept.items ≡ left ++ group ∷ [] = c.in-Some-pop.ensures.items in
    let pushed : c.push.new.self.items ≡ c.loop-key.all.items ++ finished ∷ [] =
    c.in_ok-push-in-Some-pop.ensures.items in
    let n = ap length popped in
    let m = length-append left (group ∷ []) in
    let i = ap length pushed in
    let j = length-append c.loop-key.all.items (finished ∷ []) in
    let k = ap length step in
    let paired = before.paired in
    let count = before.count in
    record {
      paired = omega (arith, n, m, k, paired);
      count = omega (arith, n, m, i, j, count);
      results = λ kinds into rows a. one_finished kinds into rows (datum_of key) (datums_in c.next.new.self)
          (datums_in c.loop-key.key-iterator) group left c.loop-key.kept.items c.loop-key.all.items
          c.push.new.self.items finished
          (map (result_of into kinds rows) (datums_in c.args.self.keys.keys)) (ap datums_in step) popped pushed
          c.in_ok-finish-in-Some-pop.ensures (before.results kinds into rows a);
    }
