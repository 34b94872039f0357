use Rattle.std.proofs.Common.{◌∙◌, ◌∷◌, [], length, length-append, ap, arith}
use Rattle.aql_exec_cluster.specs.Queues.{left_at}
use Rattle.aql_exec_cluster.proofs.Sorted.{empty_push}
use Rattle.aql_exec_cluster.proofs.queues.Queues.new.Goals as goal

pub loop-input-preserved : goal.loop-input-preserved
loop-input-preserved c =
    let pushed = c.in_ok-push.ensures.items in
    let n = ap length pushed ∙ length-append c.loop-input.list.items (c.empty.result ∷ []) in
    let count = c.loop-input.invariant.count in
    record {
      count = omega (arith, n, count);
      none_left = λ j. ap (λ z. left_at z j) pushed
          ∙ empty_push c.loop-input.list.items c.empty.result c.empty.ensures
          c.loop-input.invariant.none_left j;
    }
