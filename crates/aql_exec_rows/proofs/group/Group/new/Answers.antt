use Rattle.std.proofs.Common.{◌≡◌, ◌++◌, ◌∷◌, [], take, get_or, length, ap, sym, subst, arith, length-append}
use Rattle.std.proofs.lemmas.List.{take_more, length-take}
use Rattle.aql_meaning.specs.declared.grouping.Stage.TheVariants.{Whole}
use Rattle.aql_aggregate.specs.declared.kinds.AggregateKind.TheVariants.{Count}
use Rattle.aql_aggregate.specs.declared.staged.StagedKind.{StagedKind}
use Rattle.aql_exec_rows.specs.GroupStates.{AllAccumulate}
use Rattle.aql_exec_rows.proofs.Keeping.{kept_push}
use Rattle.aql_exec_rows.proofs.group.Group.new.Goals as goal

pub loop-kind-preserved : goal.loop-kind-preserved
loop-kind-preserved c =
    let kinds = c.args.kinds.now in
    let i = c.loop-kind.kind-index in
    let accs = c.loop-kind.accumulators.items in
    let other : StagedKind = record { stage = Whole; kind = Count } in
    let kind = get_or kinds i other in
    let inside = c.loop-kind-test.true in
    let more = take_more kinds i other inside in
    let pushed = c.in_ok-push.ensures.items in
    let n = ap length pushed in
    let m = length-append accs (c.new.result ∷ []) in
    let count = c.loop-kind.invariant.count in
    let first = length-take i kinds in
    let few : length accs ≡ length (take i kinds) = omega (arith, count, first, inside) in
    record {
      count = omega (arith, n, m, count);
      kept = subst (λ ks. AllAccumulate ks c.push.new.self.items []) (sym more)
          (subst (λ as'. AllAccumulate (take i kinds ++ kind ∷ []) as' []) (sym pushed)
          (kept_push (take i kinds) accs kind c.new.result few c.new.ensures c.loop-kind.invariant.kept));
    }
