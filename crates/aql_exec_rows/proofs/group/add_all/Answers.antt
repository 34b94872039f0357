use Rattle.std.proofs.Common.{◌<◌, ◌∙◌, ◌++◌, ◌∷◌, [], length, sym, subst, arith}
use Rattle.std.proofs.lemmas.List.{length-set}
use Rattle.aql_value.specs.View.{datums_in}
use Rattle.aql_aggregate.specs.Staged.{KeepsIn}
use Rattle.aql_exec_rows.proofs.Keeping.{one_taking, argument_at}
use Rattle.aql_exec_rows.proofs.group.add_all.Goals as goal

pub loop-at-preserved : goal.loop-at-preserved
loop-at-preserved c =
    let vs = c.args.arguments.now in
    let i = c.loop-at.at in
    let accs = c.loop-at.accumulators in
    let inside = c.loop-at-test.true in
    let count = c.loop-at.invariant.count in
    let same = c.requires in
    let within : i < length accs = omega (arith, inside, count, same) in
    let v = argument_at vs i c.index-arguments-at.result c.index-arguments-at.is inside in
    record {
      count = length-set accs i c.add.new.self ∙ count;
      kept = one_taking (datums_in vs) c.args.accumulators.now accs i c.index-accumulators-at.result c.add.new.self
          c.index-accumulators-at.is within
          (λ kind ts h. subst (λ t. KeepsIn c.add.new.self kind (ts ++ t ∷ [])) (sym v)
          (c.in_ok-add.ensures kind ts (subst (λ a. KeepsIn a kind ts) c.index-accumulators-at.is h)))
          c.loop-at.invariant.kept;
    }
