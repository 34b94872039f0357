use Rattle.std.proofs.Common.{ap, sym, ◌∙◌, take}
use Rattle.aql_value.specs.View.{datum_of, datums_in}
use Rattle.aql_func.specs.Lists.{firsts}
use Rattle.aql_func.proofs.Steps.{done}
use Rattle.aql_func.specs.laws.Firsts.{noted, firsts_push}
use Rattle.aql_func.proofs.lists.distinct_set.Goals as goal

pub loop-value-preserved : goal.loop-value-preserved
loop-value-preserved c =
    let vs = c.args.values.now in
    let before = take c.loop-value.value-index vs in
    let one_more = done vs c.loop-value.value-index c.value-item.result c.loop-value-test.true
    c.value-item.is in
    c.in_ok-note.ensures.keys
    ∙ ap (λ ks. noted ks (datum_of c.value-item.result)) c.loop-value.invariant
    ∙ sym (ap firsts one_more ∙ firsts_push (datums_in before) (datum_of c.value-item.result))
