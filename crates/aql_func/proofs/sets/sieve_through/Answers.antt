use Rattle.std.proofs.Common.{◌+◌, map, drop, ap, sym, ◌∙◌}
use Rattle.aql_value.specs.View.{datum_of, datums_in}
use Rattle.aql_value.specs.Contents.{elements}
use Rattle.aql_func.specs.inner.Sieves.{sieve, sift}
use Rattle.aql_func.proofs.Steps.{left}
use Rattle.aql_func.proofs.sets.sieve_through.Goals as goal

pub loop-other-preserved : goal.loop-other-preserved
loop-other-preserved c =
    let p = c.args.present in
    let rest = datums_in (drop (c.loop-other.other-index + 1) c.args.others.now) in
    let old = datums_in c.loop-other.left.items in
    let other = c.other-item.result in
    let more = left c.args.others.now c.loop-other.other-index other c.loop-other-test.true c.other-item.is in
    let us = elements (datum_of other) in
    ap (sieve p (map elements rest)) (c.in_ok-left.ensures
    ∙ ap (λ vs. sift p (datums_in c.elements.result.now) (datums_in vs)) c.deref.ensures.value
    ∙ ap (λ us. sift p us old) c.elements.ensures)
    ∙ sym (ap (λ l. sieve p (map elements l) old) more)
    ∙ c.loop-other.invariant
