use Rattle.std.proofs.Common.{◌≡◌, ◌++◌, ◌∷◌, [], ◌+◌, take, sym, ap, ◌∙◌, get_or, arith}
use Rattle.std.specs.List.{list_any}
use Rattle.aql_index.specs.inner.Zones.{lone_zone, in_zone}
use Rattle.std.proofs.lemmas.List.{map_more, take_all}
use Rattle.aql_value.specs.View.{datum_of, datums_in}
use Rattle.aql_index.proofs.Spread.{found_more, found_same}
use Rattle.aql_index.proofs.spans.find_each.Goals as goal
use Rattle.aql_index.proofs.spans.find_each.Goals.{then-span+in_ok-push, else-span}

pub loop-element-preserved : goal.loop-element-preserved
loop-element-preserved c =
    let v = c.element-item.result in
    let more : datums_in (take (c.loop-element.element-index + 1) c.args.elements.now)
    ≡ datums_in (take c.loop-element.element-index c.args.elements.now) ++ datum_of v ∷ [] =
    map_more datum_of c.args.elements.now c.loop-element.element-index v c.loop-element-test.true
    ∙ ap (λ x. datums_in (take c.loop-element.element-index c.args.elements.now) ++ datum_of x ∷ [])
    (sym c.element-item.is) in
    elim c.if-span.branch [
      | then-span+in_ok-push w ↦ found_more c.args.entries.now (datums_in c.args.equal.now) _ _ (datum_of v)
          more c.loop-element.spans.items c.span_of-span.result c.span_of-span.ensures
          c.loop-element.invariant _ w.if-span.true
          (ap (λ s. s.items) w.spans-is ∙ w.in_ok-push.ensures.items)
      | else-span w ↦ found_same c.args.entries.now (datums_in c.args.equal.now) _ _ (datum_of v)
          more c.loop-element.spans.items c.span_of-span.result c.span_of-span.ensures
          c.loop-element.invariant _ w.if-span.false
          (ap (λ s. s.items) w.spans-is)
    ]

pub returns-clause-all : goal.returns-clause-all
returns-clause-all c = λ k d l. c.loop-element.invariant.all k d l
    ∙ ap (λ vs. list_any
    (λ v. in_zone (lone_zone v) (datums_in c.args.equal.now) (get_or c.args.entries.now k d).keys)
    (datums_in vs))
    (take_all c.loop-element.element-index c.args.elements.now (omega arith))
