use Rattle.std.proofs.Common.{◌≡◌, ◌<◌, ◌≤◌, ◌+◌, ◌∙◌, suc, drop, length, true, false, sym, ap, subst, arith, Some}
use Rattle.std.specs.Str.{bytes_eq}
use Rattle.std.proofs.Math.ListN.{drop_of_length-le}
use Rattle.aql_value.specs.Attributes.{attribute}
use Rattle.aql_value.specs.Fields.{fields_in}
use Rattle.aql_value.specs.View.{datum_of}
use Rattle.aql_value.specs.declared.values.Member.{Member}
use Rattle.aql_value.proofs.Among.{after, here}
use Rattle.aql_value.proofs.attributes.value_among.Goals as goal

pub returns-then-eq : goal.returns-then-eq
returns-then-eq c =
    let es = c.args.entries.now in
    let i = c.loop-entry.entry-index in
    let d = c.entry-item.result in
    let k = c.args.name.now in
    let lt : i < length es = omega (arith, c.loop-entry-test.true) in
    let name = c.as_str.ensures ∙ ap (λ (m : Member). m.name) c.entry-item.is in
    let named = subst (λ x. bytes_eq x k ≡ true) name (sym c.eq.ensures ∙ c.if-eq.true) in
    sym (c.loop-entry.invariant ∙ here k es i d lt named
    ∙ ap (λ (m : Member). Some (datum_of m.value)) (sym c.entry-item.is))

pub loop-entry-preserved : goal.loop-entry-preserved
loop-entry-preserved c =
    let es = c.args.entries.now in
    let i = c.loop-entry.entry-index in
    let d = c.entry-item.result in
    let k = c.args.name.now in
    let lt : i < length es = omega (arith, c.loop-entry-test.true) in
    let name = c.as_str.ensures ∙ ap (λ (m : Member). m.name) c.entry-item.is in
    let other = subst (λ x. bytes_eq x k ≡ false) name (sym c.eq.ensures ∙ c.if-eq.false) in
    let next : suc i ≡ i + 1 = omega arith in
    subst (λ n. attribute k (fields_in es) ≡ attribute k (fields_in (drop n es))) next
    (c.loop-entry.invariant ∙ after k es i d lt other)

pub returns : goal.returns
returns c =
    let es = c.args.entries.now in
    let k = c.args.name.now in
    let end : length es ≤ c.loop-entry.entry-index = omega (arith, c.loop-entry-test.false) in
    sym (c.loop-entry.invariant ∙ ap (λ ms. attribute k (fields_in ms)) (drop_of_length-le es end))
