use Rattle.std.proofs.Common.{◌∙◌, ◌<◌, ◌+◌, ◌-◌, sym, ap, arith, get_or, take}
use Rattle.std.proofs.lemmas.List.{length-take}
use Rattle.aql_index.specs.inner.Places.{no_entry}
use Rattle.aql_index.proofs.Grouped.{agreed, goes_on, starts, few_alike}
use Rattle.aql_index.proofs.groups.group_to.Goals as goal

pub overflow_add-result : goal.overflow_add-result
overflow_add-result c =
    let here : 0 < c.args.at = omega arith in
    let last = get_or c.args.entries.now (c.args.at - 1) no_entry in
    let before = c.requires.before here in
    let few = few_alike c.args.width (take c.args.at c.args.entries.now) last in
    let most = length-take c.args.at c.args.entries.now in
    omega (arith, before, few, most, c.requires.few, c.requires.place)

pub returns-then-agree : goal.returns-then-agree
returns-then-agree c =
    let here : 0 < c.args.at = omega arith in
    let same = agreed c.args.width c.args.entries.now c.requires.sorted c.args.at here c.requires.place
    c.agree.result _ _ _ _ c.as_slice.ensures c.as_slice-2.ensures c.agree.ensures in
    ap (λ n. n + 1) (c.requires.before here
    ∙ sym (goes_on c.args.width c.args.entries.now c.requires.sorted c.args.at here c.requires.place
    (same ∙ c.if-agree.true)))

pub returns-else-agree : goal.returns-else-agree
returns-else-agree c =
    let here : 0 < c.args.at = omega arith in
    let same = agreed c.args.width c.args.entries.now c.requires.sorted c.args.at here c.requires.place
    c.agree.result _ _ _ _ c.as_slice.ensures c.as_slice-2.ensures c.agree.ensures in
    ap (λ n. n + 1)
    (sym (starts c.args.width c.args.entries.now c.requires.sorted c.args.at here c.requires.place
    (same ∙ c.if-agree.false)))
