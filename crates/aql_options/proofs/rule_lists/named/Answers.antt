use Rattle.std.proofs.Common.{◌≡◌, ◌∙◌, ap, map}
use Rattle.aql_options.proofs.Lists.{none_named, named_more}
use Rattle.aql_options.proofs.rule_lists.named.Goals as goal

pub returns-in_default : goal.returns-in_default
returns-in_default c =
    none_named c.args.list.now c.as_slice-name-items.result.now c.loop-name.name-index _ c.loop-name-test.true
    (ap (map (λ p. p.now)) c.as_slice-name-items.ensures.value ∙ c.in_ok-names.ensures) c.in_default.ensures

pub loop-name-preserved : goal.loop-name-preserved
loop-name-preserved c =
    named_more c.as_slice-name-items.result.now c.loop-name.name-index _ c.loop-name-test.true
    c.loop-name.rules c.with-rules.result c.in-Some.rule c.in-Some.ensures c.loop-name.invariant
    c.with-rules.ensures
