use Rattle.std.proofs.Common.{◌≡◌, ◌∙◌, ap, inr}
use Rattle.aql_top.specs.Output.{run_text}
use Rattle.aql_top.proofs.Answering.{found_entry, added_entry, entry_prints}
use Rattle.aql_top.proofs.output.run_on.Goals as goal

pub unreachable-requires : goal.unreachable-requires
unreachable-requires g c =
    let found = found_entry _ _ _ _ _ c.in_ok-run.ensures.ok c.held.result.now c.held-2.result.now
    c.len-before.result c.held.ensures c.len-before.ensures c.held-2.ensures _ c.in-None.ensures in
    absurd (cc)

pub returns-clause-added : goal.returns-clause-added
returns-clause-added g c =
    let added = added_entry c.args.settings.now _ c.args.plan _ _ c.in_ok-run.ensures.ok _ _
    c.new-schedule.ensures c.in_ok-run.ensures.picked in
    let found = found_entry _ _ _ _ _ added.adds c.held.result.now c.held-2.result.now
    c.len-before.result c.held.ensures c.len-before.ensures c.held-2.ensures _ c.in-Some.ensures in
    let same : c.in-Some.ran.now ≡ added.adds.ran = cc in
    entry_prints c.args.settings.now _ c.args.plan _ _ added c.in-Some.ran.now same (λ text. text.items)
    c.run_text.result c.run_text.ensures

pub returns-clause-at_most : goal.returns-clause-at_most
returns-clause-at_most g c =
    inr (added_entry c.args.settings.now _ c.args.plan _ _ c.in_ok-run.ensures.ok _ _
    c.new-schedule.ensures c.in_ok-run.ensures.picked)
