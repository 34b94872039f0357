use Rattle.aql_opt.specs.Chosen.{switched_off}
use Rattle.aql_opt.proofs.driver.run_rule.Goals as goal

pub returns-then-not-is_enabled-clause-runs : goal.returns-then-not-is_enabled-clause-runs
returns-then-not-is_enabled-clause-runs c = switched_off (λ on. (
    let found = c.is_enabled.ensures.1 on in
    let lacking = c.if-not-is_enabled.true in absurd (cc)))
