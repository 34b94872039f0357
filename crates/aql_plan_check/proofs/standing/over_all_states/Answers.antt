-- States of the same, or of others.
use Rattle.std.proofs.Common.{◌∙◌, sym, refl, true≢false}
use Rattle.aql_plan_check.proofs.Collected.{are_states, no_states}
use Rattle.aql_plan_check.proofs.standing.over_all_states.Goals as goal

pub returns-then-same_states : goal.returns-then-same_states
returns-then-same_states c =
    (are_states c.args.states c.args.all (c.same_states.ensures.0 c.if-same_states.true), refl)

pub returns-else-same_states : goal.returns-else-same_states
returns-else-same_states c = no_states c.args.states c.args.all c.requires.plain c.requires.known
    (λ d. true≢false (sym (c.same_states.ensures.1 d) ∙ c.if-same_states.false))
