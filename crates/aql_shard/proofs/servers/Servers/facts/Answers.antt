use Rattle.std.proofs.Common.{ap, subst, sym, ◌∙◌}
use Rattle.aql_doc.specs.Held.{database}
use Rattle.aql_plan.specs.declared.facts.Facts.{Facts}
use Rattle.aql_plan.specs.Facts.{Meets}
use Rattle.aql_shard.specs.Holding.{Holding}
use Rattle.aql_shard.specs.Known.{facts_of}
use Rattle.aql_shard.specs.laws.Split.{split_meets}
use Rattle.aql_shard.proofs.servers.Servers.facts.Goals as goal

pub returns-clause-meets : goal.returns-clause-meets
returns-clause-meets c =
    let me = c.args.self.now in
    let are = c.in_ok-facts.ensures ∙ ap (λ (h : Holding). facts_of h.servers h.held) c.self.view_is in
    subst (λ (f : Facts). Meets f (database me.held)) (sym are) (split_meets me.servers me.held)
