use Rattle.std.proofs.Common.{[], ◌∙◌, false, ap, sym, subst}
use Rattle.aql_tree.specs.View.{query_tree}
use Rattle.aql_plan.specs.declared.facts.Facts.{Facts}
use Rattle.aql_plan.specs.Facts.{Meets}
use Rattle.aql_plan.specs.View.{plan_tree}
use Rattle.aql_plan.specs.WellFormed.{IsWellFormed}
use Rattle.aql_rewrite.specs.Placed.{IsWhole}
use Rattle.aql_shard.specs.Holding.{Holding}
use Rattle.aql_shard.specs.Datasets.{stock}
use Rattle.aql_opt.specs.Chosen.{cost_of}
use Rattle.aql_opt.specs.laws.FirstPlan.{first_whole}
use Rattle.aql_top.specs.Reading.{IsWritten, IsScoped}
use Rattle.aql_top.proofs.Answering.{resolved, has_query, is_planned, chosen_answers}
use Rattle.aql_top.proofs.planning.plan_query.Goals as goal

pub initial_plan-requires : goal.initial_plan-requires
initial_plan-requires c =
    let scoped = c.in_ok-scoped.scoped in
    let tree = query_tree scoped.query in
    let script = c.args.script in
    let is_scoped = subst (λ text. IsScoped script.catalog text tree scoped.names) c.as_str.ensures
    c.in_ok-scoped.ensures.query in
    let are = c.in_ok-facts.ensures.known ∙ ap (λ (h : Holding). (stock h).facts) c.in_ok-servers.ensures in
    resolved c.scoping_gives_it.ensures c.text_limits_end.ensures c.facts_fit.ensures c.args.settings.now script tree
    scoped.names is_scoped c.recall_limits.ensures c.in_ok-facts.facts are

pub optimise-requires : goal.optimise-requires
optimise-requires c =
    let facts = c.in_ok-facts.facts in
    let first = c.in_ok-plan.ensures.first in
    subst (IsWhole false facts) (sym first)
    (first_whole facts (query_tree c.in_ok-scoped.scoped.query)
    (subst (IsWellFormed facts []) first c.in_ok-plan.ensures.well_formed))

pub returns-clause-query : goal.returns-clause-query
returns-clause-query c =
    let scoped = c.in_ok-scoped.scoped in
    let tree = query_tree scoped.query in
    let script = c.args.script in
    let is_scoped = subst (λ text. IsScoped script.catalog text tree scoped.names) c.as_str.ensures
    c.in_ok-scoped.ensures.query in
    has_query c.args.settings.now script tree scoped.names is_scoped c.in_ok-facts.facts (plan_tree c.in_ok-plan.plan)
    c.in_ok-plan.ensures.first

pub returns-clause-ready : goal.returns-clause-ready
returns-clause-ready c =
    let scoped = c.in_ok-scoped.scoped in
    let tree = query_tree scoped.query in
    let script = c.args.script in
    let is_scoped = subst (λ text. IsScoped script.catalog text tree scoped.names) c.as_str.ensures
    c.in_ok-scoped.ensures.query in
    let facts = c.in_ok-facts.facts in
    let first = plan_tree c.in_ok-plan.plan in
    let chosen = plan_tree c.in_ok-chosen.chosen.plan in
    let holds = c.in_ok-servers.ensures in
    let are = c.in_ok-facts.ensures.known ∙ ap (λ (h : Holding). (stock h).facts) holds in
    let meets = subst (λ (h : Holding). Meets facts (stock h).db) holds c.in_ok-facts.ensures.meets in
    record {
      planned = is_planned c.args.settings.now script tree scoped.names is_scoped facts first
          c.in_ok-plan.ensures.first are chosen c.in_ok-chosen.chosen.applied c.in_ok-chosen.ensures.chosen;
      known_facts = are;
      cost = c.in_ok-chosen.ensures.cost ∙ ap (λ f. cost_of f chosen) are;
      servers_are = holds;
      can_run = subst (λ f. IsWellFormed f [] chosen) are c.in_ok-chosen.ensures.well_formed;
      answers = chosen_answers c.args.settings.now script tree scoped.names is_scoped facts first c.in_ok-plan.ensures.first
          meets are
          (λ q written. c.in_ok-scoped.ensures.answers q
          (subst (λ text. IsWritten text q) (sym c.as_str.ensures) written))
          chosen c.in_ok-chosen.ensures.refines;
    }
