-- The later passes are those of one place, and after them those of a cluster.
use Rattle.std.proofs.Common.{◌∙◌, ◌++◌, List, ap, sym, subst}
use Rattle.aql_plan.specs.declared.rules.RuleName.{RuleName}
use Rattle.aql_plan.specs.View.{plan_tree}
use Rattle.aql_opt.specs.Chosen.{AfterRules, local_rules, cluster_rules, later_rules}
use Rattle.aql_opt.specs.laws.ClusterTurns.{joined}
use Rattle.aql_opt.specs.laws.Finished.{finished_through, still_lone}
use Rattle.aql_opt.proofs.driver.finish.Goals as goal

pub returns-clause-runs : goal.returns-clause-runs
returns-clause-runs c =
    let facts = c.args.facts.now in
    let first = c.in_ok-plan.field-0 in
    let last = c.in_ok-last.last in
    subst (λ (names : List RuleName). AfterRules facts c.args.rules.now (plan_tree c.args.candidate)
    later_rules (plan_tree last.plan) names)
    (sym (c.in_ok-add_names.ensures ∙ ap (λ xs. first.applied ++ xs) c.as_slice.ensures))
    (joined facts c.args.rules.now (plan_tree c.args.candidate) (plan_tree first.plan) (plan_tree last.plan)
    local_rules cluster_rules first.applied last.applied c.in_ok-plan.ensures.runs c.in_ok-last.ensures.runs)

pub returns-clause-finished : goal.returns-clause-finished
returns-clause-finished c =
    let first = c.in_ok-plan.ensures in
    let last = c.in_ok-last.ensures in
    finished_through c.args.facts.now (plan_tree c.args.candidate) (plan_tree c.in_ok-plan.field-0.plan)
    (plan_tree c.in_ok-last.last.plan)
    (record { refines = first.refines; whole = first.whole; sets = first.sets })
    (record {
      refines = last.refines;
      well_formed = last.well_formed;
      sets = last.sets;
      on_shards = last.on_shards;
      alone = still_lone c.args.facts.now (plan_tree c.in_ok-plan.field-0.plan)
          (plan_tree c.in_ok-last.last.plan) first.whole.1 last.alone;
    })
