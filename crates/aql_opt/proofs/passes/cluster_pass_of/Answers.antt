use Rattle.std.proofs.Common.{◌≡◌}
use Rattle.aql_opt.proofs.Returned.{other_rule}
use Rattle.aql_opt.proofs.passes.cluster_pass_of.Goals as goal

pub returns-in-DistributeInCluster-clause-on_shards : goal.returns-in-DistributeInCluster-clause-on_shards
returns-in-DistributeInCluster-clause-on_shards c =
    other_rule _ _ c.args.rule c.run_distribute_pass.result
    (λ e. let same = c.in-DistributeInCluster.is in absurd (cc)) c.run_distribute_pass.ensures.on_shards

pub returns-in-RestrictToSingleShard-clause-on_shards : goal.returns-in-RestrictToSingleShard-clause-on_shards
returns-in-RestrictToSingleShard-clause-on_shards c =
    other_rule _ _ c.args.rule c.run_restrict_pass.result
    (λ e. let same = c.in-RestrictToSingleShard.is in absurd (cc)) c.run_restrict_pass.ensures.on_shards

pub returns-in-CollectInCluster-clause-on_shards : goal.returns-in-CollectInCluster-clause-on_shards
returns-in-CollectInCluster-clause-on_shards c =
    other_rule _ _ c.args.rule c.run_collect_pass.result
    (λ e. let same = c.in-CollectInCluster.is in absurd (cc)) c.run_collect_pass.ensures.on_shards

pub returns-in-DistributeSortToCluster-clause-on_shards :
    goal.returns-in-DistributeSortToCluster-clause-on_shards
returns-in-DistributeSortToCluster-clause-on_shards c =
    other_rule _ _ c.args.rule c.run_sort_pass.result
    (λ e. let same = c.in-DistributeSortToCluster.is in absurd (cc)) c.run_sort_pass.ensures.on_shards
