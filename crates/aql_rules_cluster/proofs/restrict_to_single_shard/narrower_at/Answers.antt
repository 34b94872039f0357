use Rattle.std.proofs.Common.{◌∙◌, sym, option_map}
use Rattle.aql_plan.specs.View.{node_tree, plan_tree}
use Rattle.aql_rules_cluster.specs.inner.Bottoms.{bottom_view}
use Rattle.aql_rules_cluster.proofs.ShardsFound.{narrows_there}
use Rattle.aql_rules_cluster.proofs.restrict_to_single_shard.narrower_at.Goals as goal

pub returns : goal.returns
returns c = narrows_there c.args.facts.now (plan_tree c.args.plan.now) (bottom_view c.in-Some.bottom)
    (option_map node_tree c.in_ok-found.found) c.in-Some.ensures
    (sym c.none_of_none.ensures ∙ c.if-not-none_of_none.false) c.in_ok-found.ensures
