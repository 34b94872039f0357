use Rattle.std.proofs.Common.{◌≡◌, ◌-◌, ◌++◌, take, drop}
use Rattle.std.specs.Prelude.{flat_map}
use Rattle.aql_exec_graph.specs.Found.{steps_in, found_more}
use Rattle.aql_shard.specs.Datasets.{stock}
use Rattle.aql_local.specs.inner.EdgeSteps.{near_end, step_over}
use Rattle.aql_local.specs.inner.Lookups.{order_by}
use Rattle.aql_local.proofs.edge_steps.add_steps.Given as goal

abbrev pub invariant-loop-place : goal.invariant-loop-place
invariant-loop-place l = record {
  same : l.servers ≡ record l.fn.servers { counts = l.servers.counts };
  steps : steps_in l.steps.items ≡ steps_in l.fn.steps.items
      ++ flat_map (step_over l.way l.sought.id.now) (take (l.place - l.initial.place)
      (drop l.initial.place (order_by (near_end l.way) (stock l.fn.servers) l.coll.0)));
  tally : l.tally ≡ found_more (l.place - l.initial.place) l.fn.tally;
  counts : l.servers.counts ≡ found_more (l.place - l.initial.place) l.fn.servers.counts;
}
