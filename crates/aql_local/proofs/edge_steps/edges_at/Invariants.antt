use Rattle.std.proofs.Common.{◌≡◌, take}
use Rattle.std.specs.Prelude.{IsPermutation}
use Rattle.aql_meaning.specs.Paths.{steps_from}
use Rattle.aql_plan.specs.Runs.{edges_in}
use Rattle.aql_exec_graph.specs.Found.{numbers, steps_in, found_more, edges_found}
use Rattle.aql_shard.specs.Datasets.{stock}
use Rattle.aql_local.proofs.edge_steps.edges_at.Given as goal

abbrev pub invariant-loop-coll : goal.invariant-loop-coll
invariant-loop-coll l =
    let es = edges_in (stock l.fn.servers).db (numbers (take l.coll-index l.collections)) in
    record {
      same : l.servers ≡ record l.fn.servers { counts = l.servers.counts };
      steps : IsPermutation (steps_from l.direction es l.id) (steps_in l.steps.items);
      tally : l.tally ≡ found_more (edges_found l.direction es l.id) l.fn.tally;
      counts : l.servers.counts ≡ found_more (edges_found l.direction es l.id) l.fn.servers.counts;
    }
