use Rattle.std.proofs.Common.{◌∙◌, ap}
use Rattle.aql_shard.specs.Known.{facts_of}
use Rattle.aql_local.specs.inner.EdgeSteps.{near_end}
use Rattle.aql_local.specs.inner.Lookups.{index_by}
use Rattle.aql_local.proofs.Looked.{is_index}
use Rattle.aql_local.proofs.Ways.{edges_have}
use Rattle.aql_local.proofs.edge_steps.step_at.Goals as goal

pub indexed-edge-requires-clause-index : goal.indexed-edge-requires-clause-index
indexed-edge-requires-clause-index c =
    let s = c.args.servers.now in
    is_index s.servers s.held c.args.coll.0 (near_end c.args.way) c.index_by-index.result
    (c.index_by-index.ensures ∙ ap index_by c.near_end.ensures)
    (edges_have c.args.way (facts_of s.servers s.held) c.args.coll.0 c.requires.edges)
