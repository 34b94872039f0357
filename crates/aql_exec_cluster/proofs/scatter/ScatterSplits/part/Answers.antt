use Rattle.std.proofs.Common.{◌∙◌, ◌<◌, length, slice_index_or, ap, sym, arith}
use Rattle.aql_exec_cluster.specs.Routings.{rows_to}
use Rattle.aql_exec_cluster.specs.Scattering.{port_rows}
use Rattle.aql_exec_cluster.proofs.Scattered.{part_is}
use Rattle.aql_exec_cluster.proofs.scatter.ScatterSplits.part.Goals as goal

pub returns : goal.returns
returns g c w body ins same none =
    let me = c.args.self.now in
    let shard = c.requires.shard in
    let l : c.args.shard < length me.shards.items = omega (arith, shard) in
    let target = c.target_at-target.result in
    let rows = c.in_ok-part.ensures
    ∙ sym (ap (λ z. rows_to me.routing target (port_rows me.kept z c.args.shard)) c.in-Some.is) in
    part_is me.coll me.routing (g.W.Surroundings.stock w) me.shards.items (g.W.Surroundings.stock c.args._world.now)
    c.args.shard (port_rows me.kept me.filled) ins _ target (sym same) c.requires.node.1
    (c.target_at-target.ensures.shard ∙ ap (λ xs. slice_index_or xs c.args.shard 0) c.deref.ensures.value)
    (c.target_at-target.ensures.shards ∙ ap length c.deref.ensures.value) l none rows
