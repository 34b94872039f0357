use Rattle.std.proofs.Common.{◌∙◌, ◌<◌, ◌++◌, List, inr, slice_index_or, Some, length, refl, sym, ap, arith}
use Rattle.aql_exec.specs.Steps.{given as rows_given}
use Rattle.aql_exec.specs.Counting.{nothing}
use Rattle.aql_exec.specs.laws.Counted.{rises_none, prefixed_none}
use Rattle.aql_exec.specs.laws.Telling.{led_none}
use Rattle.aql_block.specs.Tables.{Table}
use Rattle.aql_exec_cluster.specs.Ports.{rows_at_port}
use Rattle.aql_exec_cluster.specs.Routings.{rows_to}
use Rattle.aql_exec_cluster.specs.Scattering.{port_rows}
use Rattle.aql_exec_cluster.proofs.Scattered.{gave_port, other_port, over_port, filled_gave, filled_other}
use Rattle.aql_exec_cluster.proofs.scatter.ScatterExecutor.turn.Goals as goal

pub returns-then-self-clause-leads : goal.returns-then-self-clause-leads
returns-then-self-clause-leads g c =
    let me = c.args.self.now in
    let stock = g.W.Surroundings.stock c.args._world.now in
    let left = port_rows me.kept me.filled in (
      nothing,
      rises_none g.W.Surroundings c.args._tally.now c.args._world.now,
      λ v within body s ins ins' lens eqs ends.
          led_none c.nothing.result c.nothing.ensures.skipped c.nothing.ensures.rows
          (λ r h. other_port me.coll me.routing stock me.shards.items c.args.port left left s ins' ins r lens eqs refl h),
    )

pub returns-then-self-clause-other_ports : goal.returns-then-self-clause-other_ports
returns-then-self-clause-other_ports g c =
    let me = c.args.self.now in
    let stock = g.W.Surroundings.stock c.args._world.now in
    let left = port_rows me.kept me.filled in (
      nothing,
      rises_none g.W.Surroundings c.args._tally.now c.args._world.now,
      λ v within p body s ins ins' r d b lens eqs ends h.
          (r, prefixed_none r, other_port me.coll me.routing stock me.shards.items p left left s ins' ins r lens eqs refl h),
    )

pub returns-then-port-len-clause-leads : goal.returns-then-port-len-clause-leads
returns-then-port-len-clause-leads g c =
    let me = c.args.self.now in
    let stock = g.W.Surroundings.stock c.args._world.now in
    let same = ap (λ z. port_rows me.kept z c.args.port) (sym c.in-Some.is) in (
      nothing,
      rises_none g.W.Surroundings c.args._tally.now c.args._world.now,
      λ v within body s ins ins' lens eqs ends.
          led_none c.nothing-then-port-len.result c.nothing-then-port-len.ensures.skipped
          c.nothing-then-port-len.ensures.rows (λ r h.
          other_port me.coll me.routing stock me.shards.items c.args.port (port_rows me.kept me.filled) (port_rows me.kept (Some c.in-Some.filled)) s
          ins' ins r lens eqs same h),
    )

pub returns-then-port-len-clause-other_ports : goal.returns-then-port-len-clause-other_ports
returns-then-port-len-clause-other_ports g c =
    let me = c.args.self.now in
    let stock = g.W.Surroundings.stock c.args._world.now in (
      nothing,
      rises_none g.W.Surroundings c.args._tally.now c.args._world.now,
      λ v within p body s ins ins' r d b lens eqs ends h. (
        r,
        prefixed_none r,
        other_port me.coll me.routing stock me.shards.items p (port_rows me.kept me.filled) (port_rows me.kept (Some c.in-Some.filled)) s ins' ins r
            lens
            eqs (ap (λ z. port_rows me.kept z p) (sym c.in-Some.is)) h,
      ),
    )

pub returns-in_default-clause-leads : goal.returns-in_default-clause-leads
returns-in_default-clause-leads g c = (
  nothing,
  rises_none g.W.Surroundings c.args._tally.now c.args._world.now,
  λ v within p body ins r ends h. (r, prefixed_none r, h),
)

pub returns-clause-leads : goal.returns-clause-leads
returns-clause-leads g c =
    let me = c.args.self.now in
    let stock = g.W.Surroundings.stock c.args._world.now in
    let after = c.next.new.self in
    let given = c.in_ok-step.ensures.rows in
    let test = c.if-port-len.false in
    let len = c.len.ensures in
    let ok = me.shards.ok.0 in
    let within : c.args.port < length me.shards.items = omega (arith, test, len, ok) in
    let target = c.target_at-target.result in
    let rows = filled_gave me.kept me.filled c.in-Some.filled after c.args.port
    (given.0 ++ rows_given c.in_ok-step.step) me.routing target c.in-Some.is c.in_ok-step.ensures.blocks given.2
    in (
      nothing,
      rises_none g.W.Surroundings c.args._tally.now c.args._world.now,
      λ v e body s ins ins' lens eqs ends.
          gave_port me.coll me.routing stock me.shards.items c.args.port (port_rows me.kept me.filled)
          (port_rows me.kept (Some after)) given.0 s ins' ins c.in_ok-step.step target c.requires.node.1
          (c.target_at-target.ensures.shard ∙ ap (λ xs. slice_index_or xs c.args.port 0) c.deref.ensures.value)
          (c.target_at-target.ensures.shards ∙ ap length c.deref.ensures.value) lens eqs within given.1 rows,
    )

pub returns-clause-done : goal.returns-clause-done
returns-clause-done g c done =
    let me = c.args.self.now in
    let stock = g.W.Surroundings.stock c.args._world.now in
    let after = c.next.new.self in
    let test = c.if-port-len.false in
    let len = c.len.ensures in
    let ok = me.shards.ok.0 in
    let within : c.args.port < length me.shards.items = omega (arith, test, len, ok) in
    let target = c.target_at-target.result in
    let none = ap (λ (z : List Table). rows_to me.routing target (rows_at_port z after.places.items c.args.port))
    c.in_ok-step.ensures.blocks ∙ c.in_ok-step.ensures.done done in
    inr (λ v first ex body ins ends r h.
    over_port me.coll me.routing stock me.shards.items c.args.port (port_rows me.kept (Some after)) ins r target
    c.requires.node.1
    (c.target_at-target.ensures.shard ∙ ap (λ xs. slice_index_or xs c.args.port 0) c.deref.ensures.value)
    (c.target_at-target.ensures.shards ∙ ap length c.deref.ensures.value) within none (ends 0 refl) h)

pub returns-clause-other_ports : goal.returns-clause-other_ports
returns-clause-other_ports g c =
    let me = c.args.self.now in
    let stock = g.W.Surroundings.stock c.args._world.now in
    let after = c.next.new.self in (
      nothing,
      rises_none g.W.Surroundings c.args._tally.now c.args._world.now,
      λ v within p body s ins ins' r d b lens eqs ends h. (
        r,
        prefixed_none r,
        other_port me.coll me.routing stock me.shards.items p (port_rows me.kept me.filled) (port_rows me.kept (Some after)) s ins' ins r lens eqs
            (filled_other me.kept me.filled c.in-Some.filled after p c.in-Some.is c.in_ok-step.ensures.blocks
            (c.in_ok-step.ensures.others p d)) h,
      ),
    )
