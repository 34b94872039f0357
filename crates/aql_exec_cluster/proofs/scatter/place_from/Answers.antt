use Rattle.std.proofs.Common.{◌∙◌, sym, ap}
use Rattle.aql_exec_cluster.specs.Ports.{rows_after}
use Rattle.aql_exec_cluster.proofs.Scattered.{place_at_start}
use Rattle.aql_exec_cluster.proofs.scatter.place_from.Goals as goal

pub returns-in-None : goal.returns-in-None
returns-in-None c blocks =
    place_at_start blocks c.start.result c.start.ensures ∙ ap (rows_after blocks) (sym c.in-None.is)
