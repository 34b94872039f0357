use Rattle.std.proofs.Common.{◌∙◌, length, sym, ap}
use Rattle.aql_exec_cluster.proofs.Sorted.{left_read}
use Rattle.aql_exec_cluster.proofs.queues.Queues.len_at.Goals as goal

pub returns : goal.returns
returns c =
    c.len.ensures
    ∙ ap length (sym (left_read c.args.self.now.list.items c.args.input c.index.result.now c.requires
    c.index.ensures))
