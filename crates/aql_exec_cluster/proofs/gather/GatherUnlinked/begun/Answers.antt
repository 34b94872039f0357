use Rattle.std.proofs.Common.{◌∙◌, nat_lt, length, ap}
use Rattle.aql_exec_cluster.specs.laws.Places.{is_below_lt}
use Rattle.aql_exec_cluster.proofs.gather.GatherUnlinked.begun.Goals as goal

pub returns : goal.returns
returns g c =
    ap (nat_lt c.args.input) c.len.ensures
    ∙ is_below_lt (length c.args.self.now.inputs.progress.items) c.args.input
