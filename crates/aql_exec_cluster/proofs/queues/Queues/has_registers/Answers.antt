use Rattle.std.proofs.Common.{rules, ◌≡◌, ◌∙◌, sym}
use Rattle.aql_exec_cluster.proofs.Sorted.{registers_are}
use Rattle.aql_exec_cluster.proofs.queues.Queues.has_registers.Goals as goal

pub returns : goal.returns
returns c e =
    let same : c.registers.result.now ≡ c.args.registers.now = search rules in
    registers_are c.args.registers.now c.args.self.now.list.items c.args.at c.index.result.now c.requires
    c.index.ensures (sym c.registers.ensures ∙ same)
