use Rattle.std.proofs.Common.{length, ap, ◌∙◌, arith}
use mathlib.Core.Bool.{not}
use Rattle.aql_exec_cluster.proofs.Sharing.{rows_there}
use Rattle.aql_exec_cluster.proofs.Routed.{found_some}
use Rattle.aql_exec_cluster.proofs.blocks.Blocks.is_over.Goals as goal

pub returns-clause-left : goal.returns-clause-left
returns-clause-left c e =
    let place = c.seek.new.place in
    let found = found_some c.seek.result _ _ c.seek.ensures.found (c.is_none.ensures ∙ ap not e) in
    let row = found.1.1 in
    let there = rows_there c.args.self.now place.block place.row 1 found.0.now found.1.0 (omega (arith, row)) in
    let same = ap length c.seek.ensures.same in
    omega (arith, there, same)
