use Rattle.std.proofs.Common.{◌≡◌, length, arith}
use Rattle.aql_block.proofs.Filled.{filled_made}
use Rattle.aql_block.proofs.Tabled.{new_table}
use Rattle.aql_block.proofs.blocks.Block.new.Goals as goal

pub invariant_of-result : goal.invariant_of-result
invariant_of-result c =
    let v = c.in_ok-own.own in
    let e : c.len.result ≡ length v.items = omega (arith, c.len.ensures, v.ok.0) in
    filled_made v.items c.len.result c.args.room c.in_ok-columns.columns.items c.in_ok-columns.ensures e

pub returns : goal.returns
returns c =
    new_table c.in_ok-own.own.items c.args.registers.now c.args.room c.in_ok-columns.columns.items
    c.in_ok-own.ensures
