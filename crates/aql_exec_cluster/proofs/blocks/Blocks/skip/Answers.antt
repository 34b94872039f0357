use Rattle.std.proofs.Common.{◌+◌, ◌≤◌, length, drop, ap, ◌∙◌, arith}
use Rattle.aql_block.specs.Tables.{rows_of}
use Rattle.aql_exec_cluster.proofs.Sharing.{further, rows_there}
use Rattle.aql_exec_cluster.proofs.blocks.Blocks.skip.Goals as goal

pub returns-clause-rest : goal.returns-clause-rest
returns-clause-rest c =
    let place = c.seek.new.place in
    let block = c.in-Some.block.now in
    let found = c.in-Some.ensures.found in
    let count = c.min-count.result in
    let len = c.len.ensures in
    let left = c.from.ensures in
    let least = c.min-count.ensures in
    let row = found.1 in
    let fits : place.row + count ≤ length (rows_of block) = omega (arith, len, left, least, row) in
    further c.args.self.now place.block place.row count block found.0 fits
    ∙ ap (drop count) c.in-Some.ensures.same

pub returns-clause-within : goal.returns-clause-within
returns-clause-within c =
    let place = c.seek.new.place in
    let block = c.in-Some.block.now in
    let found = c.in-Some.ensures.found in
    let count = c.min-count.result in
    let len = c.len.ensures in
    let left = c.from.ensures in
    let least = c.min-count.ensures in
    let row = found.1 in
    let fits : place.row + count ≤ length (rows_of block) = omega (arith, len, left, least, row) in
    let there = rows_there c.args.self.now place.block place.row count block found.0 fits in
    let same = ap length c.in-Some.ensures.same in
    omega (arith, there, same)
