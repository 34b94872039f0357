use Rattle.std.proofs.Common.{◌+◌, ◌-◌, ◌≡◌, ◌≤◌, length, ap, sym, ◌∙◌, arith}
use Rattle.std.specs.Prelude.{take, drop}
use Rattle.aql_block.specs.Tables.{rows_of}
use Rattle.aql_exec_cluster.proofs.Sharing.{copied}
use Rattle.aql_exec_cluster.proofs.blocks.Blocks.copy_rows.Goals as goal

pub returns-clause-rows : goal.returns-clause-rows
returns-clause-rows c =
    let place = c.seek.new.place in
    let block = c.in-Some.block.now in
    let found = c.in-Some.ensures.found in
    let count = c.min-count.result in
    let exact : (place.row + count) - place.row ≡ count = omega arith in
    let len = c.len.ensures in
    let left = c.from.ensures in
    let least = c.min-count.ensures in
    let row = found.1 in
    let fits : place.row + count ≤ length (rows_of block) = omega (arith, len, left, least, row) in
    sym c.in-Some.ensures.same
    ∙ copied c.args.self.now place.block place.row count block (rows_of c.in_ok-rows.rows) found.0 fits
    (c.in_ok-rows.ensures ∙ ap (λ n. take n (drop place.row (rows_of block))) exact)
