-- The next block: its rows that come to the shard, and how many rows it has.
use Rattle.std.proofs.Common.{◌≡◌, ◌≤◌, ◌+◌, ◌-◌, ◌++◌, length, take, drop, sym, ap, ◌∙◌, arith}
use Rattle.std.proofs.lemmas.List.{nil_from_length}
use Rattle.aql_block.specs.Tables.{rows_of}
use Rattle.aql_exec_cluster.specs.Shared.{rows_at}
use Rattle.aql_exec_cluster.specs.Routings.{rows_to, rows_at_places}
use Rattle.aql_exec_cluster.proofs.Routed.{row_each, passed}
use Rattle.aql_exec_cluster.proofs.blocks.Blocks.copy_sent.Goals as goal

pub returns-then-len-gt0-clause-rows : goal.returns-then-len-gt0-clause-rows
returns-then-len-gt0-clause-rows c =
    let place = c.seek.new.place in
    let block = c.in-Some.block.now in
    let rows = rows_of block in
    let found = c.in-Some.ensures.found in
    let count = c.min-count.result in
    let len = c.len.ensures in
    let left = c.from.ensures in
    let least = c.min-count.ensures in
    let row = found.1 in
    let fits : place.row + count ≤ length rows = omega (arith, len, left, least, row) in
    let exact : (place.row + count) - place.row ≡ count = omega arith in
    let there = rows_at_places rows c.in_ok-sent.sent.items in
    let are = c.in_ok-sent.ensures.rows
    ∙ ap (λ n. rows_to c.args.routing.now c.args.target (take n (drop place.row rows))) exact in
    let next = passed c.args.routing.now c.args.target c.args.self.now place.block place.row count block there
    found.0 fits are in
    let is = c.in_ok-rows.ensures ∙ ap (rows_at_places rows) c.deref.ensures.value in
    let rest = rows_at c.args.self.now (record place { row = place.row + count }) in
    sym c.loop-block.invariant.rows ∙ ap (rows_to c.args.routing.now c.args.target) (sym c.in-Some.ensures.same)
    ∙ next.0 ∙ ap (λ z. z ++ rows_to c.args.routing.now c.args.target rest) (sym is)

pub returns-then-len-gt0-clause-most : goal.returns-then-len-gt0-clause-most
returns-then-len-gt0-clause-most c =
    let place = c.seek.new.place in
    let block = c.in-Some.block.now in
    let rows = rows_of block in
    let found = c.in-Some.ensures.found in
    let count = c.min-count.result in
    let len = c.len.ensures in
    let left = c.from.ensures in
    let least = c.min-count.ensures in
    let row = found.1 in
    let fits : place.row + count ≤ length rows = omega (arith, len, left, least, row) in
    let exact : (place.row + count) - place.row ≡ count = omega arith in
    let there = rows_at_places rows c.in_ok-sent.sent.items in
    let are = c.in_ok-sent.ensures.rows
    ∙ ap (λ n. rows_to c.args.routing.now c.args.target (take n (drop place.row rows))) exact in
    let next = passed c.args.routing.now c.args.target c.args.self.now place.block place.row count block there
    found.0 fits are in
    let is = c.in_ok-rows.ensures ∙ ap (rows_at_places rows) c.deref.ensures.value in
    let each = row_each rows c.in_ok-sent.sent.items c.in_ok-sent.ensures.within in
    let few = c.in_ok-sent.ensures.few in
    let many = ap length is in
    omega (arith, each, few, many, exact, least)

pub returns-then-len-gt0-clause-none : goal.returns-then-len-gt0-clause-none
returns-then-len-gt0-clause-none c none =
    let rows = rows_of c.in-Some.block.now in
    let is = c.in_ok-rows.ensures ∙ ap (rows_at_places rows) c.deref.ensures.value in
    let each = row_each rows c.in_ok-sent.sent.items c.in_ok-sent.ensures.within in
    let many = ap length (sym none ∙ is) in
    let some = c.if-len-gt0.true in
    let len = c.len-in-Some.ensures in
    absurd (omega (arith, each, many, some, len))

pub returns-then-len-gt0-clause-left : goal.returns-then-len-gt0-clause-left
returns-then-len-gt0-clause-left c =
    let place = c.seek.new.place in
    let block = c.in-Some.block.now in
    let rows = rows_of block in
    let found = c.in-Some.ensures.found in
    let count = c.min-count.result in
    let len = c.len.ensures in
    let left = c.from.ensures in
    let least = c.min-count.ensures in
    let row = found.1 in
    let fits : place.row + count ≤ length rows = omega (arith, len, left, least, row) in
    let exact : (place.row + count) - place.row ≡ count = omega arith in
    let there = rows_at_places rows c.in_ok-sent.sent.items in
    let are = c.in_ok-sent.ensures.rows
    ∙ ap (λ n. rows_to c.args.routing.now c.args.target (take n (drop place.row rows))) exact in
    let next = passed c.args.routing.now c.args.target c.args.self.now place.block place.row count block there
    found.0 fits are in
    let is = c.in_ok-rows.ensures ∙ ap (rows_at_places rows) c.deref.ensures.value in
    let each = row_each rows c.in_ok-sent.sent.items c.in_ok-sent.ensures.within in
    let few = c.in_ok-sent.ensures.few in
    let many = ap length is in
    let before = c.loop-block.invariant.left in
    let same = ap length c.in-Some.ensures.same in
    let less = next.1 in
    omega (arith, each, few, many, exact, before, same, less)

pub loop-block-smaller : goal.loop-block-smaller
loop-block-smaller c =
    let place = c.seek.new.place in
    let block = c.in-Some.block.now in
    let rows = rows_of block in
    let found = c.in-Some.ensures.found in
    let count = c.min-count.result in
    let len = c.len.ensures in
    let left = c.from.ensures in
    let least = c.min-count.ensures in
    let row = found.1 in
    let fits : place.row + count ≤ length rows = omega (arith, len, left, least, row) in
    let exact : (place.row + count) - place.row ≡ count = omega arith in
    let there = rows_at_places rows c.in_ok-sent.sent.items in
    let are = c.in_ok-sent.ensures.rows
    ∙ ap (λ n. rows_to c.args.routing.now c.args.target (take n (drop place.row rows))) exact in
    let next = passed c.args.routing.now c.args.target c.args.self.now place.block place.row count block there
    found.0 fits are in
    let same = ap length c.in-Some.ensures.same in
    let less = next.1 in
    let most = c.requires.most in
    omega (arith, len, left, least, row, same, less, most)

pub loop-block-preserved : goal.loop-block-preserved
loop-block-preserved c =
    let place = c.seek.new.place in
    let block = c.in-Some.block.now in
    let rows = rows_of block in
    let found = c.in-Some.ensures.found in
    let count = c.min-count.result in
    let len = c.len.ensures in
    let left = c.from.ensures in
    let least = c.min-count.ensures in
    let row = found.1 in
    let fits : place.row + count ≤ length rows = omega (arith, len, left, least, row) in
    let exact : (place.row + count) - place.row ≡ count = omega arith in
    let there = rows_at_places rows c.in_ok-sent.sent.items in
    let are = c.in_ok-sent.ensures.rows
    ∙ ap (λ n. rows_to c.args.routing.now c.args.target (take n (drop place.row rows))) exact in
    let next = passed c.args.routing.now c.args.target c.args.self.now place.block place.row count block there
    found.0 fits are in
    let len-none = c.len-in-Some.ensures in
    let zero = c.if-len-gt0.false in
    let none = nil_from_length c.in_ok-sent.sent.items (omega (arith, len-none, zero)) in
    let rest = rows_at c.args.self.now (record place { row = place.row + count }) in
    let before = c.loop-block.invariant.left in
    let same = ap length c.in-Some.ensures.same in
    let less = next.1 in
    record {
      rows = sym (ap (rows_to c.args.routing.now c.args.target) (sym c.in-Some.ensures.same)
          ∙ next.0
          ∙ ap (λ z. rows_at_places rows z ++ rows_to c.args.routing.now c.args.target rest) none)
          ∙ c.loop-block.invariant.rows;
      left = omega (arith, before, same, less);
    }
