use Rattle.std.proofs.Common.{take, drop, sym, ap, ◌∙◌, arith}
use Rattle.aql_value.specs.View.{datums_in}
use Rattle.aql_tree.specs.View.{tree}
use Rattle.aql_block.specs.Tables.{rows_of}
use Rattle.aql_exec.specs.Counting.{nothing}
use Rattle.aql_exec.specs.FirstResults.{shown}
use Rattle.aql_exec.specs.laws.Counted.{rises_none}
use Rattle.aql_exec.proofs.Keeping.{cut}
use Rattle.aql_exec.specs.laws.Firsts.{front_results, shown_fewer}
use Rattle.aql_exec.proofs.distinct.FirstResultsTransform.skip.Goals as goal

pub returns-clause-left : goal.returns-clause-left
returns-clause-left g c =
    let me = c.args.self.now in
    let made = c.in_ok-make.ensures in
    let front = c.in_ok-block.ensures in (
      nothing,
      rises_none g.W.Surroundings c.args._tally.now c.args._world.now,
      λ rows r h.
          (let x = front_results (tree me.expr) me.made c.args.most (datums_in me.seen.keys)
          (datums_in c.make.new.self.seen.keys) (rows_of me.block) rows
          (rows_of c.in_ok-block.block) (rows_of c.take_front.new.held) r
          (front.front ∙ ap (take c.args.most) made.rows) (front.rest ∙ ap (drop c.args.most) made.rows)
          made.seen (rw (made.expr, made.made) at h) in
          (rows_of c.in_ok-block.block, x.0, sym (c.from.ensures ∙ c.len.ensures), x.1, x.2)),
    )

pub returns-clause-held : goal.returns-clause-held
returns-clause-held g c =
    let me = c.args.self.now in
    let made = c.in_ok-make.ensures in
    let front = c.in_ok-block.ensures in
    let results = shown (tree me.expr) me.made (datums_in me.seen.keys) (rows_of me.block) in
    let n = shown_fewer (tree me.expr) me.made (datums_in me.seen.keys) (rows_of me.block) in
    let k = cut c.args.most results (rows_of c.in_ok-block.block) (rows_of c.take_front.new.held)
    (front.front ∙ ap (take c.args.most) made.rows) (front.rest ∙ ap (drop c.args.most) made.rows) in
    let m = c.from.ensures ∙ c.len.ensures in omega (arith, k, n, m)
