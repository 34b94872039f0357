use Rattle.std.proofs.Common.{take, drop, ap, ◌∙◌, arith}
use Rattle.aql_value.specs.View.{datums_in}
use Rattle.aql_tree.specs.View.{tree}
use Rattle.aql_block.specs.Tables.{rows_of}
use Rattle.aql_exec.specs.Counting.{nothing}
use Rattle.aql_exec.specs.FirstResults.{shown}
use Rattle.aql_exec.specs.laws.Counted.{rises_none}
use Rattle.aql_exec.proofs.Keeping.{both_ok, cut}
use Rattle.aql_exec.specs.laws.Firsts.{front_results, shown_fewer}
use Rattle.aql_exec.proofs.distinct.FirstResultsTransform.next.Goals as goal

pub returns-clause-left : goal.returns-clause-left
returns-clause-left g c =
    let me = c.args.self.now in
    let made = c.in_ok-make.ensures in
    both_ok c.take_front.result c.take_front.ensures.front c.take_front.ensures.rest (λ block f e. (
      nothing,
      rises_none g.W.Surroundings c.args._tally.now c.args._world.now,
      λ rows r h.
          front_results (tree me.expr) me.made c.args.most (datums_in me.seen.keys)
          (datums_in c.make.new.self.seen.keys) (rows_of me.block) rows (rows_of block)
          (rows_of c.take_front.new.held) r (f ∙ ap (take c.args.most) made.rows)
          (e ∙ ap (drop c.args.most) made.rows) made.seen (rw (made.expr, made.made) at h),
    ))

pub returns-clause-held : goal.returns-clause-held
returns-clause-held g c =
    let me = c.args.self.now in
    let made = c.in_ok-make.ensures in
    let results = shown (tree me.expr) me.made (datums_in me.seen.keys) (rows_of me.block) in
    let n = shown_fewer (tree me.expr) me.made (datums_in me.seen.keys) (rows_of me.block) in
    both_ok c.take_front.result c.take_front.ensures.front c.take_front.ensures.rest (λ block f e.
    (let k = cut c.args.most results (rows_of block) (rows_of c.take_front.new.held)
    (f ∙ ap (take c.args.most) made.rows) (e ∙ ap (drop c.args.most) made.rows) in omega (arith, k, n)))
