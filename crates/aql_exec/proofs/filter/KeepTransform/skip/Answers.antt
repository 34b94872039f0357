use Rattle.std.proofs.Common.{length, take, drop, sym, ap, ◌∙◌, arith}
use Rattle.aql_tree.specs.View.{tree}
use Rattle.aql_block.specs.Tables.{rows_of}
use Rattle.aql_exec.specs.Counting.{counts}
use Rattle.aql_exec.specs.Filters.{kept_of, lost_of}
use Rattle.aql_exec.specs.laws.Counted.{rises_dropped}
use Rattle.aql_exec.proofs.Keeping.{front_given, kept_fewer, cut}
use Rattle.aql_exec.proofs.filter.KeepTransform.skip.Goals as goal

pub returns-clause-left : goal.returns-clause-left
returns-clause-left g c =
    let me = c.args.self.now in
    let judged = c.in_ok-judge.ensures in
    let front = c.in_ok-block.ensures in (
      counts 0 0 (length (lost_of (tree me.condition) me.judged (rows_of me.block))),
      rises_dropped g.W.Surroundings c.args.tally.now c.judge.new.tally c.args._world.now
          (length (lost_of (tree me.condition) me.judged (rows_of me.block))) judged.tally,
      λ rows r h.
          (let x = front_given (tree me.condition) me.judged c.args.most (rows_of me.block) rows
          (rows_of c.in_ok-block.block) (rows_of c.take_front.new.held) r
          (front.front ∙ ap (take c.args.most) judged.rows) (front.rest ∙ ap (drop c.args.most) judged.rows)
          (rw (judged.condition, judged.judged) at h) in
          (rows_of c.in_ok-block.block, x.0, sym (c.from.ensures ∙ c.len.ensures), x.1, x.2)),
    )

pub returns-clause-held : goal.returns-clause-held
returns-clause-held g c =
    let me = c.args.self.now in
    let judged = c.in_ok-judge.ensures in
    let front = c.in_ok-block.ensures in
    let kept = kept_of (tree me.condition) me.judged (rows_of me.block) in
    let n = kept_fewer (tree me.condition) me.judged (rows_of me.block) in
    let k = cut c.args.most kept (rows_of c.in_ok-block.block) (rows_of c.take_front.new.held)
    (front.front ∙ ap (take c.args.most) judged.rows) (front.rest ∙ ap (drop c.args.most) judged.rows) in
    let m = c.from.ensures ∙ c.len.ensures in omega (arith, k, n, m)
