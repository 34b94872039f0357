use Rattle.std.proofs.Common.{◌∙◌, ap, arith}
use Rattle.std.specs.List.{list_any}
use Rattle.std.proofs.lemmas.List.{take_all}
use Rattle.aql_index.specs.inner.Places.{no_span, holds}
use Rattle.aql_index.proofs.Spread.{taken, skipped}
use Rattle.aql_index.proofs.spans.each_once.Goals as goal
use Rattle.aql_index.proofs.spans.each_once.Goals.{then-span-end+in_ok-push, else-span-end}

pub loop-span-preserved : goal.loop-span-preserved
loop-span-preserved c =
    elim c.if-span-end.branch [
      | then-span-end+in_ok-push w ↦ taken c.args.spans.now c.loop-span.span-index c.loop-span-test.true _ _
          c.loop-span.invariant _ _ w.if-span-end.true
          (c.requires.some c.loop-span.span-index no_span c.loop-span-test.true)
          (w.out-is ∙ w.in_ok-push.ensures.ok) w.end-is
      | else-span-end w ↦ skipped c.args.spans.now c.loop-span.span-index c.loop-span-test.true _ _
          c.loop-span.invariant _ _ c.requires.sorted c.requires.once
          (c.requires.some c.loop-span.span-index no_span c.loop-span-test.true) w.if-span-end.false
          w.out-is w.end-is
    ]

pub returns-clause-apart : goal.returns-clause-apart
returns-clause-apart c = (c.loop-span.end, c.loop-span.invariant.apart)

pub returns-clause-all : goal.returns-clause-all
returns-clause-all c = λ k. c.loop-span.invariant.all k
    ∙ ap (list_any (holds k)) (take_all c.loop-span.span-index c.args.spans.now (omega arith))

pub returns-clause-some_of_them : goal.returns-clause-some_of_them
returns-clause-some_of_them c = c.loop-span.invariant.some_of_them
