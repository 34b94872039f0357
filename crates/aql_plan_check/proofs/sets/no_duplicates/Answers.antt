-- From the end on, each number is new.
use Rattle.std.proofs.Common.{arith}
use Rattle.aql_plan_check.proofs.Distinct.{twice, once_more, seen_more}
use Rattle.aql_plan_check.proofs.sets.no_duplicates.Goals as goal

pub returns-then-not-branch : goal.returns-then-not-branch
returns-then-not-branch c = twice c.args.vars.now c.loop-at.seen.keys c.loop-at.at c.loop-at-test.true
    c.loop-at.invariant.within c.loop-at.invariant.seen c.in_ok-insert.field-0 c.in_ok-insert.ensures.added
    c.if-not-branch.true

pub loop-at-preserved : goal.loop-at-preserved
loop-at-preserved c = record {
  within = omega (arith, c.loop-at.invariant.within);
  seen = seen_more c.args.vars.now c.loop-at.seen.keys c.loop-at.at c.loop-at-test.true c.loop-at.invariant.within
      c.loop-at.invariant.seen c.insert.new.self.keys c.in_ok-insert.ensures.keys;
  once = once_more c.args.vars.now c.loop-at.seen.keys c.loop-at.at c.loop-at-test.true c.loop-at.invariant.within
      c.loop-at.invariant.seen c.in_ok-insert.field-0 c.in_ok-insert.ensures.added c.if-not-branch.false
      c.loop-at.invariant.once;
}
