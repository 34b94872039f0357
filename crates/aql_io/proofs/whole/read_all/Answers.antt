use Rattle.std.proofs.Common.{◌<◌, arith, sym, length, rules}
use Rattle.std.specs.Prelude.{⊤}
use Rattle.aql_io.proofs.Moved.{more_handed_out, past_limit}
use Rattle.aql_io.proofs.whole.read_all.Goals as goal

pub returns-then-count-limit-clause-too_long : goal.returns-then-count-limit-clause-too_long
returns-then-count-limit-clause-too_long g c = λ _.
    let held = c.chunks.bytes.items in
    let read = c.in-Ok.ensures in
    more_handed_out _ (g.S.Source.left c.chunks.source) _ held _ (λ taken. c.args.limit < length taken)
    c.chunks.invariant.consumed read.bytes.bytes
    (past_limit _ held _ c.in-Ok.count (sym read.bound.1)
    (omega (arith, c.if-count-limit.true, c.len.ensures, c.chunks.bytes.ok.0)))

pub returns-then-count-limit-clause-front : goal.returns-then-count-limit-clause-front
returns-then-count-limit-clause-front g c =
    more_handed_out _ (g.S.Source.left c.chunks.source) _ c.chunks.bytes.items _ (λ _. ⊤)
    c.chunks.invariant.consumed c.in-Ok.ensures.bytes.bytes tt

pub returns-then-is_err-clause-front : goal.returns-then-is_err-clause-front
returns-then-is_err-clause-front g c =
    more_handed_out _ (g.S.Source.left c.chunks.source) _ c.chunks.bytes.items _ (λ _. ⊤)
    c.chunks.invariant.consumed c.in-Ok.ensures.bytes.bytes tt

pub returns-then-count-limit-clause-failed : goal.returns-then-count-limit-clause-failed
returns-then-count-limit-clause-failed g c = search rules

pub returns-then-count-limit-clause-failed_within : goal.returns-then-count-limit-clause-failed_within
returns-then-count-limit-clause-failed_within g c = search rules
