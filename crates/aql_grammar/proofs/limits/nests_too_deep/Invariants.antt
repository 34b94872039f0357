use Rattle.std.proofs.Common.{length, ◌≡◌, ◌≤◌, nat_lt}
use Rattle.aql_grammar.specs.Kinds.{kinds_of}
use Rattle.aql_grammar.specs.Limits.{nesting, nesting_from, open_now}
use Rattle.aql_grammar.proofs.limits.nests_too_deep.Given as goal

abbrev pub invariant-loop-left : goal.invariant-loop-left
invariant-loop-left l =
    (nat_lt 64 (nesting (kinds_of l.fn.tokens)) ≡ nat_lt 64 (nesting_from l.open (kinds_of l.left))) ×
    (open_now l.open ≤ 65)

abbrev pub decreases-loop-left : goal.decreases-loop-left
decreases-loop-left l = length l.left
