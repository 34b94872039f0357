use Rattle.std.proofs.Common.{length, ◌≡◌, ◌≤◌, ◌+◌}
use Rattle.aql_grammar.specs.Kinds.{kinds_of}
use Rattle.aql_grammar.specs.Limits.{marks}
use Rattle.aql_grammar.proofs.limits.has_too_many_marks.Given as goal

abbrev pub invariant-loop-left : goal.invariant-loop-left
invariant-loop-left l = (marks (kinds_of l.fn.tokens) ≡ l.found + marks (kinds_of l.left)) × (l.found ≤ 256)

abbrev pub decreases-loop-left : goal.decreases-loop-left
decreases-loop-left l = length l.left
