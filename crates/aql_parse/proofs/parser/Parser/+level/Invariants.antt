use Rattle.std.proofs.Common.{map, ◌≡◌, ◌-◌, ◌*◌, ◌+◌}
use Rattle.aql_tree.specs.View.{link_part}
use Rattle.aql_grammar.specs.Input.{many, many_from}
use Rattle.aql_grammar.specs.Reader.{expr, sees_operator, link, operand}
use Rattle.aql_grammar.specs.laws.OperatorLaws.{order}
use Rattle.aql_parse.proofs.parser.Parser.+level.Given as goal

abbrev pub decreases-operand : goal.decreases-operand
decreases-operand g l = 5 * order l.precedence

abbrev pub decreases-link : goal.decreases-link
decreases-link g l = 5 * order l.precedence + 1

abbrev pub decreases-links : goal.decreases-links
decreases-links g l = 5 * order l.precedence + 2

abbrev pub decreases-chain : goal.decreases-chain
decreases-chain g l = 5 * order l.precedence + 3

abbrev pub decreases-level : goal.decreases-level
decreases-level g l = 5 * order l.precedence + 4

-- more than the operands of a range
abbrev pub decreases-range : goal.decreases-range
decreases-range g l = 16

-- more than the operands of an array comparison
abbrev pub decreases-array_comparison : goal.decreases-array_comparison
decreases-array_comparison g l = 36

abbrev pub invariant-links-loop-turn : goal.invariant-links-loop-turn
invariant-links-loop-turn g l =
    many (sees_operator l.precedence) (link (operand (expr l.self.depth) l.self.inside l.precedence))
    l.fn.tokens
    ≡ many_from (sees_operator l.precedence) (link (operand (expr l.self.depth) l.self.inside l.precedence))
    (l._turn-end - l._turn) (map link_part l.found) l.tokens
