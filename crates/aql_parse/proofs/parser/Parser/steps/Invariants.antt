use Rattle.std.proofs.Common.{map, ◌≡◌, ◌-◌}
use Rattle.aql_grammar.specs.Input.{many, many_from, at_front}
use Rattle.aql_grammar.specs.Reader.{expr, step, begins_step}
use Rattle.aql_tree.specs.View.{step_part}
use Rattle.aql_parse.proofs.parser.Parser.steps.Given as goal

abbrev pub invariant-loop-turn : goal.invariant-loop-turn
invariant-loop-turn g l =
    many (at_front begins_step) (step (expr l.self.depth) l.self.inside) l.fn.tokens
    ≡ many_from (at_front begins_step) (step (expr l.self.depth) l.self.inside)
    (l._turn-end - l._turn) (map step_part l.found) l.tokens
