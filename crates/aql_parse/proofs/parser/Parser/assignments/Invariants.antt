use Rattle.std.proofs.Common.{map, ◌≡◌, ◌-◌}
use Rattle.aql_grammar.specs.Input.{comma_list, comma_list_from}
use Rattle.aql_grammar.specs.Reader.{expr, assignment}
use Rattle.aql_tree.specs.View.{let_part}
use Rattle.aql_parse.proofs.parser.Parser.assignments.Given as goal

abbrev pub invariant-loop-turn : goal.invariant-loop-turn
invariant-loop-turn g l =
    comma_list (assignment (expr l.self.depth) l.self.inside) l.fn.tokens
    ≡ comma_list_from (assignment (expr l.self.depth) l.self.inside)
    (l._turn-end - l._turn) (map let_part l.found) l.tokens
