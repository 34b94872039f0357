use Rattle.std.proofs.Common.{map, ◌≡◌, ◌-◌}
use Rattle.aql_grammar.specs.Input.{comma_list, comma_list_from}
use Rattle.aql_grammar.specs.Reader.{expr, argument}
use Rattle.aql_tree.specs.View.{tree}
use Rattle.aql_parse.proofs.parser.Parser.argument_list.Given as goal

abbrev pub invariant-loop-turn : goal.invariant-loop-turn
invariant-loop-turn g l =
    comma_list (argument (expr l.self.depth) l.self.inside) l.fn.tokens
    ≡ comma_list_from (argument (expr l.self.depth) l.self.inside)
    (l._turn-end - l._turn) (map tree l.found) l.tokens
