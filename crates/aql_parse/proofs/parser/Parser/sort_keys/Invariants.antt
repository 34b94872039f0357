use Rattle.std.proofs.Common.{map, ◌≡◌, ◌-◌}
use Rattle.aql_grammar.specs.Input.{comma_list, comma_list_from}
use Rattle.aql_grammar.specs.Reader.{expr, sort_key}
use Rattle.aql_tree.specs.View.{key_part}
use Rattle.aql_parse.proofs.parser.Parser.sort_keys.Given as goal

abbrev pub invariant-loop-turn : goal.invariant-loop-turn
invariant-loop-turn g l =
    comma_list (sort_key (expr l.self.depth) l.self.inside) l.fn.tokens
    ≡ comma_list_from (sort_key (expr l.self.depth) l.self.inside)
    (l._turn-end - l._turn) (map key_part l.found) l.tokens
