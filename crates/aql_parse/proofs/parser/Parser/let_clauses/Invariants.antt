use Rattle.std.proofs.Common.{map, ◌≡◌, ◌-◌}
use Rattle.aql_grammar.specs.Input.{comma_list_onto, comma_list_from}
use Rattle.aql_grammar.specs.Reader.{expr, let_clause}
use Rattle.aql_tree.specs.View.{clause_tree}
use Rattle.aql_parse.proofs.parser.Parser.let_clauses.Given as goal

abbrev pub invariant-loop-turn : goal.invariant-loop-turn
invariant-loop-turn g l =
    comma_list_onto (let_clause (expr l.self.depth) l.self.inside) (map clause_tree l.fn.found) l.fn.tokens
    ≡ comma_list_from (let_clause (expr l.self.depth) l.self.inside)
    (l._turn-end - l._turn) (map clause_tree l.found) l.tokens
