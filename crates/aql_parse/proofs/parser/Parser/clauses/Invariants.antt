use Rattle.std.proofs.Common.{map, ◌≡◌, ◌-◌}
use Rattle.aql_grammar.specs.Reader.{expr, clauses, clauses_from}
use Rattle.aql_tree.specs.View.{clause_tree}
use Rattle.aql_parse.proofs.parser.Parser.clauses.Given as goal

abbrev pub invariant-loop-turn : goal.invariant-loop-turn
invariant-loop-turn g l =
    clauses (expr l.self.depth) l.self.inside l.fn.tokens
    ≡ clauses_from (expr l.self.depth) l.self.inside
    (l._turn-end - l._turn) (map clause_tree l.found) l.tokens
