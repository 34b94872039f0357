use Rattle.std.proofs.Common.{map, ◌≡◌, ◌-◌}
use Rattle.aql_lex.specs.declared.vocabulary.Symbol.TheVariants as s
use Rattle.aql_grammar.specs.Input.{items_from}
use Rattle.aql_grammar.specs.Reader.{expr, member, members}
use Rattle.aql_tree.specs.View.{member_part}
use Rattle.aql_parse.proofs.parser.Parser.members.Given as goal

abbrev pub invariant-loop-turn : goal.invariant-loop-turn
invariant-loop-turn g l =
    members (expr l.self.depth) l.self.inside l.fn.tokens
    ≡ items_from s.CloseBrace (member (expr l.self.depth) l.self.inside)
    (l._turn-end - l._turn) (map member_part l.found) l.tokens
