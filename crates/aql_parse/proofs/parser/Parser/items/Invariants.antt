use Rattle.std.proofs.Common.{map, ◌≡◌, ◌-◌}
use Rattle.aql_lex.specs.declared.vocabulary.Symbol.TheVariants as s
use Rattle.aql_grammar.specs.Input.{items, items_from}
use Rattle.aql_grammar.specs.Reader.{expr}
use Rattle.aql_tree.specs.View.{tree}
use Rattle.aql_parse.proofs.parser.Parser.items.Given as goal

abbrev pub invariant-loop-turn : goal.invariant-loop-turn
invariant-loop-turn g l =
    items s.CloseBracket (expr l.self.depth l.self.inside) l.fn.tokens
    ≡ items_from s.CloseBracket (expr l.self.depth l.self.inside)
    (l._turn-end - l._turn) (map tree l.found) l.tokens
