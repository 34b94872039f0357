-- What a grammar sees of tokens: their kinds, in order, without the places where they stand.
use Rattle.std.specs.Prelude.{List, map}
use Rattle.aql_lex.specs.declared.kinds.Token.{Token}
use Rattle.aql_lex.specs.declared.kinds.TokenKind.{TokenKind}

abbrev pub Tokens : Type 0
Tokens = List TokenKind

abbrev pub kinds_of : List Token → Tokens
kinds_of tokens = map (λ (t : Token). t.kind) tokens
