-- The law of this crate: a number in a text is below 2 ^ 63, so each LIMIT of the query that the text spells,
-- also in a subquery, ends within the numbers of 64 bits (the high-level operation LIMIT).
use Rattle.std.specs.Prelude.{ℕ, List}
use Rattle.aql_lex.specs.declared.kinds.Token.{Token}
use Rattle.aql_lex.specs.Reading.{Lexes}
use Rattle.aql_tree.specs.Tree.{QueryTree}
use Rattle.aql_grammar.specs.Kinds.{kinds_of}
use Rattle.aql_grammar.specs.Tree.{Tree}
use Rattle.aql_build.specs.Limits.{QueryLimitsEnd}

abbrev pub TextLimitsEnd : Type 0
TextLimitsEnd = (text : List ℕ) (tokens : List Token) → Lexes text tokens
    → (q : QueryTree) → Tree (kinds_of tokens) q → QueryLimitsEnd q
