-- Parts that several rules have in common.
use Rattle.std.specs.Prelude.{Bool}
use Rattle.aql_lex.specs.declared.vocabulary.Symbol.{Symbol}
use Rattle.aql_lex.specs.declared.vocabulary.Symbol.TheVariants as s
use Rattle.aql_lex.specs.declared.vocabulary.Keyword.TheVariants as w
use Rattle.aql_grammar.specs.Input.{Parser, ◌>>=◌, ◌>>◌, pure, eat_keyword, expect}

-- with the symbol that ends it
abbrev pub up_to : {A : Type 0} → Symbol → Parser A → Parser A
up_to close one = do
  x ← one
  expect close
  pure x

-- after a colon
abbrev pub value : {A : Type 0} → Parser A → Parser A
value one = expect s.Colon >> one

-- after RETURN: whether there is a DISTINCT, and what is given
abbrev pub return_part : {A : Type 0} → Parser A → Parser (Bool × A)
return_part one = do
  distinct ← eat_keyword w.Distinct
  x ← one
  pure (distinct, x)
