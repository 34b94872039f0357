-- The two limits on a query's tokens: how deep they nest, and how many clauses and assignments they
-- have. Both are judged over the tokens alone, before the grammar.
use Rattle.std.specs.Prelude.{ℕ, suc, ◌+◌, max, Bool, true, false, if◌then◌else◌, List, [], ◌∷◌, length}
use Rattle.aql_lex.specs.declared.kinds.TokenKind.{TokenKind}
use Rattle.aql_lex.specs.declared.kinds.TokenKind.TheVariants as k
use Rattle.aql_lex.specs.declared.vocabulary.Keyword.{Keyword}
use Rattle.aql_lex.specs.declared.vocabulary.Keyword.TheVariants as w
use Rattle.aql_lex.specs.declared.vocabulary.Symbol.{Symbol}
use Rattle.aql_lex.specs.declared.vocabulary.Symbol.TheVariants as s
use Rattle.aql_grammar.specs.Kinds.{Tokens}
use Rattle.aql_grammar.specs.declared.limits.Effect.{Effect}
use Rattle.aql_grammar.specs.declared.limits.Effect.TheVariants as does

-- what is open after some tokens
pub record Open : Type 0 where
  -- the ternaries of the innermost open bracket
  pub inner : ℕ
  -- those of the places around it, a number for each open bracket, the innermost first
  pub outer : List ℕ
  -- the signs that stand last
  pub signs : ℕ

abbrev pub nothing_open : Open
nothing_open = record { inner = 0; outer = []; signs = 0 }

abbrev pub total : List ℕ → ℕ
total [] = 0
total (n ∷ ns) = n + total ns

-- brackets, ternaries and signs together
abbrev pub open_now : Open → ℕ
open_now o = (length o.outer + total o.outer) + (o.inner + o.signs)

-- a bracket opens
abbrev pub open_bracket : Open → Open
open_bracket o = record { inner = 0; outer = o.inner ∷ o.outer; signs = 0 }

-- the innermost bracket closes with its ternaries; a stray closing bracket closes ternaries alone
abbrev pub close_bracket : List ℕ → Open
close_bracket [] = nothing_open
close_bracket (n ∷ ns) = record { inner = n; outer = ns; signs = 0 }

-- `?` opens until the next comma, clause word or closing bracket at its bracket level
abbrev pub open_ternary : Open → Open
open_ternary o = record { inner = suc o.inner; outer = o.outer; signs = 0 }

abbrev pub close_ternaries : Open → Open
close_ternaries o = record { inner = 0; outer = o.outer; signs = 0 }

-- `!`, NOT, `+` and `-` open until the next token that is none of these
abbrev pub open_sign : Open → Open
open_sign o = record { inner = o.inner; outer = o.outer; signs = suc o.signs }

abbrev pub close_signs : Open → Open
close_signs o = record { inner = o.inner; outer = o.outer; signs = 0 }

-- ---- what a token does to what is open

abbrev pub effect_of_symbol : Symbol → Effect
effect_of_symbol s.OpenParen = does.OpensBracket
effect_of_symbol s.OpenBracket = does.OpensBracket
effect_of_symbol s.OpenBrace = does.OpensBracket
effect_of_symbol s.CloseParen = does.ClosesBracket
effect_of_symbol s.CloseBracket = does.ClosesBracket
effect_of_symbol s.CloseBrace = does.ClosesBracket
effect_of_symbol s.Question = does.OpensTernary
effect_of_symbol s.Comma = does.ClosesTernaries
effect_of_symbol s.Not = does.OpensSign
effect_of_symbol s.Plus = does.OpensSign
effect_of_symbol s.Minus = does.OpensSign
effect_of_symbol other = does.ClosesSigns

-- FOR, FILTER, LET, SORT, LIMIT, COLLECT and RETURN
abbrev pub is_clause_word : Keyword → Bool
is_clause_word w.For = true
is_clause_word w.Filter = true
is_clause_word w.Let = true
is_clause_word w.Sort = true
is_clause_word w.Limit = true
is_clause_word w.Collect = true
is_clause_word w.Return = true
is_clause_word other = false

abbrev pub effect_of_keyword : Keyword → Effect
effect_of_keyword w.Not = does.OpensSign
effect_of_keyword keyword = if is_clause_word keyword then does.ClosesTernaries else does.ClosesSigns

abbrev pub effect_of : TokenKind → Effect
effect_of (k.Symbol symbol) = effect_of_symbol symbol
effect_of (k.Keyword keyword) = effect_of_keyword keyword
effect_of other = does.ClosesSigns

abbrev pub change : Effect → Open → Open
change does.OpensBracket o = open_bracket o
change does.ClosesBracket o = close_bracket o.outer
change does.OpensTernary o = open_ternary o
change does.ClosesTernaries o = close_ternaries o
change does.OpensSign o = open_sign o
change does.ClosesSigns o = close_signs o

abbrev pub pass : TokenKind → Open → Open
pass t o = change (effect_of t) o

abbrev pub nesting_from : Open → Tokens → ℕ
nesting_from o [] = open_now o
nesting_from o (t ∷ ts) = max (open_now o) (nesting_from (pass t o) ts)

-- the greatest number of brackets, ternaries and signs that are open at once
abbrev pub nesting : Tokens → ℕ
nesting ts = nesting_from nothing_open ts

-- clause words and `=`
abbrev pub is_mark : TokenKind → Bool
is_mark (k.Keyword keyword) = is_clause_word keyword
is_mark (k.Symbol s.Assign) = true
is_mark other = false

-- the number of clause marks
abbrev pub marks : Tokens → ℕ
marks [] = 0
marks (t ∷ ts) = if is_mark t then suc (marks ts) else marks ts
