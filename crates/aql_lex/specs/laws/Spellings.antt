-- No two keywords have one name, and no two symbols one spelling.
use Rattle.std.proofs.Common.{◌≡◌, ℕ, ◌<◌, true, List, [], ◌∷◌, Option, Some}
use Rattle.std.proofs.Common.{◌++◌, length, refl, sym, ap, ◌∙◌, arith, map, length-append}
use Rattle.std.specs.Prelude.{find}
use Rattle.std.specs.Char.{to_ascii_lowercase}
use Rattle.std.specs.Str.{bytes_eq}
use Rattle.aql_lex.specs.declared.vocabulary.Keyword.{Keyword}
use Rattle.aql_lex.specs.declared.vocabulary.Keyword.TheVariants as k
use Rattle.aql_lex.specs.declared.vocabulary.Symbol.{Symbol}
use Rattle.aql_lex.specs.declared.vocabulary.Symbol.TheVariants as s
use Rattle.aql_lex.specs.Characters.{begins}
use Rattle.aql_lex.specs.Vocabulary.{name_of, IsReserved, spelling_of}
use Rattle.aql_lex.specs.inner.Scans.{is_other}

unfoldable pub every_keyword : List Keyword
every_keyword =
    k.Aggregate ∷ k.All ∷ k.AllShortestPaths ∷ k.And ∷ k.Any ∷ k.Asc ∷ k.Collect ∷ k.Desc ∷ k.Distinct
    ∷ k.False ∷ k.Filter ∷ k.For ∷ k.Graph ∷ k.In ∷ k.Inbound ∷ k.Insert ∷ k.Into ∷ k.KPaths
    ∷ k.KShortestPaths ∷ k.Let ∷ k.Like ∷ k.Limit ∷ k.None ∷ k.Not ∷ k.Null ∷ k.Or ∷ k.Outbound
    ∷ k.Remove ∷ k.Replace ∷ k.Return ∷ k.ShortestPath ∷ k.Sort ∷ k.True ∷ k.Update ∷ k.Upsert
    ∷ k.Window ∷ k.With ∷ []

unfoldable pub every_symbol : List Symbol
every_symbol =
    s.Equal ∷ s.NotEqual ∷ s.LessOrEqual ∷ s.GreaterOrEqual ∷ s.Range ∷ s.And ∷ s.Or ∷ s.DoubleColon
    ∷ s.Less ∷ s.Greater ∷ s.Assign ∷ s.Dot ∷ s.Plus ∷ s.Minus ∷ s.Star ∷ s.Slash ∷ s.Percent ∷ s.Not
    ∷ s.Question ∷ s.Colon ∷ s.Comma ∷ s.OpenParen ∷ s.CloseParen ∷ s.OpenBracket ∷ s.CloseBracket
    ∷ s.OpenBrace ∷ s.CloseBrace ∷ []

same : {Meant : Type 0} (x y : Meant) → Some x ≡ Some y → x ≡ y
same x y e = cc

-- ---- keywords

-- the keyword whose name in small letters is this text
unfoldable pub keyword_of : List ℕ → Option Keyword
keyword_of text = find (λ keyword. bytes_eq (map to_ascii_lowercase (name_of keyword)) text) every_keyword

pub keyword_of-name : (keyword : Keyword) → keyword_of (map to_ascii_lowercase (name_of keyword)) ≡ Some keyword
unfolding name_of every_keyword keyword_of
keyword_of-name k.Aggregate = refl
keyword_of-name _ = refl

pub one_keyword : (word : List ℕ) (a b : Keyword) → IsReserved word a → IsReserved word b → a ≡ b
one_keyword word a b x y =
    same a b (sym (keyword_of-name a) ∙ ap keyword_of (x ∙ sym y) ∙ keyword_of-name b)

-- ---- symbols

-- the symbol with this spelling
unfoldable pub symbol_of : List ℕ → Option Symbol
symbol_of text = find (λ symbol. bytes_eq (spelling_of symbol) text) every_symbol

pub symbol_of-spelling : (symbol : Symbol) → symbol_of (spelling_of symbol) ≡ Some symbol
unfolding spelling_of every_symbol symbol_of
symbol_of-spelling s.Equal = refl
symbol_of-spelling _ = refl

pub one_symbol : (a b : Symbol) → spelling_of a ≡ spelling_of b → a ≡ b
one_symbol a b e = same a b (sym (symbol_of-spelling a) ∙ ap symbol_of e ∙ symbol_of-spelling b)

pub symbol_begins : (symbol : Symbol) → begins is_other (spelling_of symbol) ≡ true
unfolding spelling_of
symbol_begins s.Equal = refl
symbol_begins _ = refl

pub symbol_shortens : (text rest : List ℕ) (symbol : Symbol) → text ≡ spelling_of symbol ++ rest
    → length rest < length text
symbol_shortens text rest symbol e = by_first (spelling_of symbol) (symbol_begins symbol) e
  where
    by_first : (spelling : List ℕ) → begins is_other spelling ≡ true → text ≡ spelling ++ rest
        → length rest < length text
    by_first [] h e = absurd (cc)
    by_first (b ∷ more) h e = let long = ap length e in let sum = length-append more rest in omega arith
