-- What may stand at one place of a query's text: a separator or a token (AQL fundamentals, Syntax).
use Rattle.std.specs.Prelude.{◌≡◌, ◌≢◌, ℕ, ◌≤◌, ◌<◌, true, List, [], ◌∷◌, ◌++◌, length, pos, ◌≤ℤ◌, All}
use Rattle.aql_lex.specs.declared.kinds.TokenKind.{TokenKind}
use Rattle.aql_lex.specs.declared.kinds.TokenKind.TheVariants as k
use Rattle.aql_lex.specs.declared.vocabulary.Keyword.{Keyword}
use Rattle.aql_lex.specs.Characters.{line_feed, star, slash, backtick, is_blank, is_quote}
use Rattle.aql_lex.specs.Vocabulary.{is_word, IsReserved, spelling_of}
use Rattle.aql_lex.specs.Numbers.{largest, are_digits, value_of}
use Rattle.aql_lex.specs.Texts.{Writes}

-- the first `*/` of the text stands between these words and the rest
pub record ClosesFirst (text words rest : List ℕ) : Type 0 where
  pub closes : text ≡ words ++ star ∷ slash ∷ rest
  pub first : (others more : List ℕ) → text ≡ others ++ star ∷ slash ∷ more → length words ≤ length others

-- a separator stands before the rest: a blank, a comment up to the end of its line or of the text, or one
-- up to its `*/`
pub data Separates : List ℕ → List ℕ → Type 0 where
  blank : {b : ℕ} {rest : List ℕ} → is_blank b ≡ true → Separates (b ∷ rest) rest
  line : (words : List ℕ) {rest : List ℕ} → All (λ b. b ≢ line_feed) words
      → Separates (slash ∷ slash ∷ words ++ line_feed ∷ rest) rest
  last_line : (words : List ℕ) → All (λ b. b ≢ line_feed) words → Separates (slash ∷ slash ∷ words) []
  block : {text words rest : List ℕ} → ClosesFirst text words rest → Separates (slash ∷ star ∷ text) rest

-- a token of this kind stands before the rest
abbrev pub IsToken : TokenKind → List ℕ → List ℕ → Type 0
IsToken (k.Word word) text rest =
    (is_word word ≡ true) × ((keyword : Keyword) → IsReserved word keyword → ⊥) × (text ≡ word ++ rest)
IsToken (k.Keyword keyword) text rest =
    (word : List ℕ) × ((is_word word ≡ true) × IsReserved word keyword × (text ≡ word ++ rest))
IsToken (k.Quoted name) text rest =
    (0 < length name) × All (λ b. b ≢ backtick) name × (text ≡ backtick ∷ name ++ backtick ∷ rest)
IsToken (k.Number number) text rest =
    (digits : List ℕ)
    × ((are_digits digits ≡ true)
    × (value_of digits ≤ largest)
    × (number ≡ pos (value_of digits))
    × (text ≡ digits ++ rest))
IsToken (k.Text value) text rest =
    (quote : ℕ)
    × ((inner : List ℕ)
    × ((is_quote quote ≡ true) × Writes quote inner value (quote ∷ rest) × (text ≡ quote ∷ inner)))
IsToken (k.Symbol symbol) text rest = text ≡ spelling_of symbol ++ rest

-- the token is no number below 0
abbrev pub IsUnsigned : TokenKind → Type 0
IsUnsigned (k.Number number) = pos 0 ≤ℤ number
IsUnsigned _ = Unit {0}
