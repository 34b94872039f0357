-- Where the text of a query is no AQL: the faults of its tokens, and where each of them is (AQL
-- fundamentals, Syntax; Data types). `at` is what is left of the query from the fault's place on.
use Rattle.std.specs.Prelude.{◌≡◌, ◌≢◌, ℕ, ◌<◌, true, false, List, [], ◌∷◌, ◌++◌, None, All, codes}
use Rattle.aql_lex.specs.declared.kinds.TokenKind.{TokenKind}
use Rattle.aql_lex.specs.declared.faults.LexKind.{LexKind}
use Rattle.aql_lex.specs.declared.faults.LexKind.TheVariants as f
use Rattle.aql_lex.specs.Characters.{star, slash, backslash, backtick, is_quote}
use Rattle.aql_lex.specs.Numbers.{largest, are_digits, value_of, begins_digit, is_fraction}
use Rattle.aql_lex.specs.Texts.{Writes, escape}
use Rattle.aql_lex.specs.Tokens.{IsToken}

-- a text or a name without its end, a comment without its `*/`, a fraction, a number that is too large, or a
-- text with a backslash that begins no escape begins here
pub data Breaks : LexKind → List ℕ → List ℕ → Type 0 where
  open_text : {quote : ℕ} {inner value : List ℕ} → is_quote quote ≡ true → Writes quote inner value []
      → Breaks f.OpenString (quote ∷ inner) (quote ∷ inner)
  open_name : (name : List ℕ) → All (λ b. b ≢ backtick) name
      → Breaks f.OpenString (backtick ∷ name) (backtick ∷ name)
  open_comment : {text : List ℕ} → ((words rest : List ℕ) → text ≢ words ++ star ∷ slash ∷ rest)
      → Breaks f.OpenComment (slash ∷ star ∷ text) (slash ∷ star ∷ text)
  bad_escape : {quote : ℕ} {inner value after : List ℕ} → is_quote quote ≡ true
      → Writes quote inner value (backslash ∷ after) → escape after ≡ None
      → Breaks f.BadEscape (quote ∷ inner) (backslash ∷ after)
  fraction : (digits rest : List ℕ) → are_digits digits ≡ true → is_fraction rest ≡ true
      → Breaks f.Fraction (digits ++ rest) (digits ++ rest)
  too_large : (digits rest : List ℕ) → are_digits digits ≡ true → begins_digit rest ≡ false
      → is_fraction rest ≡ false → largest < value_of digits
      → Breaks f.NumberTooLarge (digits ++ rest) (digits ++ rest)

-- one of these, or a character at which no token and none of these begins, as the first backtick of an empty
-- name
pub data Faults : LexKind → List ℕ → List ℕ → Type 0 where
  breaks : {kind : LexKind} {text at : List ℕ} → Breaks kind text at → Faults kind text at
  bad_char : {b : ℕ} {text : List ℕ}
      → ((kind : TokenKind) (rest : List ℕ) → IsToken kind (b ∷ text) rest → ⊥)
      → ((kind : LexKind) (at : List ℕ) → Breaks kind (b ∷ text) at → ⊥)
      → Faults f.BadChar (b ∷ text) (b ∷ text)

-- what is said of a fault
abbrev pub lex_text : LexKind → List ℕ
lex_text f.BadChar = codes "bad character"
lex_text f.OpenString = codes "open string"
lex_text f.OpenComment = codes "open comment"
lex_text f.BadEscape = codes "bad escape"
lex_text f.Fraction = codes "fraction"
lex_text f.NumberTooLarge = codes "number too large"
