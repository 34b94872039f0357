-- The bytes of a query's text that have a meaning by themselves (AQL fundamentals, Syntax). All of them are
-- ASCII, so that each is a character of its own. In every definition of this folder `text` is what is left
-- of the query from some place on, and `rest` is what is left after that which stands at its front.
use Rattle.std.specs.Prelude.{ℕ, Bool, false, ◌||◌, ◌==◌, List, [], ◌∷◌}
use Rattle.std.specs.Char.{is_ascii_alphabetic, is_ascii_digit}

abbrev pub line_feed : ℕ
line_feed = 10

abbrev pub star : ℕ
star = 42

abbrev pub slash : ℕ
slash = 47

abbrev pub backslash : ℕ
backslash = 92

abbrev pub backtick : ℕ
backtick = 96

-- a space, a tab, a carriage return or a line feed
abbrev pub is_blank : ℕ → Bool
is_blank b = b == 32 || b == 9 || b == 13 || b == line_feed

-- a character that may begin a word: a letter of ASCII or `_`
abbrev pub is_letter : ℕ → Bool
is_letter b = is_ascii_alphabetic b || b == 95

-- a character that may go on in a word
abbrev pub is_word_part : ℕ → Bool
is_word_part b = is_letter b || is_ascii_digit b

-- `"` or `'`
abbrev pub is_quote : ℕ → Bool
is_quote b = b == 34 || b == 39

-- the text begins with a character that passes the test
abbrev pub begins : (ℕ → Bool) → List ℕ → Bool
begins test [] = false
begins test (b ∷ more) = test b
