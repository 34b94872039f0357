-- What the parts of the lexer promise each other. The contract of `lex` needs none of this.
use Rattle.std.specs.Prelude.{◌≡◌, ◌≢◌, ◌<◌, ◌≤◌, ◌-◌, ℕ, Bool, true, false, not, ◌||◌, ◌&&◌, ◌==◌}
use Rattle.std.specs.Prelude.{List, [], ◌∷◌, ◌++◌, length, map, All, Contains, nat_le, slice_index, IsUtf8}
use Rattle.std.specs.Char.{is_ascii_digit}
use Rattle.std.specs.List.{list_all}
use denote.Ref.{Bor}
use Rattle.aql_lex.specs.declared.vocabulary.Symbol.{Symbol}
use Rattle.aql_lex.specs.declared.scans.Scan.{Scan}
use Rattle.aql_lex.specs.declared.scans.Scan.TheVariants.{Separator, Fault, Token}
use Rattle.aql_lex.specs.Characters.{slash, star, backtick, is_blank, is_letter, is_quote}
use Rattle.aql_lex.specs.Vocabulary.{spelling_of}
use Rattle.aql_lex.specs.Tokens.{Separates}
use Rattle.aql_lex.specs.Faults.{Faults}
use Rattle.aql_lex.specs.Reading.{NoSeparator, NoFault, IsLongest}

-- what is taken at the front of a text, by the first of the three rules that applies
abbrev pub Takes : List ℕ → Scan → Type 0
Takes text (Separator rest) = Separates text rest.now
Takes text (Fault kind at) = NoSeparator text × Faults kind text at.now
Takes text (Token kind rest) = NoSeparator text × NoFault text × IsLongest kind text rest.now

-- the text has so many bytes at its front, and the last of them is ASCII
abbrev pub EndsInAscii : List ℕ → ℕ → Type 0
EndsInAscii text n = (0 < n) × (n ≤ length text) × (slice_index text (n - 1) < 128)

-- what is left is in UTF-8; after a separator or a token it is less than before
abbrev pub Leaves : List ℕ → Scan → Type 0
Leaves text (Separator rest) = IsUtf8 rest.now × (length rest.now < length text)
Leaves text (Fault kind at) = length at.now ≤ length text
Leaves text (Token kind rest) = IsUtf8 rest.now × (length rest.now < length text)

-- ---- what a text begins with

-- a character that begins neither a blank, a word, a number, a text nor a quoted name
abbrev pub is_other : ℕ → Bool
is_other b = not (is_blank b || is_letter b || is_ascii_digit b || is_quote b || b == backtick)

-- the text begins with `//` or `/*`
abbrev pub begins_comment : List ℕ → Bool
begins_comment (a ∷ b ∷ more) = a == slash && (b == slash || b == star)
begins_comment _ = false

-- ---- tables

-- the lines of a table in memory: how each is spelled, and what that stands for
abbrev pub lines_of : {Meant : Type 0} → List (Bor (List ℕ) × Meant) → List (List ℕ × Meant)
lines_of {Meant} lines =
    map {A = Bor (List ℕ) × Meant} {B = List ℕ × Meant} (λ line. (line.0.now, line.1)) lines

-- each line of the table has the spelling of what it stands for, and nothing is without a line
pub record IsTable {Meant : Type 0} (spelling : Meant → List ℕ) (lines : List (List ℕ × Meant)) : Type 0 where
  pub correct : All (λ line. line.0 ≡ spelling line.1) lines
  pub complete : (meant : Meant) → Contains lines (spelling meant, meant)

-- no spelling of the table is longer than one before it
abbrev pub longer_first : {Meant : Type 0} → List (List ℕ × Meant) → Bool
longer_first [] = true
longer_first (line ∷ lines) =
    list_all (λ other. nat_le (length other.0) (length line.0)) lines && longer_first lines

-- no symbol stands at the front of the text
abbrev pub NoSymbol : List ℕ → Type 0
NoSymbol text = (symbol : Symbol) (rest : List ℕ) → text ≢ spelling_of symbol ++ rest

-- this symbol stands before the rest, and none leaves less after it
pub record IsLongestSymbol (text : List ℕ) (symbol : Symbol) (rest : List ℕ) : Type 0 where
  pub stands : text ≡ spelling_of symbol ++ rest
  pub longest : (other : Symbol) (after : List ℕ) → text ≡ spelling_of other ++ after
      → length rest ≤ length after
