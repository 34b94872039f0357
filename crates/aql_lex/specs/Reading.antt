-- The reading of a query's whole text, from its front (AQL fundamentals, Syntax). At each place the first
-- of three rules that applies is used: a separator is passed over; a fault ends the reading; of the tokens
-- that stand there the longest is taken. A place is the number of bytes before it.
use Rattle.std.specs.Prelude.{◌≡◌, ℕ, ◌-◌, ◌≤◌, List, [], ◌∷◌, length, Option, Some, None}
use Rattle.aql_lex.specs.declared.kinds.Token.{Token}
use Rattle.aql_lex.specs.declared.kinds.TokenKind.{TokenKind}
use Rattle.aql_lex.specs.declared.faults.LexKind.{LexKind}
use Rattle.aql_lex.specs.Tokens.{Separates, IsToken}
use Rattle.aql_lex.specs.Faults.{Faults}

abbrev pub NoSeparator : List ℕ → Type 0
NoSeparator text = (rest : List ℕ) → Separates text rest → ⊥

abbrev pub NoFault : List ℕ → Type 0
NoFault text = (kind : LexKind) (at : List ℕ) → Faults kind text at → ⊥

-- a token of this kind stands before the rest, and none leaves less after it
pub record IsLongest (kind : TokenKind) (text rest : List ℕ) : Type 0 where
  pub stands : IsToken kind text rest
  pub longest : (other : TokenKind) (after : List ℕ) → IsToken other text after → length rest ≤ length after

-- in a query of `size` bytes, what is left of it reads as these tokens, up to its end or to this fault at
-- this place
pub data Reads (size : ℕ) : List ℕ → List Token → Option (ℕ × LexKind) → Type 0 where
  over : Reads size [] [] None
  separator : {text rest : List ℕ} {tokens : List Token} {end : Option (ℕ × LexKind)}
      → Separates text rest → Reads size rest tokens end → Reads size text tokens end
  fault : {text at : List ℕ} {kind : LexKind}
      → NoSeparator text → Faults kind text at → Reads size text [] (Some (size - length at, kind))
  token : {text rest : List ℕ} {kind : TokenKind} {tokens : List Token} {end : Option (ℕ × LexKind)}
      → NoSeparator text → NoFault text → IsLongest kind text rest → Reads size rest tokens end
      → Reads size text
      (record { start = size - length text; end = size - length rest; kind = kind } ∷ tokens) end

-- the text has these tokens
abbrev pub Lexes : List ℕ → List Token → Type 0
Lexes text tokens = Reads (length text) text tokens None

-- the reading of the text ends at this place with this fault
abbrev pub Stops : List ℕ → ℕ → LexKind → Type 0
Stops text place kind = (tokens : List Token) × Reads (length text) text tokens (Some (place, kind))

-- a text has one reading at most
abbrev pub HasOneReading : Type 0
HasOneReading =
    (text : List ℕ) (tokens others : List Token) (end stop : Option (ℕ × LexKind))
    → Reads (length text) text tokens end → Reads (length text) text others stop
    → (tokens ≡ others) × (end ≡ stop)
