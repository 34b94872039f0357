-- The operator LIKE (AQL fundamentals, Operators): `_` stands for one character, `%` for any run of
-- characters, and a backslash before `_`, `%` or a backslash for that character itself. Any other backslash
-- is itself.
use Rattle.std.specs.Prelude.{ℕ, List, [], ◌∷◌, Bool, true, false, cond, ◌&&◌, ◌||◌, ◌==◌, chars}
use Rattle.std.specs.List.{list_any}
use Rattle.aql_value.specs.Datum.{Datum, text}
use Rattle.aql_func.specs.Texts.{suffixes}

-- a piece of a pattern: one character, any run of characters, or this character
pub data Piece : Type 0 where
  one : Piece
  run : Piece
  this : ℕ → Piece

-- `_` is 95, `%` is 37, and a backslash is 92
abbrev pub piece : ℕ → Piece
piece c = cond (c == 95) one (cond (c == 37) run (this c))

abbrev pub is_escapable : ℕ → Bool
is_escapable c = (c == 95) || (c == 37) || (c == 92)

abbrev pub pieces : List ℕ → List Piece
pieces [] = []
pieces (c ∷ []) = piece c ∷ []
pieces (c ∷ d ∷ cs) = cond ((c == 92) && is_escapable d) (this d ∷ pieces cs) (piece c ∷ pieces (d ∷ cs))

-- whether the pieces, in order, make up all of the characters
abbrev pub fits : List Piece → List ℕ → Bool
fits [] [] = true
fits [] (c ∷ cs) = false
fits (run ∷ ps) cs = list_any (fits ps) (suffixes cs)
fits (one ∷ ps) [] = false
fits (one ∷ ps) (c ∷ cs) = fits ps cs
fits (this d ∷ ps) [] = false
fits (this d ∷ ps) (c ∷ cs) = (c == d) && fits ps cs

-- false unless both are texts
abbrev pub is_like : Datum → Datum → Bool
is_like (text s) (text pattern) = fits (pieces (chars pattern)) (chars s)
is_like t u = false
