-- The code's pieces of a pattern, and its row of answers; for private clauses.
use Rattle.std.specs.Prelude.{ℕ, List, [], ◌∷◌, Bool, true, false, ◌&&◌, ◌||◌, ◌==◌, map}
use Rattle.aql_func.specs.Like.{Piece, one, run, this, fits}
use Rattle.aql_func.specs.Texts.{suffixes}
use Rattle.aql_func.specs.declared.like.Piece.{Piece as Entry}
use Rattle.aql_func.specs.declared.like.Piece.TheVariants.{One, Run, This}

abbrev pub piece_of : Entry → Piece
piece_of One = one
piece_of Run = run
piece_of (This c) = this c

-- whether the pieces make up each suffix of the text, the text itself first
abbrev pub row_of : List Piece → List ℕ → List Bool
row_of ps cs = map (fits ps) (suffixes cs)

abbrev pub or_head : Bool → List Bool → Bool
or_head b [] = b
or_head b (c ∷ cs) = b || c

-- each answer, or a later one
abbrev pub ors : List Bool → List Bool
ors [] = []
ors (b ∷ bs) = or_head b (ors bs) ∷ ors bs

abbrev pub takes : Piece → ℕ → Bool
takes (this d) c = c == d
takes one c = true
takes run c = true

abbrev pub head_of : List Bool → Bool
head_of [] = false
head_of (b ∷ bs) = b

-- the answers with one more piece in front that takes one character
abbrev pub shift : Piece → List ℕ → List Bool → List Bool
shift p [] bs = false ∷ []
shift p (c ∷ cs) [] = false ∷ []
shift p (c ∷ cs) (b ∷ bs) = (takes p c && head_of bs) ∷ shift p cs bs
