-- The tokens of the query of the script that is made.
use Rattle.std.proofs.Common.{◌≡◌, true, List, [], ◌∷◌, ◌++◌, length, refl}
use Rattle.std.specs.Prelude.{codes}
use Prim.Native.String.{String}
use Rattle.aql_lex.specs.declared.kinds.Token.{Token}
use Rattle.aql_lex.specs.declared.vocabulary.Keyword.TheVariants as k
use Rattle.aql_lex.specs.declared.vocabulary.Symbol.TheVariants as s
use Rattle.aql_lex.specs.Reading.{Lexes}
use Rattle.aql_lex.specs.Vocabulary.{name_of, spelling_of}
use Rattle.aql_lex.specs.laws.Spellings.{every_keyword, keyword_of, every_symbol, symbol_of}
use Rattle.aql_options.specs.Generated.{query}
use Rattle.aql_top.proofs.made.Pieces.{Piece, blank, word, keyword, number, symbol, spelled, tokens_of, are_whole, pieces_lex}

abbrev space : Piece
space = blank 32

abbrev name : String → Piece
name x = word (codes x)

-- FOR u IN users FILTER u.g < 3
abbrev each_user : List Piece
each_user =
    keyword k.For ∷ space ∷ name "u" ∷ space ∷ keyword k.In ∷ space ∷ name "users" ∷ space
    ∷ keyword k.Filter ∷ space ∷ name "u" ∷ symbol s.Dot ∷ name "g" ∷ space ∷ symbol s.Less ∷ space
    ∷ number (codes "3") ∷ space ∷ []

-- FOR v IN 1..2 OUTBOUND u knows
abbrev each_path : List Piece
each_path =
    keyword k.For ∷ space ∷ name "v" ∷ space ∷ keyword k.In ∷ space ∷ number (codes "1") ∷ symbol s.Range
    ∷ number (codes "2") ∷ space ∷ keyword k.Outbound ∷ space ∷ name "u" ∷ space ∷ name "knows" ∷ space ∷ []

-- COLLECT g = u.g AGGREGATE c = COUNT(v), s = SUM(v.n)
abbrev groups : List Piece
groups =
    keyword k.Collect ∷ space ∷ name "g" ∷ space ∷ symbol s.Assign ∷ space ∷ name "u" ∷ symbol s.Dot
    ∷ name "g" ∷ space ∷ keyword k.Aggregate ∷ space ∷ name "c" ∷ space ∷ symbol s.Assign ∷ space
    ∷ name "COUNT" ∷ symbol s.OpenParen ∷ name "v" ∷ symbol s.CloseParen ∷ symbol s.Comma ∷ space
    ∷ name "s" ∷ space ∷ symbol s.Assign ∷ space ∷ name "SUM" ∷ symbol s.OpenParen ∷ name "v" ∷ symbol s.Dot
    ∷ name "n" ∷ symbol s.CloseParen ∷ space ∷ []

-- RETURN [g, c, s]
abbrev answers : List Piece
answers =
    keyword k.Return ∷ space ∷ symbol s.OpenBracket ∷ name "g" ∷ symbol s.Comma ∷ space ∷ name "c"
    ∷ symbol s.Comma ∷ space ∷ name "s" ∷ symbol s.CloseBracket ∷ blank 10 ∷ []

abbrev pub made_pieces : List Piece
made_pieces = each_user ++ (each_path ++ (groups ++ answers))

abbrev pub made_tokens : List Token
made_tokens = tokens_of (length query) made_pieces

spelled_so : spelled made_pieces ≡ query
unfolding name_of spelling_of
spelled_so = refl

all_whole : are_whole made_pieces ≡ true
unfolding name_of spelling_of every_keyword keyword_of every_symbol symbol_of
all_whole = refl

pub made_lexes : Lexes query made_tokens
made_lexes = pieces_lex query made_pieces spelled_so all_whole
