-- The tables of the code are those of keywords and symbols.
use Rattle.std.proofs.Common.{◌≡◌, ℕ, true, List, refl, get_or, map}
use Rattle.std.specs.Prelude.{All, Contains}
use Rattle.std.specs.List.{list_all, position_or_len}
use Rattle.std.specs.Str.{bytes_eq}
use Rattle.std.proofs.lemmas.Bool.{ltb-true}
use Rattle.std.proofs.lemmas.List.Sums.{AllPass-from_list_all}
use Rattle.std.proofs.lemmas.Slice.Eq.{bytes_eq-Decides}
use Rattle.aql_lex.specs.declared.vocabulary.Keyword.{Keyword}
use Rattle.aql_lex.specs.declared.vocabulary.Keyword.TheVariants as k
use Rattle.aql_lex.specs.declared.vocabulary.Symbol.{Symbol}
use Rattle.aql_lex.specs.declared.vocabulary.Symbol.TheVariants as s
use Rattle.aql_lex.specs.declared.vocabulary.TheConstants.{KEYWORDS, SYMBOLS}
use Rattle.aql_lex.specs.Vocabulary.{name_of, spelling_of}
use Rattle.aql_lex.specs.inner.Scans.{IsTable}

abbrev pub keywords : List (List ℕ × Keyword)
keywords = map (λ line. (line.0.now, line.1)) KEYWORDS

abbrev pub symbols : List (List ℕ × Symbol)
symbols = map (λ line. (line.0.now, line.1)) SYMBOLS

-- the place of the line with this text
abbrev place_of : {Meant : Type 0} → List ℕ → List (List ℕ × Meant) → ℕ
place_of {Meant} text lines = position_or_len {X = List ℕ × Meant} (λ line. bytes_eq line.0 text) lines

each_spelled : {Meant : Type 0} (spelling : Meant → List ℕ) (lines : List (List ℕ × Meant))
    → list_all (λ line. bytes_eq line.0 (spelling line.1)) lines ≡ true
    → All (λ line. line.0 ≡ spelling line.1) lines
each_spelled {Meant} spelling lines h i d within =
    (bytes_eq-Decides (get_or lines i d).0 (spelling (get_or lines i d).1)).0
    (AllPass-from_list_all {X = List ℕ × Meant} (λ line. bytes_eq line.0 (spelling line.1)) lines h i d
    within)

-- ---- keywords

keywords_spelled : list_all (λ line. bytes_eq line.0 (name_of line.1)) keywords ≡ true
unfolding name_of
keywords_spelled = refl

has_keyword : (keyword : Keyword) → Contains keywords (name_of keyword, keyword)
unfolding name_of
has_keyword k.Aggregate = (0, ltb-true _ _ refl, refl)
has_keyword keyword = (place_of (name_of keyword) keywords, ltb-true _ _ refl, refl)

-- the table KEYWORDS of the code has the keywords with their names
pub keyword_table : IsTable name_of keywords
keyword_table = record { correct = each_spelled name_of keywords keywords_spelled; complete = has_keyword }

-- ---- symbols

symbols_spelled : list_all (λ line. bytes_eq line.0 (spelling_of line.1)) symbols ≡ true
unfolding spelling_of
symbols_spelled = refl

has_symbol : (symbol : Symbol) → Contains symbols (spelling_of symbol, symbol)
unfolding spelling_of
has_symbol s.Equal = (0, ltb-true _ _ refl, refl)
has_symbol symbol = (place_of (spelling_of symbol) symbols, ltb-true _ _ refl, refl)

-- the table SYMBOLS of the code has the symbols with their spellings
pub symbol_table : IsTable spelling_of symbols
symbol_table = record { correct = each_spelled spelling_of symbols symbols_spelled; complete = has_symbol }
