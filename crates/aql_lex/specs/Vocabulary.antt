-- The keywords of AQL with their names, and its symbols with their spellings (AQL fundamentals, Syntax:
-- Keywords; Operators).
use Rattle.std.specs.Prelude.{◌≡◌, ℕ, Bool, false, ◌&&◌, List, [], ◌∷◌, map, codes}
use Rattle.std.specs.List.{list_all}
use Rattle.std.specs.Char.{to_ascii_lowercase}
use Rattle.aql_lex.specs.declared.vocabulary.Keyword.{Keyword}
use Rattle.aql_lex.specs.declared.vocabulary.Keyword.TheVariants as keyword
use Rattle.aql_lex.specs.declared.vocabulary.Symbol.{Symbol}
use Rattle.aql_lex.specs.declared.vocabulary.Symbol.TheVariants as symbol
use Rattle.aql_lex.specs.Characters.{is_letter, is_word_part}

-- a letter or `_`, and then letters, digits and `_`
abbrev pub is_word : List ℕ → Bool
is_word [] = false
is_word (b ∷ more) = is_letter b && list_all is_word_part more

-- the name of a keyword, in capitals
unfoldable pub name_of : Keyword → List ℕ
name_of keyword.Aggregate = codes "AGGREGATE"
name_of keyword.All = codes "ALL"
name_of keyword.AllShortestPaths = codes "ALL_SHORTEST_PATHS"
name_of keyword.And = codes "AND"
name_of keyword.Any = codes "ANY"
name_of keyword.Asc = codes "ASC"
name_of keyword.Collect = codes "COLLECT"
name_of keyword.Desc = codes "DESC"
name_of keyword.Distinct = codes "DISTINCT"
name_of keyword.False = codes "FALSE"
name_of keyword.Filter = codes "FILTER"
name_of keyword.For = codes "FOR"
name_of keyword.Graph = codes "GRAPH"
name_of keyword.In = codes "IN"
name_of keyword.Inbound = codes "INBOUND"
name_of keyword.Insert = codes "INSERT"
name_of keyword.Into = codes "INTO"
name_of keyword.KPaths = codes "K_PATHS"
name_of keyword.KShortestPaths = codes "K_SHORTEST_PATHS"
name_of keyword.Let = codes "LET"
name_of keyword.Like = codes "LIKE"
name_of keyword.Limit = codes "LIMIT"
name_of keyword.None = codes "NONE"
name_of keyword.Not = codes "NOT"
name_of keyword.Null = codes "NULL"
name_of keyword.Or = codes "OR"
name_of keyword.Outbound = codes "OUTBOUND"
name_of keyword.Remove = codes "REMOVE"
name_of keyword.Replace = codes "REPLACE"
name_of keyword.Return = codes "RETURN"
name_of keyword.ShortestPath = codes "SHORTEST_PATH"
name_of keyword.Sort = codes "SORT"
name_of keyword.True = codes "TRUE"
name_of keyword.Update = codes "UPDATE"
name_of keyword.Upsert = codes "UPSERT"
name_of keyword.Window = codes "WINDOW"
name_of keyword.With = codes "WITH"

-- the word is the name of this keyword, in any letter case
abbrev pub IsReserved : List ℕ → Keyword → Type 0
IsReserved word reserved = map to_ascii_lowercase (name_of reserved) ≡ map to_ascii_lowercase word

-- the spelling of a symbol
unfoldable pub spelling_of : Symbol → List ℕ
spelling_of symbol.Equal = codes "=="
spelling_of symbol.NotEqual = codes "!="
spelling_of symbol.LessOrEqual = codes "<="
spelling_of symbol.GreaterOrEqual = codes ">="
spelling_of symbol.Range = codes ".."
spelling_of symbol.And = codes "&&"
spelling_of symbol.Or = codes "||"
spelling_of symbol.DoubleColon = codes "::"
spelling_of symbol.Less = codes "<"
spelling_of symbol.Greater = codes ">"
spelling_of symbol.Assign = codes "="
spelling_of symbol.Dot = codes "."
spelling_of symbol.Plus = codes "+"
spelling_of symbol.Minus = codes "-"
spelling_of symbol.Star = codes "*"
spelling_of symbol.Slash = codes "/"
spelling_of symbol.Percent = codes "%"
spelling_of symbol.Not = codes "!"
spelling_of symbol.Question = codes "?"
spelling_of symbol.Colon = codes ":"
spelling_of symbol.Comma = codes ","
spelling_of symbol.OpenParen = codes "("
spelling_of symbol.CloseParen = codes ")"
spelling_of symbol.OpenBracket = codes "["
spelling_of symbol.CloseBracket = codes "]"
spelling_of symbol.OpenBrace = codes "{"
spelling_of symbol.CloseBrace = codes "}"
