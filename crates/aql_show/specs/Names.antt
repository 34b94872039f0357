-- Names as a query writes them (AQL fundamentals, Syntax: Names), and variables with their numbers.
use Rattle.std.specs.Prelude.{ℕ, ◌-◌, List, [], ◌∷◌, ◌++◌, map, Bool, cond, not, ◌&&◌, codes, bytes_eq, slice_get, option_map, unwrap_or}
use Rattle.std.specs.List.{list_any}
use Rattle.std.specs.Char.{to_ascii_lowercase}
use Rattle.std.specs.Fmt.{decimal}
use Rattle.aql_lex.specs.declared.vocabulary.Keyword.{Keyword}
use Rattle.aql_lex.specs.declared.vocabulary.Keyword.TheVariants as k
use Rattle.aql_lex.specs.Vocabulary.{is_word, name_of}
use Rattle.aql_tree.specs.declared.syntax.Ident.{Ident}
use Rattle.aql_tree.specs.declared.syntax.Ident.TheVariants.{Name, Num}
use Rattle.aql_plan.specs.declared.facts.Facts.{Facts}
use Rattle.aql_plan.specs.declared.facts.CollFact.{CollFact}

unfoldable pub keywords : List Keyword
keywords = k.Aggregate ∷ k.All ∷ k.AllShortestPaths ∷ k.And ∷ k.Any ∷ k.Asc ∷ k.Collect ∷ k.Desc
    ∷ k.Distinct ∷ k.False ∷ k.Filter ∷ k.For ∷ k.Graph ∷ k.In ∷ k.Inbound ∷ k.Insert ∷ k.Into ∷ k.KPaths
    ∷ k.KShortestPaths ∷ k.Let ∷ k.Like ∷ k.Limit ∷ k.None ∷ k.Not ∷ k.Null ∷ k.Or ∷ k.Outbound
    ∷ k.Remove ∷ k.Replace ∷ k.Return ∷ k.ShortestPath ∷ k.Sort ∷ k.True ∷ k.Update ∷ k.Upsert
    ∷ k.Window ∷ k.With ∷ []

-- the word is the name of a keyword, in any letter case
abbrev pub is_reserved : List ℕ → Bool
is_reserved word =
    list_any (λ keyword. bytes_eq (map to_ascii_lowercase (name_of keyword)) (map to_ascii_lowercase word))
    keywords

-- a name that needs no backticks
abbrev pub is_plain : List ℕ → Bool
is_plain name = is_word name && not (is_reserved name)

abbrev pub name_text : List ℕ → List ℕ
name_text name = cond (is_plain name) name (codes "`" ++ name ++ codes "`")

-- a variable is its name, `#` and its number; the name of variable n stands at place n - 1. Where a name is
-- missing it is empty, and a variable that has no number is its name alone
abbrev pub variable_text : List (List ℕ) → Ident → List ℕ
variable_text names (Num n) = name_text (unwrap_or (slice_get names (n - 1)) []) ++ codes "#" ++ decimal n
variable_text names (Name x) = name_text x

abbrev pub collection_text : Facts → ℕ → List ℕ
collection_text facts coll =
    name_text (unwrap_or (option_map (λ (c : CollFact). c.name) (slice_get facts.collections coll)) [])
