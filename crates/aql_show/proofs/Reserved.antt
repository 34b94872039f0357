-- A word is reserved exactly where it is the name of a keyword.
use Rattle.std.proofs.Common.{◌≡◌, ℕ, true, false, Bool, List, [], ◌∷◌, Option, refl, sym, ap, ◌∙◌, map, not}
use Rattle.std.specs.Prelude.{MatchOption, is_none, Some, None}
use Rattle.std.specs.List.{list_any}
use Rattle.std.specs.Char.{to_ascii_lowercase}
use Rattle.std.specs.Str.{bytes_eq}
use Rattle.std.proofs.lemmas.Slice.Eq.{bytes_eq-Decides}
use Rattle.aql_lex.specs.declared.vocabulary.Keyword.{Keyword}
use Rattle.aql_lex.specs.declared.vocabulary.Keyword.TheVariants as k
use Rattle.aql_lex.specs.Vocabulary.{name_of, IsReserved}
use Rattle.aql_show.specs.Names.{keywords, is_reserved}

-- each keyword is one of the list
listed : (keyword : Keyword)
    → list_any (λ other. bytes_eq (map to_ascii_lowercase (name_of other))
    (map to_ascii_lowercase (name_of keyword))) keywords ≡ true
unfolding name_of keywords
listed k.Aggregate = refl
listed _ = refl

refuted : (b : Bool) → (b ≡ true → ⊥) → b ≡ false
refuted true h = absurd (h refl)
refuted false h = refl

unlisted : (word : List ℕ) (all : List Keyword) → ((keyword : Keyword) → IsReserved word keyword → ⊥)
    → list_any (λ other. bytes_eq (map to_ascii_lowercase (name_of other)) (map to_ascii_lowercase word)) all
    ≡ false
unlisted word [] h = refl
unlisted word (x ∷ all) h =
    rw (refuted (bytes_eq (map to_ascii_lowercase (name_of x)) (map to_ascii_lowercase word)) (λ e. h x
    ((bytes_eq-Decides (map to_ascii_lowercase (name_of x)) (map to_ascii_lowercase word)).0 e)))
    (unlisted word all h)

pub is_reserved_or_not : (word : List ℕ) (found : Option Keyword)
    → MatchOption found ((keyword : Keyword) → IsReserved word keyword → ⊥) (IsReserved word)
    → is_none found ≡ not (is_reserved word)
is_reserved_or_not word None h = sym (ap not (unlisted word keywords h))
is_reserved_or_not word (Some keyword) h =
    sym (ap not (ap (λ w. list_any (λ other. bytes_eq (map to_ascii_lowercase (name_of other)) w) keywords)
    (sym h) ∙ listed keyword))
