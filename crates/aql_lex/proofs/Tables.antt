-- The tables of keywords and symbols in memory.
use Rattle.std.proofs.Common.{◌≡◌, ◌≢◌, ℕ, zero, suc, ◌<◌, ◌≤◌, true, List, [], ◌∷◌, ◌++◌}
use Rattle.std.proofs.Common.{length, get_or, drop, map, sym, ap, ◌∙◌, subst, arith, length-append}
use Rattle.std.specs.Prelude.{nat_le}
use Rattle.std.specs.Char.{to_ascii_lowercase}
use Rattle.std.proofs.lemmas.Bool.Decides.{nat_tests}
use Rattle.std.proofs.lemmas.List.{get_or-map, length-map}
use Rattle.std.proofs.lemmas.List.Sums.{AllPass-from_list_all}
use denote.Ref.{Bor}
use Rattle.aql_lex.specs.declared.vocabulary.Keyword.{Keyword}
use Rattle.aql_lex.specs.declared.vocabulary.Symbol.{Symbol}
use Rattle.aql_lex.specs.Vocabulary.{name_of, IsReserved, spelling_of}
use Rattle.aql_lex.specs.inner.Scans.{lines_of, IsTable, longer_first, NoSymbol, IsLongestSymbol}
use Rattle.aql_lex.specs.laws.Runs.{and_left, and_right}

-- in a table with the longer spellings first, a later line is no longer
later_shorter : {Meant : Type 0} (lines : List (List ℕ × Meant)) → longer_first lines ≡ true → (i j : ℕ)
    (d : List ℕ × Meant) → i ≤ j → j < length lines
    → length (get_or lines j d).0 ≤ length (get_or lines i d).0
later_shorter [] h i j d order within = absurd (omega arith)
later_shorter (line ∷ lines) h zero zero d order within = omega arith
later_shorter {Meant} (line ∷ lines) h zero (suc j) d order within =
    let shorter : nat_le (length (get_or lines j d).0) (length line.0) ≡ true =
    AllPass-from_list_all {X = List ℕ × Meant} (λ other. nat_le (length other.0) (length line.0)) lines
    (and_left _ _ h) j d (omega arith) in
    grind (arith, nat_tests)
later_shorter (line ∷ lines) h (suc i) zero d order within = absurd (omega arith)
later_shorter (line ∷ lines) h (suc i) (suc j) d order within =
    later_shorter lines (and_right _ _ h) i j d (omega arith) (omega arith)

module _ {Meant : Type 0} (spelling : Meant → List ℕ) (lines : List (Bor (List ℕ) × Meant))
    (table : IsTable spelling (lines_of lines)) where
  line_at : (i : ℕ) (d : Bor (List ℕ) × Meant) (e : List ℕ × Meant) → i < length lines
      → get_or (lines_of lines) i e ≡ ((get_or lines i d).0.now, (get_or lines i d).1)
  line_at i d e within =
      get_or-map {X = Bor (List ℕ) × Meant} {Y = List ℕ × Meant} (λ line. (line.0.now, line.1)) lines i d e
      within

  same_length : length (lines_of lines) ≡ length lines
  same_length = length-map lines (λ line. (line.0.now, line.1))

  -- how a line is spelled
  pub spelled_at : (i : ℕ) (d : Bor (List ℕ) × Meant) → i < length lines
      → (get_or lines i d).0.now ≡ spelling (get_or lines i d).1
  spelled_at i d within =
      let long = same_length in
      subst (λ line. line.0 ≡ spelling line.1) (line_at i d (d.0.now, d.1) within)
      (table.correct i (d.0.now, d.1) (omega arith))

  -- the line of what it stands for
  pub line_of : (meant : Meant) (d : Bor (List ℕ) × Meant)
      → (i : ℕ) × ((i < length lines) × ((get_or lines i d).0.now ≡ spelling meant))
  line_of meant d =
      let found = table.complete meant in
      let long = same_length in
      let within : found.0 < length lines = omega (arith, found.1) in
      let same = sym (line_at found.0 d (spelling meant, meant) within) ∙ found.2 in
      (found.0, (within, ap (λ line. line.0) same))

pub keyword_none : (lines : List (Bor (List ℕ) × Keyword)) → IsTable name_of (lines_of lines)
    → (word : List ℕ) (n : ℕ) → length lines ≤ n
    → ((i : ℕ) (d : Bor (List ℕ) × Keyword) → i < n
    → map to_ascii_lowercase (get_or lines i d).0.now ≢ map to_ascii_lowercase word)
    → (keyword : Keyword) → IsReserved word keyword → ⊥
keyword_none [] table word n all none keyword h =
    let within = (table.complete keyword).1 in absurd (omega arith)
keyword_none (line ∷ lines) table word n all none keyword h =
    let found = line_of name_of (line ∷ lines) table keyword line in
    let within = found.1.0 in
    none found.0 line (omega arith) (ap (map to_ascii_lowercase) found.1.1 ∙ h)

pub symbol_none : (lines : List (Bor (List ℕ) × Symbol)) → IsTable spelling_of (lines_of lines)
    → (text : List ℕ) (n : ℕ) → length lines ≤ n
    → ((i : ℕ) (d : Bor (List ℕ) × Symbol) (rest : List ℕ) → i < n → text ≢ (get_or lines i d).0.now ++ rest)
    → NoSymbol text
symbol_none [] table text n all none symbol rest e =
    let within = (table.complete symbol).1 in absurd (omega arith)
symbol_none (line ∷ lines) table text n all none symbol rest e =
    let found = line_of spelling_of (line ∷ lines) table symbol line in
    let within = found.1.0 in
    none found.0 line rest (omega arith) (e ∙ ap (λ q. q ++ rest) (sym found.1.1))

module _ (lines : List (Bor (List ℕ) × Symbol)) (table : IsTable spelling_of (lines_of lines)) where
  pub symbol_found : (text : List ℕ) → longer_first (lines_of lines) ≡ true
      → (i : ℕ) (d : Bor (List ℕ) × Symbol) (n : ℕ) (rest : List ℕ) → i < length lines
      → ((j : ℕ) (d : Bor (List ℕ) × Symbol) (rest : List ℕ) → j < i
      → text ≢ (get_or lines j d).0.now ++ rest)
      → text ≡ (get_or lines i d).0.now ++ drop n text → rest ≡ drop n text
      → IsLongestSymbol text (get_or lines i d).1 rest
  symbol_found text order i d n rest within none splits cut =
      let stands : text ≡ spelling_of (get_or lines i d).1 ++ rest =
      splits ∙ (λ x. spelled_at spelling_of lines table i d within x ++ sym cut x) in
      record {
        stands = stands;
        longest = λ other after e.
            let found = line_of spelling_of lines table other d in
            let earlier : found.0 < i → ⊥ =
            λ before. none found.0 d after before (e ∙ ap (λ q. q ++ after) (sym found.1.1)) in
            let size = same_length spelling_of lines table in
            let found_within = found.1.0 in
            let shorter = later_shorter (lines_of lines) order i found.0 (d.0.now, d.1) (omega arith)
            (omega arith) in
            let here =
            ap (λ line. length line.0) (line_at spelling_of lines table i d (d.0.now, d.1) within) in
            let there =
            ap (λ line. length line.0) (line_at spelling_of lines table found.0 d (d.0.now, d.1) found.1.0) in
            let long = ap length (spelled_at spelling_of lines table i d within) in
            let short = ap length found.1.1 in
            let same = ap length (sym stands ∙ e) in
            let sum = length-append (spelling_of (get_or lines i d).1) rest in
            let total = length-append (spelling_of other) after in
            omega arith;
      }
