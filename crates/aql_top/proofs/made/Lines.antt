-- Scripts of plain lines, and what each line does.
use Rattle.std.proofs.Common.{◌≡◌, ◌<◌, ◌≤◌, ℕ, zero, suc, ◌+◌, ◌-◌, List, [], ◌∷◌, ◌++◌, true, false, Some, refl, sym, ap, ◌∙◌, arith, length, nat_eq, nat_lt, flat_map, append_assoc, append-nil}
use Rattle.std.specs.Prelude.{Ok, slice_index}
use Rattle.std.specs.List.{list_all}
use Rattle.std.specs.Str.Lines.{strip_carriage_return}
use Rattle.std.proofs.lemmas.Bool.{and_parts, false_from_ne_true}
use Rattle.std.proofs.lemmas.Bool.Decides.{Decides-eqb}
use Rattle.std.proofs.lemmas.List.Sums.{AllPass-from_list_all}
use Rattle.std.proofs.lemmas.Grind.{flat_map-append}
use Rattle.aql_value.specs.Datum.{Datum}
use Rattle.aql_value.specs.JsonLine.{json_line}
use Rattle.aql_doc.specs.Held.{Held}
use Rattle.aql_doc.specs.Documents.{add}
use Rattle.aql_script.specs.Pieces.{cut_at, pieces, first_of}
use Rattle.aql_script.specs.Lines.{LineEffect, next, after, read}
use Rattle.aql_script.specs.LineEffects.{line_effect, document}
use Rattle.aql_script.specs.laws.Cuts.{goes}
use Rattle.aql_options.specs.Generated.{up_to}
use Rattle.aql_top.proofs.made.Texts.{is_plain}

-- ---- plain lines

plain_other : (c b : ℕ) → is_plain c ≡ false → is_plain b ≡ true → nat_eq b c ≡ false
plain_other c b off plain =
    false_from_ne_true (nat_eq b c) (λ e. absurd (cc (ap is_plain ((Decides-eqb b c).0 e))))

plain_cut : (l r : List ℕ) → list_all is_plain l ≡ true → cut_at 10 (l ++ 10 ∷ r) ≡ Some (l, r)
plain_cut [] r plain = refl
plain_cut (b ∷ l) r plain =
    let both = and_parts (is_plain b) (list_all is_plain l) plain in
    rw (plain_other 10 b refl both.0, plain_cut l r both.1) refl

plain_kept : (l : List ℕ) → list_all is_plain l ≡ true → strip_carriage_return l ≡ l
plain_kept [] plain = refl
plain_kept (b ∷ l) plain =
    let last = AllPass-from_list_all is_plain (b ∷ l) plain (length (b ∷ l) - 1) 0 (omega arith) in
    rw (plain_other 13 (slice_index (b ∷ l) (length (b ∷ l) - 1)) refl last) refl

-- what a plain line does decides how the lines go on
pub line_goes : (n : ℕ) (held : List Held) (l r : List ℕ) (did : LineEffect) → list_all is_plain l ≡ true
    → line_effect (n + 1) held l ≡ did
    → read line_effect n held (pieces 10 (l ++ 10 ∷ r))
    ≡ after (n + 1) did held (λ more. read line_effect (n + 1) more (pieces 10 r)) r
line_goes n held l r did plain is =
    sym (goes line_effect n held (l ++ 10 ∷ r) l r (read line_effect n held (pieces 10 (l ++ 10 ∷ r))) did
    (sym (plain_cut l r plain)) refl (ap (line_effect (n + 1) held) (plain_kept l plain) ∙ is))

-- ---- lines that are made for the numbers from 1 on

module _ (line text : ℕ → List ℕ) (held_at : ℕ → List Held) (most : ℕ)
    (is : (i : ℕ) (rest : List ℕ) → line i ++ rest ≡ text i ++ 10 ∷ rest)
    (plain : (i : ℕ) → i ≤ most → list_all is_plain (text i) ≡ true)
    (does : (m k : ℕ) → k < most → line_effect m (held_at k) (text (suc k)) ≡ next (held_at (suc k))) where
  last_line : (k : ℕ) (rest : List ℕ)
      → flat_map line (up_to (suc k)) ++ rest ≡ flat_map line (up_to k) ++ (text (suc k) ++ 10 ∷ rest)
  last_line k rest =
      ap (λ bytes. bytes ++ rest) (flat_map-append line (up_to k) (suc k ∷ []))
      ∙ append_assoc (flat_map line (up_to k)) (line (suc k) ++ []) rest
      ∙ ap (λ l. flat_map line (up_to k) ++ (l ++ rest)) (append-nil (line (suc k)))
      ∙ ap (λ bytes. flat_map line (up_to k) ++ bytes) (is (suc k) rest)

  pub lines_go : (k m : ℕ) (rest : List ℕ) → k ≤ most
      → read line_effect m (held_at 0) (pieces 10 (flat_map line (up_to k) ++ rest))
      ≡ read line_effect (m + k) (held_at k) (pieces 10 rest)
  lines_go zero m rest within =
      let same : m ≡ m + 0 = omega arith in ap (λ x. read line_effect x (held_at 0) (pieces 10 rest)) same
  lines_go (suc k) m rest within =
      let next_number : m + k + 1 ≡ m + suc k = omega arith in
      ap (λ bytes. read line_effect m (held_at 0) (pieces 10 bytes)) (last_line k rest)
      ∙ lines_go k m (text (suc k) ++ 10 ∷ rest) (omega arith)
      ∙ line_goes (m + k) (held_at k) (text (suc k)) rest (next (held_at (suc k))) (plain (suc k) within)
      (does (m + k + 1) k (omega arith))
      ∙ ap (λ x. read line_effect x (held_at (suc k)) (pieces 10 rest)) next_number

-- ---- the line of a document

pub line_adds : (m : ℕ) (held more : List Held) (line : List ℕ) (t : Datum) → length line ≤ 1048576
    → first_of line ≡ Some 123 → json_line line ≡ Ok t → 0 < length held
    → add held (length held - 1) t ≡ Ok more → line_effect m held line ≡ next more
unfolding line_effect document
line_adds m held more line t short first reads some adds =
    let few : nat_lt 1048576 (length line) ≡ false = grind (arith, short) in
    let any : nat_eq (length held) 0 ≡ false = grind (arith, some) in
    rw (few, first, any, reads, adds) refl
