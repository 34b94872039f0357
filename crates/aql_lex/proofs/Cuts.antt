-- What the code cuts off a text.
use Rattle.std.proofs.Common.{◌≡◌, ◌≢◌, ℕ, zero, suc, ◌+◌, ◌<◌, ◌≤◌, Bool, true, false, List, [], ◌∷◌, ◌++◌}
use Rattle.std.proofs.Common.{length, get_or, drop, refl, sym, ap, ◌∙◌, subst, arith}
use Rattle.std.proofs.Common.{length-append, ⊎_elim, ◌⊎◌, inl, inr}
use Rattle.std.specs.Prelude.{◌==◌, encode_utf8, IsUtf8}
use Rattle.std.specs.Str.{IsCharBoundary}
use Rattle.std.specs.Str.Pattern.{LacksTextAt}
use Rattle.std.specs.Char.{is_ascii_digit}
use Rattle.std.specs.List.{prefix_len}
use Rattle.std.proofs.Math.Seq.{drop-append_seam}
use Rattle.std.proofs.lemmas.Bool.Decides.{nat_tests, leb_tells}
use Rattle.std.proofs.lemmas.List.Sums.{prefix_len_passes, prefix_len-le-length}
use Rattle.std.proofs.lemmas.Str.{IsCharBoundary-start, IsCharBoundary-after_ascii}
use Rattle.std.proofs.lemmas.Str.{char_from_byte, length-encode, len_utf8_bounds}
use Rattle.aql_lex.specs.Characters.{begins, is_blank, is_letter, is_word_part, is_quote, star, slash, backtick}
use Rattle.aql_lex.specs.Tokens.{ClosesFirst, Separates}
use Rattle.aql_lex.specs.inner.Scans.{is_other}
use Rattle.aql_lex.specs.laws.Quotes.{ascii_front}

-- a text may be cut after a run of ASCII
run_boundary : (p : ℕ → Bool) → ((b : ℕ) → p b ≡ true → b < 128) → (text : List ℕ) (n : ℕ) → IsUtf8 text
    → n ≡ prefix_len p text → IsCharBoundary text n
run_boundary p ascii text zero u e = IsCharBoundary-start text u
run_boundary p ascii text (suc n) u e =
    let within = prefix_len-le-length p text in
    let last = ascii (get_or text n 0) (prefix_len_passes p text n 0 (omega arith)) in
    let same : n + 1 ≡ suc n = omega arith in
    subst (IsCharBoundary text) same (IsCharBoundary-after_ascii text n u (omega arith) last)

pub word_boundary : (text : List ℕ) (n : ℕ) → IsUtf8 text → n ≡ prefix_len is_word_part text
    → IsCharBoundary text n
word_boundary text n u e = run_boundary is_word_part (λ b h. grind (arith, nat_tests)) text n u e

pub digits_boundary : (text : List ℕ) (n : ℕ) → IsUtf8 text → n ≡ prefix_len is_ascii_digit text
    → IsCharBoundary text n
digits_boundary text n u e = run_boundary is_ascii_digit (λ b h. grind (arith, nat_tests)) text n u e

-- what the first search finds is the first `*/`
pub first_close : (text words rest : List ℕ) (i : ℕ) → text ≡ words ++ star ∷ slash ∷ rest
    → length words ≡ i → ((k : ℕ) → k < i → LacksTextAt (star ∷ slash ∷ []) text k)
    → ClosesFirst text words rest
first_close text words rest i e long lacks = record {
  closes = e;
  first = λ others more g.
      let apart : length others < length words → ⊥ =
      λ short. lacks (length others) (omega arith) more
      (ap (drop (length others)) g ∙ drop-append_seam others (star ∷ slash ∷ more)) in
      omega arith;
}

-- ---- the first character

pub blank_takes : (c : ℕ) (text rest : List ℕ) → is_blank c ≡ true → text ≡ encode_utf8 c ++ rest
    → Separates text rest
blank_takes c text rest h e =
    let small : c < 128 = grind (arith, nat_tests) in
    subst (λ q. Separates q rest) (sym (ascii_front c text rest small e)) (Separates.blank h)

pub begins_ascii : (p : ℕ → Bool) (c : ℕ) (text rest : List ℕ) → c < 128 → p c ≡ true
    → text ≡ encode_utf8 c ++ rest → begins p text ≡ true
begins_ascii p c text rest small h e = ap (begins p) (ascii_front c text rest small e) ∙ h

pub other_character : (b : ℕ) → is_blank b ≡ false → is_letter b ≡ false → is_ascii_digit b ≡ false
    → is_quote b ≡ false → b ≢ backtick → is_other b ≡ true
other_character b not_blank not_letter not_digit not_quote not_tick =
    let tick : (b == backtick) ≡ false = grind (arith, nat_tests) in
    rw (not_blank, not_letter, not_digit, not_quote, tick) refl

high_byte : (b : ℕ) → 128 ≤ b → is_other b ≡ true
high_byte b high = grind (arith, nat_tests)

some_bytes : (c : ℕ) (text rest : List ℕ) → text ≡ encode_utf8 c ++ rest → 0 < length text
some_bytes c text rest e =
    let long = ap length e in
    let sum = length-append (encode_utf8 c) rest in
    let width = length-encode c in
    let some = (len_utf8_bounds c).0 in
    omega arith

pub begins_other : (c : ℕ) (text rest : List ℕ) → text ≡ encode_utf8 c ++ rest → is_other c ≡ true
    → begins is_other text ≡ true
begins_other c [] rest e h = let some = some_bytes c [] rest e in absurd (omega arith)
begins_other c (b ∷ text) rest e h = by_size (split b) (char_from_byte (b ∷ text) rest c e)
  where
    split : (b : ℕ) → (b < 128) ⊎ (128 ≤ b)
    split b = ⊎_elim (λ t. inr t.1) (λ t. inl t.1) (leb_tells 128 b)

    by_size : (b < 128) ⊎ (128 ≤ b) → (b < 128 → 0 < length (b ∷ text) → c ≡ b) → is_other b ≡ true
    by_size (inl small) same = subst (λ q. is_other q ≡ true) (same small (omega arith)) h
    by_size (inr high) same = high_byte b high
