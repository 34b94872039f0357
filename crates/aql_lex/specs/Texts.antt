-- Texts between quotes, and their escapes (AQL fundamentals, Data types: String literals).
use Rattle.std.specs.Prelude.{◌≡◌, ℕ, Bool, false, ◌||◌, ◌&&◌, ◌==◌, nat_lt, if◌then◌else◌}
use Rattle.std.specs.Prelude.{List, [], ◌∷◌, ◌++◌, Option, Some, None, option_map, encode_utf8}
use Rattle.std.specs.Char.{digit_value}
use Rattle.std.specs.Char.Utf16.{is_high_surrogate, is_low_surrogate, surrogate_pair_char}
use Rattle.std.specs.List.{list_all}
use Rattle.std.specs.Str.Parse.{digits_value}
use Rattle.aql_lex.specs.Characters.{backslash}

-- the character that one character after a backslash stands for: `"`, `'`, `/` and `\` for themselves, and
-- `b f n r t`
abbrev pub simple_escape : ℕ → Option ℕ
simple_escape b =
    if b == 34 || b == 39 || b == 47 || b == backslash then Some b
    else (if b == 98 then Some 8
    else (if b == 102 then Some 12
    else (if b == 110 then Some 10
    else (if b == 114 then Some 13
    else (if b == 116 then Some 9 else None)))))

abbrev pub is_hexadecimal : ℕ → Bool
is_hexadecimal b = nat_lt (digit_value b) 16

-- the number that four hexadecimal digits write, and what is after them
abbrev pub code_unit : List ℕ → Option (ℕ × List ℕ)
code_unit (a ∷ b ∷ c ∷ d ∷ rest) =
    if list_all is_hexadecimal (a ∷ b ∷ c ∷ d ∷ [])
    then Some (digits_value 16 (a ∷ b ∷ c ∷ d ∷ []), rest) else None
code_unit _ = None

-- the character of both halves of a pair of surrogates, if what was read is a second half
abbrev pub with_second_half : ℕ → Option (ℕ × List ℕ) → Option (ℕ × List ℕ)
with_second_half first None = None
with_second_half first (Some p) =
    if is_low_surrogate p.0 then Some (surrogate_pair_char first p.0, p.1) else None

-- after a first half: `\u` and the second half
abbrev pub second_half : ℕ → List ℕ → Option (ℕ × List ℕ)
second_half first (a ∷ b ∷ rest) =
    if a == backslash && b == 117 then with_second_half first (code_unit rest) else None
second_half first _ = None

-- a unit is a character, or the first half of a pair that needs its second
abbrev pub unicode_escape : Option (ℕ × List ℕ) → Option (ℕ × List ℕ)
unicode_escape None = None
unicode_escape (Some p) =
    if is_high_surrogate p.0 then second_half p.0 p.1 else (if is_low_surrogate p.0 then None else Some p)

-- the character that is written after a backslash, and what is after it; `None` where that is no escape
abbrev pub escape : List ℕ → Option (ℕ × List ℕ)
escape [] = None
escape (b ∷ rest) =
    if b == 117 then unicode_escape (code_unit rest)
    else option_map (λ character. (character, rest)) (simple_escape b)

-- after an opening quote: what stands before the rest has this value
pub data Writes (quote : ℕ) : List ℕ → List ℕ → List ℕ → Type 0 where
  nothing : {rest : List ℕ} → Writes quote rest [] rest
  plain : {b : ℕ} {text value rest : List ℕ} → (b == quote) ≡ false → (b == backslash) ≡ false
      → Writes quote text value rest → Writes quote (b ∷ text) (b ∷ value) rest
  escaped : {character : ℕ} {text after value rest : List ℕ} → escape text ≡ Some (character, after)
      → Writes quote after value rest → Writes quote (backslash ∷ text) (encode_utf8 character ++ value) rest
