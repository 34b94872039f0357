-- Texts that hold decimal numbers: which bytes they have, and how long they are.
use Rattle.std.proofs.Common.{◌≡◌, ◌<◌, ◌≤◌, ℕ, ◌+◌, List, [], ◌∷◌, ◌++◌, Bool, true, false, ◌&&◌, not, refl, ap, ◌∙◌, arith, length, nat_le, nat_lt, nat_eq, length-append, ltb-true, leb-true}
use Rattle.std.specs.Prelude.{IsUtf8}
use Rattle.std.specs.List.{list_all}
use Rattle.std.specs.Fmt.{decimal}
use Rattle.std.specs.Str.Parse.{AllDigits}
use Rattle.std.proofs.lemmas.Bool.{and_parts}
use Rattle.std.proofs.lemmas.Fmt.{decimal_is_IsNumeral, length-decimal-le}
use Rattle.std.proofs.lemmas.Str.Parse.{digit_from_value}
use Rattle.std.proofs.lemmas.List.Folds.{list_all-append}
use Rattle.json.specs.Print.{escape, escape_byte}
use Rattle.json.proofs.Printed.Utf8.{are_ascii, IsUtf8-are_ascii}
use Rattle.json.proofs.Printed.Strings.{escape_byte_plain}

-- a test that each digit passes
abbrev pub PassesDigits : (ℕ → Bool) → Type 0
PassesDigits test = (b : ℕ) → 48 ≤ b → b ≤ 57 → test b ≡ true

passes_on : (test : ℕ → Bool) → PassesDigits test → (bs : List ℕ) → AllDigits 10 bs → list_all test bs ≡ true
passes_on test h [] d = refl
passes_on test h (b ∷ bs) d =
    let range = digit_from_value b d.0 in
    let here : test b ≡ true = h b (omega (arith, range)) (omega (arith, range)) in
    rw here (passes_on test h bs d.1)

pub digits_pass : (test : ℕ → Bool) → PassesDigits test → (i : ℕ) → i < 1000000
    → list_all test (decimal i) ≡ true
digits_pass test h i few = passes_on test h (decimal i) (decimal_is_IsNumeral i (omega arith)).0.1

pub digits_then : (test : ℕ → Bool) → PassesDigits test → (i : ℕ) → i < 1000000 → (rest : List ℕ)
    → list_all test rest ≡ true → list_all test (decimal i ++ rest) ≡ true
digits_then test h i few rest e =
    list_all-append test (decimal i) rest ∙ rw (digits_pass test h i few, e) refl

pub digits_few : (i : ℕ) → i < 1000000 → length (decimal i) ≤ 6
digits_few i few = length-decimal-le 6 i (omega arith) (omega arith) (omega arith)

pub digits_some : (i : ℕ) → i < 1000000 → 0 < length (decimal i)
digits_some i few = (decimal_is_IsNumeral i (omega arith)).0.0

pub length_then : (i : ℕ) (rest : List ℕ) (k : ℕ) → i < 1000000 → length rest ≤ k
    → length (decimal i ++ rest) ≤ k + 6
length_then i rest k few h = omega (arith, digits_few i few, length-append (decimal i) rest)

-- ---- plain bytes: what ASCII has from the blank on

abbrev pub is_plain : ℕ → Bool
is_plain b = nat_le 32 b && nat_lt b 127

pub plain_digits : PassesDigits is_plain
plain_digits b low high =
    let least : nat_le 32 b ≡ true = grind arith in
    let most : nat_lt b 127 ≡ true = grind arith in rw (least, most) refl

plain_ascii : (bs : List ℕ) → list_all is_plain bs ≡ true → are_ascii bs ≡ true
plain_ascii [] e = refl
plain_ascii (b ∷ bs) e =
    let both = and_parts (is_plain b) (list_all is_plain bs) e in
    let most = ltb-true b 127 (and_parts (nat_le 32 b) (nat_lt b 127) both.0).1 in
    let small : nat_lt b 128 ≡ true = grind (arith, most) in rw small (plain_ascii bs both.1)

pub plain_utf8 : (bs : List ℕ) → list_all is_plain bs ≡ true → IsUtf8 bs
plain_utf8 bs e = IsUtf8-are_ascii bs (plain_ascii bs e)

-- ---- bytes that JSON writes as they are

abbrev pub is_literal : ℕ → Bool
is_literal b = nat_le 32 b && (not (nat_eq b 34) && not (nat_eq b 92))

pub literal_digits : PassesDigits is_literal
literal_digits b low high =
    let least : nat_le 32 b ≡ true = grind arith in
    let quote : nat_eq b 34 ≡ false = grind arith in
    let backslash : nat_eq b 92 ≡ false = grind arith in rw (least, quote, backslash) refl

escape_literal : (b : ℕ) → is_literal b ≡ true → escape_byte b ≡ b ∷ []
escape_literal b e =
    let least = leb-true 32 b (and_parts (nat_le 32 b) (not (nat_eq b 34) && not (nat_eq b 92)) e).0 in
    escape_byte_plain b (is_not 34 refl) (is_not 92 refl) least
  where
    is_not : (c : ℕ) → is_literal c ≡ false → b ≡ c → ⊥
    is_not c f q = absurd (cc (ap is_literal q))

pub literal_stays : (bs : List ℕ) → list_all is_literal bs ≡ true → escape bs ≡ bs
literal_stays [] e = refl
literal_stays (b ∷ bs) e =
    let both = and_parts (is_literal b) (list_all is_literal bs) e in
    rw (escape_literal b both.0) (ap (λ rest. b ∷ rest) (literal_stays bs both.1))
