-- Names are ASCII, and a number that is cut off at 33 in each step is the number cut off.
use Rattle.std.proofs.Common.{◌≡◌, ◌<◌, ◌≤◌, ℕ, suc, zero, ◌+◌, ◌*◌, ◌-◌, List, [], ◌∷◌, Bool, true, false, ◌&&◌, Some, None, nat_le, refl, sym, ap, ◌∙◌, arith, min, length, get_or, drop, nat_lt, if◌then◌else◌}
use Rattle.std.specs.List.{list_all}
use Rattle.std.specs.Str.{IsAscii}
use Rattle.std.proofs.lemmas.Bool.Decides.{nat_tests}
use Rattle.aql_script.specs.Names.{is_name_byte, is_attribute_byte, is_attribute, all_attributes, names_of, decimal}

and_front : (a b : Bool) → (a && b) ≡ true → a ≡ true
and_front true b e = refl
and_front false b e = e

and_back : (a b : Bool) → (a && b) ≡ true → b ≡ true
and_back true b e = e
and_back false b e = absurd (cc)

byte_ascii : (b : ℕ) → is_name_byte b ≡ true → b < 128
unfolding is_name_byte is_attribute_byte
byte_ascii b e = grind (arith, nat_tests)

pub name_ascii : (name : List ℕ) → list_all is_name_byte name ≡ true → IsAscii name
name_ascii [] e zero = omega arith
name_ascii [] e (suc i) = omega arith
name_ascii (b ∷ bytes) e zero = byte_ascii b (and_front (is_name_byte b) (list_all is_name_byte bytes) e)
name_ascii (b ∷ bytes) e (suc i) =
    name_ascii bytes (and_back (is_name_byte b) (list_all is_name_byte bytes) e) i

attribute_byte : (b : ℕ) → is_attribute_byte b ≡ true → is_name_byte b ≡ true
unfolding is_name_byte
attribute_byte b e = rw e refl

attribute_bytes : (name : List ℕ) → list_all is_attribute_byte name ≡ true → list_all is_name_byte name ≡ true
attribute_bytes [] e = refl
attribute_bytes (b ∷ bytes) e =
    let first = and_front (is_attribute_byte b) (list_all is_attribute_byte bytes) e in
    let others = and_back (is_attribute_byte b) (list_all is_attribute_byte bytes) e in
    rw (attribute_byte b first) (attribute_bytes bytes others)

pub attribute_name : (name : List ℕ) → is_attribute name ≡ true → list_all is_name_byte name ≡ true
attribute_name name e =
    attribute_bytes name (and_back (nat_lt 0 (length name)) (list_all is_attribute_byte name) e)

-- a number that is too large stays so
cut_step : (m n d : ℕ) → min m 33 ≡ min n 33 → min (10 * m + d) 33 ≡ min (10 * n + d) 33
cut_step m n d e = omega (arith, e)

pub decimal_cut : (m n : ℕ) (digits : List ℕ) → min m 33 ≡ min n 33
    → min (decimal m digits) 33 ≡ min (decimal n digits) 33
decimal_cut m n [] e = e
decimal_cut m n (b ∷ digits) e =
    decimal_cut (10 * m + (b - 48)) (10 * n + (b - 48)) digits (cut_step m n (b - 48) e)

decimal_at : (n : ℕ) (digits : List ℕ) (i : ℕ) → i < length digits
    → decimal n (drop i digits) ≡ decimal (10 * n + (get_or digits i 0 - 48)) (drop (i + 1) digits)
decimal_at n [] i l = absurd (omega (arith, l))
decimal_at n (b ∷ digits) zero l = refl
decimal_at n (b ∷ digits) (suc i) l =
    let e : suc i + 1 ≡ suc (i + 1) = omega arith in rw e (decimal_at n digits i (omega (arith, l)))

-- one more digit, cut off
pub one_digit : (n next whole : ℕ) (digits : List ℕ) (i : ℕ) → i < length digits
    → next ≡ min (10 * n + (get_or digits i 0 - 48)) 33 → min (decimal n (drop i digits)) 33 ≡ whole
    → (next ≤ 33) × (min (decimal next (drop (i + 1) digits)) 33 ≡ whole)
one_digit n next whole digits i l e inv =
    let d = get_or digits i 0 - 48 in
    let same : min next 33 ≡ min (10 * n + d) 33 = omega (arith, e) in (
      omega (arith, e),
      decimal_cut next (10 * n + d) (drop (i + 1) digits) same
          ∙ ap (λ m. min m 33) (sym (decimal_at n digits i l)) ∙ inv,
    )

pub few_names : (parts : List (List ℕ)) → length parts ≤ 8 → all_attributes parts ≡ names_of parts
few_names parts h = let few : nat_le (length parts) 8 ≡ true = grind (arith, h) in rw few refl

pub many_names : (parts : List (List ℕ)) → 8 < length parts → None ≡ names_of parts
many_names parts h = let many : nat_le (length parts) 8 ≡ false = grind (arith, h) in rw many refl

-- the names are the parts
pub same_names : (names parts : List (List ℕ)) → Some names ≡ all_attributes parts → names ≡ parts
same_names names parts =
    elim (list_all is_attribute parts)
    as (λ b. Some names ≡ (if b then Some parts else None) → names ≡ parts) [
      | true ↦ λ e. cc
      | false ↦ λ e. absurd (cc)
    ]
