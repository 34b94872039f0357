-- The names and numbers in directives. The name of a collection is a letter or `_` and then letters, digits,
-- `_` and `-` (AQL fundamentals, Syntax, Names); an attribute's is one or more letters, digits and `_`.
use Rattle.std.specs.Prelude.{ℕ, List, [], ◌∷◌, Bool, false, ◌&&◌, ◌||◌, ◌+◌, ◌*◌, ◌-◌, min, nat_eq, nat_le, nat_lt, length, Option, Some, None, if◌then◌else◌}
use Rattle.std.specs.List.{list_all}
use Rattle.aql_script.specs.Pieces.{pieces}

abbrev pub is_between : ℕ → ℕ → ℕ → Bool
is_between low high b = nat_le low b && nat_le b high

abbrev pub is_digit : ℕ → Bool
is_digit b = is_between 48 57 b

unfoldable pub is_letter : ℕ → Bool
is_letter b = is_between 97 122 b || is_between 65 90 b || nat_eq b 95

unfoldable pub is_attribute_byte : ℕ → Bool
is_attribute_byte b = is_between 97 122 b || is_between 65 90 b || is_between 48 57 b || nat_eq b 95

unfoldable pub is_name_byte : ℕ → Bool
is_name_byte b = is_attribute_byte b || nat_eq b 45

abbrev pub is_name : List ℕ → Bool
is_name [] = false
is_name (b ∷ bytes) = is_letter b && list_all is_name_byte (b ∷ bytes)

-- the name of a collection that a word is
abbrev pub name_in : List ℕ → Option (List ℕ)
name_in word = if is_name word then Some word else None

abbrev pub is_attribute : List ℕ → Bool
is_attribute name = nat_lt 0 (length name) && list_all is_attribute_byte name

abbrev pub attribute_in : List ℕ → Option (List ℕ)
attribute_in piece = if is_attribute piece then Some piece else None

abbrev pub all_attributes : List (List ℕ) → Option (List (List ℕ))
all_attributes parts = if list_all is_attribute parts then Some parts else None

-- at most eight
abbrev pub names_of : List (List ℕ) → Option (List (List ℕ))
names_of parts = if nat_le (length parts) 8 then all_attributes parts else None

-- the one to eight names that a word lists, separated by commas
unfoldable pub names_in : List ℕ → Option (List (List ℕ))
names_in word = names_of (pieces 44 word)

-- the number that digits write after those of n
abbrev pub decimal : ℕ → List ℕ → ℕ
decimal n [] = n
decimal n (b ∷ digits) = decimal (10 * n + (b - 48)) digits

-- a number of shards, at least 1; 33 stands for each that is too large
unfoldable pub shard_count : List ℕ → Option ℕ
shard_count digits =
    if list_all is_digit digits && nat_lt 0 (min (decimal 0 digits) 33) then Some (min (decimal 0 digits) 33)
    else None
