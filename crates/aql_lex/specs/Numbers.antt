-- Numbers in a query's text (AQL fundamentals, Data types: Numeric literals). Only whole ones are read;
-- what a fraction or an exponent begins with is known so that it can be refused.
use Rattle.std.specs.Prelude.{ℕ, Bool, false, ◌||◌, ◌&&◌, ◌==◌, if◌then◌else◌, List, [], ◌∷◌}
use Rattle.std.specs.Char.{is_ascii_digit}
use Rattle.std.specs.List.{list_all}
use Rattle.std.specs.Str.Parse.{digits_value}
use Rattle.aql_lex.specs.Characters.{begins}

-- the largest number
abbrev pub largest : ℕ
largest = 9223372036854775807

-- one digit or more, and nothing else
abbrev pub are_digits : List ℕ → Bool
are_digits [] = false
are_digits (b ∷ more) = is_ascii_digit b && list_all is_ascii_digit more

-- the number that digits write
abbrev pub value_of : List ℕ → ℕ
value_of digits = digits_value 10 digits

abbrev pub begins_digit : List ℕ → Bool
begins_digit text = begins is_ascii_digit text

abbrev pub is_exponent : ℕ → Bool
is_exponent b = b == 101 || b == 69

abbrev pub is_plus_or_minus : ℕ → Bool
is_plus_or_minus b = b == 43 || b == 45

-- `+` or `-`, or neither, and a digit
abbrev pub begins_signed : List ℕ → Bool
begins_signed [] = false
begins_signed (b ∷ more) = if is_plus_or_minus b then begins_digit more else is_ascii_digit b

-- what stands after digits makes them a fraction: `.` and a digit, or `e` or `E`, perhaps `+` or `-`, and a
-- digit
abbrev pub is_fraction : List ℕ → Bool
is_fraction [] = false
is_fraction (b ∷ more) = if b == 46 then begins_digit more else (is_exponent b && begins_signed more)
