-- Bytes cut into pieces: the lines of a script between line feeds, the words of a line between blanks, and
-- the names of a list between commas. Blanks are space and tab. The forms are the project's own.
use Rattle.std.specs.Prelude.{ℕ, List, [], ◌∷◌, Bool, ◌||◌, not, find, filter, length, nat_eq, Option, Some, None, option_map, if◌then◌else◌}
use Rattle.std.specs.List.{slice_split}

-- what stands before and after the first place of a byte
abbrev pub cut_at : ℕ → List ℕ → Option (List ℕ × List ℕ)
cut_at c [] = None
cut_at c (b ∷ bytes) = if nat_eq b c then Some ([], bytes) else option_map (λ p. (b ∷ p.0, p.1))
    (cut_at c bytes)

-- the pieces between the places of a byte, one more than there are places
abbrev pub pieces : ℕ → List ℕ → List (List ℕ)
pieces c bytes = slice_split (λ b. nat_eq b c) bytes

abbrev pub is_blank : ℕ → Bool
is_blank b = nat_eq b 32 || nat_eq b 9

-- the longest pieces without blanks
abbrev pub words : List ℕ → List (List ℕ)
words line = filter (λ word. not (nat_eq (length word) 0)) (slice_split is_blank line)

-- the first byte that is no blank
abbrev pub first_of : List ℕ → Option ℕ
first_of line = find (λ b. not (is_blank b)) line
