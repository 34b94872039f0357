-- Texts that are put together of others.
use Rattle.std.specs.Prelude.{ℕ, List, [], ◌∷◌, ◌++◌, codes, Option, Some, None}
use Rattle.std.specs.Fmt.{decimal}

-- texts in a row: `front` stands before the first, `between` before each other one
abbrev pub listed : List ℕ → List ℕ → List (List ℕ) → List ℕ
listed front between [] = []
listed front between (t ∷ ts) = front ++ t ++ listed between between ts

abbrev pub in_brackets : List ℕ → List ℕ
in_brackets text = codes "(" ++ text ++ codes ")"

-- a number that may be missing, after what stands before it
abbrev pub number_after : List ℕ → Option ℕ → List ℕ
number_after front None = []
number_after front (Some n) = front ++ decimal n
