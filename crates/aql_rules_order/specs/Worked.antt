-- The permutations of three things and of four, computed from the definition.
use Rattle.std.specs.Prelude.{ℕ, ◌≡◌, List, [], ◌∷◌}
use Rattle.aql_rules_order.specs.InterchangeAdjacentEnumerations.{permutations}

abbrev three : ℕ → ℕ → ℕ → List ℕ
three a b c = a ∷ b ∷ c ∷ []

abbrev four : ℕ → ℕ → ℕ → ℕ → List ℕ
four a b c d = a ∷ b ∷ c ∷ d ∷ []

abbrev pub WorkedOrders : Type 0
WorkedOrders =
    (permutations (three 1 2 3)
    ≡ three 1 2 3 ∷ three 1 3 2 ∷ three 2 1 3 ∷ three 2 3 1 ∷ three 3 1 2 ∷ three 3 2 1 ∷ [])
    × (permutations (four 1 2 3 4)
    ≡ four 1 2 3 4 ∷ four 1 2 4 3 ∷ four 1 3 2 4 ∷ four 1 3 4 2 ∷ four 1 4 2 3 ∷ four 1 4 3 2
    ∷ four 2 1 3 4 ∷ four 2 1 4 3 ∷ four 2 3 1 4 ∷ four 2 3 4 1 ∷ four 2 4 1 3 ∷ four 2 4 3 1
    ∷ four 3 1 2 4 ∷ four 3 1 4 2 ∷ four 3 2 1 4 ∷ four 3 2 4 1 ∷ four 3 4 1 2 ∷ four 3 4 2 1
    ∷ four 4 1 2 3 ∷ four 4 1 3 2 ∷ four 4 2 1 3 ∷ four 4 2 3 1 ∷ four 4 3 1 2 ∷ four 4 3 2 1 ∷ [])
