-- How pickers choose which of the messages in flight is delivered next.
use Rattle.std.specs.Prelude.{ℕ, zero, suc, ◌≡◌, ◌+◌, ◌*◌, ◌/◌, ◌%◌, ◌^◌, List, [], ◌∷◌, Option, Some, None}

-- ---- by a number

-- with 0 there are no pseudorandom numbers
abbrev pub seed_of : ℕ → Option ℕ
seed_of zero = None
seed_of (suc n) = Some (suc n)

abbrev pub number_after : ℕ → ℕ
number_after s = (s * 6364136223846793005 + 1442695040888963407) % 2 ^ 64

-- the oldest message, or the one that the upper 31 bits of the next number choose
abbrev pub SchedulePicks : Option ℕ → ℕ → ℕ → Option ℕ → Type 0
SchedulePicks None n place after = (place ≡ 0) × (after ≡ None)
SchedulePicks (Some s) n place after =
    (place ≡ number_after s / 2 ^ 33 % n) × (after ≡ Some (number_after s))

-- ---- by a list

-- the list's next number chooses; the oldest message where it has ended
abbrev pub ListPicks : List ℕ → ℕ → ℕ → List ℕ → Type 0
ListPicks [] n place after = (place ≡ 0) × (after ≡ [])
ListPicks (pick ∷ picks) n place after = (place ≡ pick % n) × (after ≡ picks)
