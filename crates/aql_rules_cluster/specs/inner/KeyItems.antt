-- What a search says: what it found, or that there is none.
use Rattle.std.specs.Prelude.{Option, Some, None}

abbrev pub IsFound : {X : Type 0} → (X → Type 0) → Option X → Type 0
IsFound {X} P None = (x : X) → P x → ⊥
IsFound {X} P (Some x) = P x
