-- A run of a feed: the rows of all its blocks, in order, and what a picker picked on the way.
use Rattle.std.specs.Prelude.{ℕ, ◌≡◌, List, [], ◌∷◌, flat_map}
use Rattle.aql_meaning.specs.Row.{Row}
use Rattle.aql_block.specs.Tables.{Table, rows_of}
use Rattle.aql_exec.specs.Lines.{Pick}

abbrev pub rows_in : List Table → List Row
rows_in blocks = flat_map rows_of blocks

-- these were picked, one after the other
abbrev pub PickedBy : {P : Type 0} → (P → ℕ → ℕ → P → Type 0) → P → List Pick → P → Type 0
PickedBy picks before [] after = after ≡ before
PickedBy {P = P} picks before (k ∷ ks) after =
    (next : P) × picks before k.among k.place next × PickedBy picks next ks after
