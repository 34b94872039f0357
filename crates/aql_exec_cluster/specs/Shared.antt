-- A list of blocks that several executors read, each at a place of its own.
use Rattle.std.specs.Prelude.{ℕ, zero, suc, ◌++◌, List, [], ◌∷◌, drop, Option, None, Some}
use Rattle.aql_meaning.specs.Row.{Row}
use Rattle.aql_block.specs.Tables.{Table, rows_of}
use Rattle.aql_engine.specs.Run.{rows_in}
use Rattle.aql_exec_cluster.specs.declared.blocks.Place.{Place}

-- the rows that come after so many blocks and so many rows of the next one
abbrev pub rows_from : List Table → ℕ → ℕ → List Row
rows_from [] at row = []
rows_from (b ∷ bs) zero row = drop row (rows_of b) ++ rows_in bs
rows_from (b ∷ bs) (suc at) row = rows_from bs at row

-- the rows after a place
abbrev pub rows_at : List Table → Place → List Row
rows_at blocks place = rows_from blocks place.block place.row

-- the rows after a place of a list that came, if one did
abbrev pub rows_left : Option (List Table) → Place → List Row
rows_left None place = []
rows_left (Some blocks) place = rows_at blocks place
