-- A list of blocks that is read at several ports, each at a place of its own.
use Rattle.std.specs.Prelude.{ℕ, List, length, sum_by, slice_index_or, Option, Some, None}
use Rattle.aql_meaning.specs.Row.{Row}
use Rattle.aql_block.specs.Tables.{Table}
use Rattle.aql_engine.specs.Run.{rows_in}
use Rattle.aql_exec_cluster.specs.declared.blocks.Place.{Place}
use Rattle.aql_exec_cluster.specs.Shared.{rows_at}

-- the rows after a place; all rows where nothing was read
abbrev pub rows_after : List Table → Option Place → List Row
rows_after blocks None = rows_in blocks
rows_after blocks (Some place) = rows_at blocks place

abbrev pub rows_at_port : List Table → List (Option Place) → ℕ → List Row
rows_at_port blocks places p = rows_after blocks (slice_index_or places p None)

-- how many there are at all ports
abbrev pub count_ports : List Table → List (Option Place) → ℕ
count_ports blocks places = sum_by (λ place. length (rows_after blocks place)) places
