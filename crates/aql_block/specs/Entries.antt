-- The entries that a row of the program holds.
use Rattle.std.specs.Prelude.{List, map}
use Rattle.aql_value.specs.View.{datum_of}
use Rattle.aql_block.specs.declared.rows.Entry.{Entry}
use Rattle.aql_block.specs.Rows.{Entries}

abbrev pub entries_in : List Entry → Entries
entries_in es = map (λ e. (e.var, datum_of e.value)) es
