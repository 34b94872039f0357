-- The bytes of a text as the program keeps it; for private clauses.
use Rattle.std.specs.Prelude.{ℕ, List, string_bytes}
use Rattle.aql_value.specs.declared.texts.Bytes.{Bytes}
use Rattle.aql_value.specs.declared.texts.Bytes.TheVariants.{Short, Long}

abbrev pub bytes_of : Bytes → List ℕ
bytes_of (Short text) = text
bytes_of (Long text) = string_bytes text.value
