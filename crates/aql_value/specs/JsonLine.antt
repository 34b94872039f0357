-- The value that a line of JSON writes, or the first fault of the line. `serde_json` reads no data from it;
-- its arrays and objects nest deeper than 64; it holds a number that is not whole. The last two are judged on
-- the data that `serde_json` reads.
use Rattle.std.specs.Prelude.{ℕ, List, Option, Some, None, Result, Ok, Err, nat_le, if◌then◌else◌}
use Rattle.std.specs.Str.{is_utf8}
use Rattle.serde_json.specs.Data.{Data, depth}
use Rattle.serde_json.specs.Read.{read}
use Rattle.aql_value.specs.Datum.{Datum}
use Rattle.aql_value.specs.FromJson.{from_json}
use Rattle.aql_value.specs.declared.reading.JsonFault.{JsonFault}
use Rattle.aql_value.specs.declared.reading.JsonFault.TheVariants.{NotJson, TooDeep, NotWhole, Memory}

abbrev pub greatest_depth : ℕ
greatest_depth = 64

abbrev pub or_not_whole : Option Datum → Result Datum JsonFault
or_not_whole None = Err NotWhole
or_not_whole (Some t) = Ok t

abbrev pub of_data : Option Data → Result Datum JsonFault
of_data None = Err NotJson
of_data (Some d) = if nat_le (depth d) greatest_depth then or_not_whole (from_json d) else Err TooDeep

-- only a line in UTF-8 is read
unfoldable pub json_line : List ℕ → Result Datum JsonFault
json_line line = if is_utf8 line then of_data (read line) else Err NotJson

-- what a private call says of its fault: there is no value since a number is not whole, or memory ran out
abbrev pub Refuses : JsonFault → Type 0 → Type 0
Refuses NotWhole P = P
Refuses Memory P = Unit {0}
Refuses e P = ⊥
