-- The value that JSON data stands for. Numbers are whole and have 64 bits: data that holds another number, as
-- a fraction, one with an exponent or `-0`, stands for no value. A repeated name keeps its last value, since
-- `serde_json` reads it so.
use Rattle.std.specs.Prelude.{Option, Some, option_map, option_and_then}
use Rattle.serde_json.specs.Data as json
use Rattle.serde_json.specs.Find.{as_i64}
use Rattle.aql_value.specs.Datum.{Datum, null, boolean, number, text, array, object, Datums, no_datums, datum_then, Fields, no_fields, field}

-- none where a number is no whole one of 64 bits
abbrev mutual
  pub from_json : json.Data → Option Datum
  from_json json.null = Some null
  from_json (json.boolean b) = Some (boolean b)
  from_json (json.number n) = option_map number (as_i64 n)
  from_json (json.string s) = Some (text s)
  from_json (json.array ds) = option_map array (items_from_json ds)
  from_json (json.object ms) = option_map object (members_from_json ms)

  pub items_from_json : json.Items → Option Datums
  items_from_json json.no_items = Some no_datums
  items_from_json (json.item d ds) =
      option_and_then (λ t. option_map (datum_then t) (items_from_json ds)) (from_json d)

  pub members_from_json : json.Members → Option Fields
  members_from_json json.no_members = Some no_fields
  members_from_json (json.member k d ms) =
      option_and_then (λ t. option_map (field k t) (members_from_json ms)) (from_json d)
