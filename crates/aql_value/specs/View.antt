-- The datum that a value of the program stands for. Every contract speaks of a value by it.
use Rattle.std.specs.Prelude.{List, map}
use Rattle.aql_value.specs.Datum.{Datum, null, boolean, number, text, array, object, array_of, object_of}
use Rattle.aql_value.specs.declared.values.Value.{Value}
use Rattle.aql_value.specs.declared.values.Value.TheVariants.{Null, Bool, Num, Text, List as ListOf, Object}

abbrev pub datum_of : Value → Datum
datum_of Null = null
datum_of (Bool b) = boolean b
datum_of (Num z) = number z
datum_of (Text s) = text s
datum_of (ListOf ts) = array (array_of ts)
datum_of (Object fs) = object (object_of fs)

abbrev pub datums_in : List Value → List Datum
datums_in vs = map datum_of vs
