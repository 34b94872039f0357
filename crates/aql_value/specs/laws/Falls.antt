-- Each value is heavier than the values inside it.
use Rattle.std.specs.Prelude.{◌≤◌, max, List, [], ◌∷◌, None, Some}
use Rattle.std.proofs.Common.{arith}
use denote.Param.Weighed.{most}
use Rattle.aql_value.specs.Datum.{weight, datums_weight, fields_weight, array_of, object_of}
use Rattle.aql_value.specs.View.{datum_of, datums_in}
use Rattle.aql_value.specs.Fields.{fields_in, members_in}
use Rattle.aql_value.specs.declared.values.Value.{Value}
use Rattle.aql_value.specs.declared.values.Value.TheVariants.{Null, Bool, Num, Text, List as ListOf, Object}
use Rattle.aql_value.specs.declared.values.Member.{Member}
use Rattle.aql_value.specs.declared.values.Members.TheInside.{Inside}
use Rattle.aql_value.specs.declared.values.Items.TheDeep.{deep-Value, deep-Member, deep-Members}

value_falls : (v : Value) → deep-Value v ≤ weight (datum_of v)
value_falls Null = omega arith
value_falls (Bool b) = omega arith
value_falls (Num z) = omega arith
value_falls (Text s) = omega arith
value_falls (ListOf ts) = omega arith
value_falls (Object fs) = omega arith

pub items_fall : (vs : List Value) → max (most deep-Value vs) 0 ≤ datums_weight (array_of (datums_in vs))
items_fall [] = omega arith
items_fall (v ∷ vs) = omega (arith, value_falls v, items_fall vs)

members_fall : (ms : List Member) → max (most deep-Member ms) 0 ≤ fields_weight (object_of (fields_in ms))
members_fall [] = omega arith
members_fall (m ∷ ms) = omega (arith, value_falls m.value, members_fall ms)

pub entries_fall : (a : Inside) → deep-Members a ≤ fields_weight (object_of (fields_in (members_in a.entries)))
entries_fall a = by a.entries
  where
    by : (es : _) → deep-Members (record { entries = es }) ≤ fields_weight (object_of (fields_in (members_in es)))
    by None = omega arith
    by (Some ms) = omega (arith, members_fall ms.value.items)
