-- The attributes that an object of the program stands for.
use Rattle.std.specs.Prelude.{ℕ, List, [], map, Option, None, Some, Vec}
use Rattle.std.specs.declared.rc.Rc.{Rc}
use Rattle.std.specs.declared.cmp.Ordering.{Ordering}
use Rattle.std.specs.Ordering.{nat_cmp, ordering_then}
use Rattle.std.specs.Cmp.Lexicographic.{slice_cmp}
use Rattle.aql_value.specs.Datum.{Datum}
use Rattle.aql_value.specs.Compare.{compare}
use Rattle.aql_value.specs.View.{datum_of}
use Rattle.aql_value.specs.declared.values.Member.{Member}

-- the attributes as they are kept
abbrev pub members_in : {Y Z : Type 0} → Option (Rc (Vec Member Y) Z) → List Member
members_in None = []
members_in (Some ms) = ms.value.items

abbrev pub fields_in : List Member → List (List ℕ × Datum)
fields_in ms = map (λ m. (m.name, datum_of m.value)) ms

abbrev pub compare_entry : Member → Member → Ordering
compare_entry m n = ordering_then (slice_cmp nat_cmp n.name m.name)
    (compare (datum_of m.value) (datum_of n.value))
