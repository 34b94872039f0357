-- Where an index's values stand to bounds: below them, within them or above them; for private clauses.
use Rattle.std.specs.Prelude.{◌≡◌, List, [], ◌∷◌, Bool, cond, Option}
use Rattle.std.specs.Ordering.{ordering_then, is_eq}
use Rattle.std.specs.declared.cmp.Ordering.{Ordering}
use Rattle.std.specs.declared.cmp.Ordering.TheVariants.{Less, Equal, Greater}
use Rattle.aql_value.specs.Datum.{Datum}
use Rattle.aql_value.specs.Compare.{compare}
use Rattle.aql_value.specs.View.{datum_of}
use Rattle.aql_meaning.specs.Documents.{End, Last, no_last, between, is_above, is_beneath}
use Rattle.aql_index.specs.Bounds.{end_of}
use Rattle.aql_index.specs.declared.bounds.Tail.{Tail}
use Rattle.aql_index.specs.declared.bounds.Tail.TheVariants.{Any, One, Between}

-- the program's bound of the next attribute says the same as this last bound
abbrev pub IsTail : Tail → Last Datum → Type 0
IsTail Any no_last = Unit {0}
IsTail (Between low high) (between l h) = (end_of low.now ≡ l) × (end_of high.now ≡ h)
IsTail tail last = ⊥

-- a value and a range: what is not above the low end is below the range
abbrev pub range_zone : Option (End Datum) → Option (End Datum) → Datum → Ordering
range_zone low high v = cond (is_above low v) (cond (is_beneath high v) Equal Greater) Less

-- the values after the equal ones, and one value for the first of them; none is left: the bound is not met
abbrev pub lone_zone : Datum → List Datum → Ordering
lone_zone v [] = Less
lone_zone v (key ∷ keys) = compare key v

-- the same, and any bound of the next attribute
abbrev pub tail_zone : Tail → List Datum → Ordering
tail_zone Any keys = Equal
tail_zone (One v) keys = lone_zone (datum_of v.now) keys
tail_zone (Between low high) [] = Less
tail_zone (Between low high) (key ∷ keys) = range_zone (end_of low.now) (end_of high.now) key

-- an index's values, and its bounds: the first value that differs decides
abbrev pub zone : (List Datum → Ordering) → List Datum → List Datum → Ordering
zone tail [] keys = tail keys
zone tail (v ∷ equal) [] = Less
zone tail (v ∷ equal) (key ∷ keys) = ordering_then (compare key v) (zone tail equal keys)

abbrev pub in_zone : (List Datum → Ordering) → List Datum → List Datum → Bool
in_zone tail equal keys = is_eq (zone tail equal keys)
