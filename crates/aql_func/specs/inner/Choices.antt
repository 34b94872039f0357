-- The attributes that are named, or the others; for private clauses.
use Rattle.std.specs.Prelude.{ℕ, List, Bool, cond, not, filter}
use Rattle.aql_value.specs.Datum.{Datum, text}
use Rattle.aql_value.specs.Contents.{is_in}

abbrev pub is_chosen : Bool → List Datum → List ℕ → Bool
is_chosen present names name = cond present (is_in names (text name)) (not (is_in names (text name)))

abbrev pub choose : Bool → List Datum → List (List ℕ × Datum) → List (List ℕ × Datum)
choose present names fs = filter (λ (f : List ℕ × Datum). is_chosen present names f.0) fs
