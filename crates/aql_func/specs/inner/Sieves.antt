-- One step of an intersection or a difference, for private clauses.
use Rattle.std.specs.Prelude.{List, [], ◌∷◌, Bool, cond, not, filter}
use Rattle.aql_value.specs.Datum.{Datum}
use Rattle.aql_value.specs.Contents.{is_in}

-- the values that are in `other` where `present` says so, and else those that are not
abbrev pub sift : Bool → List Datum → List Datum → List Datum
sift present other ts = filter (λ t. cond present (is_in other t) (not (is_in other t))) ts

-- all steps, one for each other list
abbrev pub sieve : Bool → List (List Datum) → List Datum → List Datum
sieve present [] ts = ts
sieve present (us ∷ others) ts = sieve present others (sift present us ts)
