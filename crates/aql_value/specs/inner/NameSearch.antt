-- Where a name stands, or would stand, among ascending attributes; for private clauses.
use Rattle.std.specs.Prelude.{◌≡◌, ◌≤◌, ◌<◌, ℕ, List, [], ◌∷◌, Result, MatchResult, take, drop, length}
use Rattle.aql_value.specs.Datum.{Datum}
use Rattle.aql_value.specs.Order.{BytesBelow}

abbrev pub StartsAbove : List ℕ → List (List ℕ × Datum) → Type 0
StartsAbove k [] = Unit {0}
StartsAbove k (f ∷ fs) = BytesBelow k f.0

abbrev pub StartsAt : List ℕ → List (List ℕ × Datum) → Type 0
StartsAt k [] = ⊥
StartsAt k (f ∷ fs) = f.0 ≡ k

abbrev pub EachBelow : List ℕ → List (List ℕ × Datum) → Type 0
EachBelow k [] = Unit {0}
EachBelow k (f ∷ fs) = BytesBelow f.0 k × EachBelow k fs

abbrev pub IsSearchResult : Result ℕ ℕ → List ℕ → List (List ℕ × Datum) → Type 0
IsSearchResult r k fs = MatchResult r
    (λ i. (i < length fs) × EachBelow k (take i fs) × StartsAt k (drop i fs))
    (λ i. (i ≤ length fs) × EachBelow k (take i fs) × StartsAbove k (drop i fs))
