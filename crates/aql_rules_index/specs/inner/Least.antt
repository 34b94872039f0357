-- The least of some candidates, found one after another.
use Rattle.std.specs.Prelude.{ℕ, List, [], ◌∷◌, Option, Some, None, cond, nat_lt}
use Rattle.aql_plan.specs.declared.facts.Facts.{Facts}
use Rattle.aql_rules_index.specs.Choice.{Candidate, guess_of}

-- the earlier candidate, unless the later one has a smaller guess
abbrev pub better : Facts → ℕ → Option Candidate → Candidate → Candidate
better facts coll None next = next
better facts coll (Some first) next =
    cond (nat_lt (guess_of facts coll next) (guess_of facts coll first)) next first

-- the best of one and of more
abbrev pub best_of : Facts → ℕ → Option Candidate → List Candidate → Option Candidate
best_of facts coll first [] = first
best_of facts coll first (c ∷ cs) = best_of facts coll (Some (better facts coll first c)) cs
