-- Rules that take the top node of a part away and let one variable go by another in the nodes above.
use Rattle.std.specs.Prelude.{◌≡◌, [], Some}
use Rattle.aql_plan.specs.Plan.{Plan, Over, top}
use Rattle.aql_rewrite.specs.declared.swap.Rename.{Rename}
use Rattle.aql_rewrite.specs.Places.{Rewriting}

-- the rule puts the input of the top node in the place of p, whatever is used above
abbrev pub TakesAway : Rewriting → Plan → Rename → Type 0
TakesAway R p r = (b : Plan) → p ≡ Over b (top p) → R [] p b (Some r)
