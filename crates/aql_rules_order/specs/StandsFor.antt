-- When a whole plan may be chosen in the place of another one: each list of values that it gives, that one
-- gives, it is well formed and has no fragment, and it sets only what that one sets.
use Rattle.std.specs.Prelude.{false}
use Rattle.aql_plan.specs.declared.facts.Facts.{Facts}
use Rattle.aql_plan.specs.Plan.{Plan}
use Rattle.aql_plan.specs.Refines.{Refines}
use Rattle.aql_rewrite.specs.Placed.{IsWhole}
use Rattle.aql_rewrite.specs.Swaps.{SetsNoMore}

pub record StandsFor (facts : Facts) (p q : Plan) : Type 0 where
  pub refines : Refines facts q p
  pub whole : IsWhole false facts q
  pub sets : SetsNoMore p q
