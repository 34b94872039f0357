-- What the passes of rules lower: only that they end rests on it.
use Rattle.std.specs.Prelude.{ℕ, ◌+◌, List, Option, Some, None}
use Rattle.aql_plan.specs.Plan.{Plan, Singleton, Over, Node, EnumerateCollection, Index, Calculation, Subquery}

-- move-calculations-up: for each Calculation and Subquery, the nodes below it on its spine that are neither

abbrev mutual
  pub others_below : Plan → ℕ
  others_below Singleton = 0
  others_below (Over b (Calculation x e)) = others_below b
  others_below (Over b (Subquery x s)) = others_below b
  others_below (Over b n) = others_below b + 1

  pub height : Plan → ℕ
  height Singleton = 0
  height (Over b (Calculation x e)) = height b + others_below b
  height (Over b (Subquery x s)) = height b + (others_below b + height s)
  height (Over b n) = height b

-- reduce-extraction-to-projection: how many nodes read documents whole, those of bodies too

abbrev pub reads_whole : Option (List (List ℕ)) → ℕ
reads_whole None = 1
reads_whole (Some names) = 0

abbrev mutual
  pub whole_readers : Plan → ℕ
  whole_readers Singleton = 0
  whole_readers (Over b n) = whole_readers b + readers_in n

  pub readers_in : Node → ℕ
  readers_in (EnumerateCollection x) = reads_whole x.attrs
  readers_in (Index x index equal last ordered) = reads_whole x.attrs
  readers_in (Subquery x s) = whole_readers s
  readers_in n = 0
