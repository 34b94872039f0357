-- What the operators of a plan need to be a tree: each node fits what is known of the collections, and no
-- collection has more shards than the program counts.
use Rattle.std.specs.Prelude.{ℕ, ◌<◌, ◌^◌}
use Rattle.aql_plan.specs.declared.facts.Facts.{Facts}
use Rattle.aql_plan.specs.Facts.{shards_in}
use Rattle.aql_plan.specs.Plan.{Plan, Singleton, Over, Node, Subquery}
use Rattle.aql_plan.specs.Fits.{Fits}

abbrev mutual
  -- each node by itself, those of bodies too
  pub EachFits : Facts → Plan → Type 0
  EachFits facts Singleton = Unit {0}
  EachFits facts (Over b n) = EachFits facts b × Fits facts n × BodyFits facts n

  pub BodyFits : Facts → Node → Type 0
  BodyFits facts (Subquery x body) = EachFits facts body
  BodyFits facts n = Unit {0}

abbrev pub FewShards : Facts → Type 0
FewShards facts = (coll : ℕ) → shards_in facts coll < 2 ^ 32
