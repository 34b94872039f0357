-- What falls with each application of distribute-in-cluster, so that its pass ends; no rule's meaning rests
-- on it.
use Rattle.std.specs.Prelude.{ℕ, ◌+◌, None}
use Rattle.aql_plan.specs.Plan.{Plan, Singleton, Over, Node, Scatter, Subquery}

abbrev mutual
  -- the feet that send each row to all shards, those of bodies too
  pub scatters_to_all : Plan → ℕ
  scatters_to_all Singleton = 0
  scatters_to_all (Over b n) = scatters_to_all b + scatter_to_all n

  pub scatter_to_all : Node → ℕ
  scatter_to_all (Subquery x s) = scatters_to_all s
  scatter_to_all (Scatter coll None) = 1
  scatter_to_all n = 0
