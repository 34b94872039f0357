-- Nodes and plans that stand in a fragment, and the operators of its trees, one for each shard.
use Rattle.std.specs.Prelude.{ℕ, Bool, true, false, List, [], ◌∷◌, length, Some, None}
use Rattle.aql_meaning.specs.declared.grouping.Stage.TheVariants as stage
use Rattle.aql_plan.specs.declared.facts.Facts.{Facts}
use Rattle.aql_plan.specs.Facts.{shards_in, numbers_below}
use Rattle.aql_plan.specs.Plan.{Plan, Singleton, Over, Node, EnumerateCollection, Index, Calculation, Filter, Sort, Subquery, Collect, Scatter, Distribute, Remote, Gather}
use Rattle.aql_exec.specs.Operators as operator
use Rattle.aql_exec.specs.Operators.{Operator, OnRows, NoRows, Shards, OperatorTree, OperatorTrees, no_trees, tree_then}
use Rattle.aql_engine.specs.OperatorsOf.{node_at, foot, each_tree, operators_at}

-- nodes of a fragment above its foot
abbrev pub StandsOnShard : Node → Type 0
StandsOnShard (EnumerateCollection x) = Unit {0}
StandsOnShard (Index x index equal last ordered) = Unit {0}
StandsOnShard (Calculation x e) = Unit {0}
StandsOnShard (Filter e) = Unit {0}
StandsOnShard (Sort directions es n) = Unit {0}
StandsOnShard (Collect xs es gs i stage.Partial) = Unit {0}
StandsOnShard Remote = Unit {0}
StandsOnShard n = ⊥

abbrev pub is_remote : Node → Bool
is_remote Remote = true
is_remote n = false

-- it is the foot of a fragment
abbrev pub is_foot : Node → Bool
is_foot (Scatter coll only) = true
is_foot (Distribute coll es) = true
is_foot n = false

-- a part of a plan from the foot of a fragment up
abbrev pub IsFragment : Plan → Type 0
IsFragment Singleton = ⊥
IsFragment (Over b (Scatter coll only)) = Unit {0}
IsFragment (Over b (Distribute coll es)) = Unit {0}
IsFragment (Over b n) = IsFragment b × StandsOnShard n

-- the operator of such a node on a shard
abbrev pub operator_on : ℕ → Node → Operator
operator_on shard Remote = operator.Remote
operator_on shard n = OnRows (node_at (Some shard) n)

-- what the trees in a list stand for
abbrev pub all_trees : {T : Type 0} → (T → OperatorTree) → List T → OperatorTrees
all_trees plan [] = no_trees
all_trees plan (t ∷ ts) = tree_then (plan t) (all_trees plan ts)

-- ---- plans with fragments

abbrev mutual
  -- each Gather stands over a fragment, and no other node of a fragment stands outside one; bodies too
  pub StandsApart : Plan → Type 0
  StandsApart Singleton = Unit {0}
  StandsApart (Over b (Gather directions es)) = IsFragment b × FootStandsApart b
  StandsApart (Over b n) = StandsApart b × StandsOutside n

  -- what stands below the foot of a fragment
  pub FootStandsApart : Plan → Type 0
  FootStandsApart Singleton = Unit {0}
  FootStandsApart (Over b (Scatter coll only)) = StandsApart b
  FootStandsApart (Over b (Distribute coll es)) = StandsApart b
  FootStandsApart (Over b n) = FootStandsApart b

  pub StandsOutside : Node → Type 0
  StandsOutside (Subquery x body) = StandsApart body
  StandsOutside (Collect xs es gs i stage.Partial) = ⊥
  StandsOutside (Scatter coll only) = ⊥
  StandsOutside (Distribute coll es) = ⊥
  StandsOutside Remote = ⊥
  StandsOutside (Gather directions es) = ⊥
  StandsOutside n = Unit {0}

-- what stands below the foot of a fragment
abbrev pub below_foot : Plan → Plan
below_foot Singleton = Singleton
below_foot (Over b (Scatter coll only)) = b
below_foot (Over b (Distribute coll es)) = b
below_foot (Over b n) = below_foot b

abbrev pub is_gather : Node → Bool
is_gather (Gather directions es) = true
is_gather n = false

-- the shards that a Scatter or Distribute reaches
abbrev pub reached : Facts → Node → List ℕ
reached facts (Scatter coll (Some shard)) = shard ∷ []
reached facts (Scatter coll None) = numbers_below (shards_in facts coll)
reached facts (Distribute coll es) = numbers_below (shards_in facts coll)
reached facts n = []

-- a Gather over so many inputs
abbrev pub gather_of : ℕ → Node → Operator
gather_of inputs (Gather directions es) = operator.Gather inputs directions es
gather_of inputs n = NoRows

-- a Gather over a fragment, by the shards that it reaches
abbrev pub gather_operator : Facts → List ℕ → Plan → Operator
gather_operator facts shards (Over b (Gather directions es)) =
    Shards (operator.Gather (length shards) directions es) (operator.Scatter (foot b) shards)
    (each_tree (λ shard. operators_at facts (Some shard) b) shards)
gather_operator facts shards p = NoRows
