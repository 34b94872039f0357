-- What the search for the one shard of a fragment says.
use Rattle.std.specs.Prelude.{ℕ, ◌≡◌, Option, Some, None, true}
use Rattle.aql_tree.specs.Tree.{ExprTrees}
use Rattle.aql_plan.specs.declared.facts.Facts.{Facts}
use Rattle.aql_plan.specs.Plan.{Plan, Node, Distribute, top}
use Rattle.aql_plan.specs.View.{expr_trees}
use Rattle.aql_rules_cluster.specs.declared.key_items.Wanted.TheVariants.{Constant}
use Rattle.aql_rules_cluster.specs.declared.single_shards.Sending as code
use Rattle.aql_rules_cluster.specs.KeyItems.{GivesKeys}
use Rattle.aql_rules_cluster.specs.RestrictToSingleShard.{shard_for, none_of_none, Narrows}
use Rattle.aql_rules_cluster.specs.inner.Bottoms.{Bottom, gathered_bottom}

-- what a Distribute sends rows by
pub record Sending : Type 0 where
  pub coll : ℕ
  pub exprs : ExprTrees

abbrev pub sending_view : code.Sending → Sending
sending_view d = record { coll = d.coll.0; exprs = expr_trees d.exprs.now }

abbrev pub distribution : Node → Option Sending
distribution (Distribute coll es) = Some (record { coll = coll; exprs = es })
distribution n = None

-- the shard of constants that give the shard keys, or that there are none
abbrev pub IsShardOf : Facts → ℕ → Node → Option ℕ → Type 0
IsShardOf facts coll n None = (es : ExprTrees) → GivesKeys facts Constant n es → ⊥
IsShardOf facts coll n (Some shard) =
    (es : ExprTrees) × GivesKeys facts Constant n es × (shard ≡ shard_for facts coll es)

-- at the bottom of a plan that is the Gather of a fragment
pub record NarrowsAt (facts : Facts) (p : Plan) (narrower : Node) : Type 0 where
  pub bottom : Bottom
  pub found : gathered_bottom p ≡ Some bottom
  pub none : none_of_none p ≡ true
  pub narrows : Narrows facts bottom.lowest (top bottom.foot) narrower
