-- What distribute-in-cluster makes of a part, the part may give: on each shard the lowest node makes of the
-- rows that are sent there what it makes of all rows.
use Rattle.std.proofs.Common.{◌∙◌, ℕ, List, true, refl, subst}
use Rattle.std.specs.Prelude.{filter, ◌==◌, Option, None}
use Rattle.aql_value.specs.Database.{Database}
use Rattle.aql_value.specs.Shards.{shard_of}
use Rattle.aql_tree.specs.Tree.{ExprTrees}
use Rattle.aql_meaning.specs.AtRows.{keys_of}
use Rattle.aql_meaning.specs.Row.{Row}
use Rattle.aql_meaning.specs.Uses.{Uses}
use Rattle.aql_plan.specs.declared.facts.Facts.{Facts}
use Rattle.aql_plan.specs.Facts.{shards_in}
use Rattle.aql_plan.specs.Plan.{Plan, Over, Node, EnumerateCollection, Index, Scatter, Distribute, Remote}
use Rattle.aql_plan.specs.Refines.{dataset}
use Rattle.aql_plan.specs.Runs.{Inside, Runs, Gives}
use Rattle.aql_rewrite.specs.declared.swap.Rename.{Rename}
use Rattle.aql_rewrite.specs.Swaps.{Replaced}
use Rattle.aql_rules_cluster.specs.declared.key_items.Wanted.TheVariants.{Apart}
use Rattle.aql_rules_cluster.specs.DistributeInCluster.{Distributes, distributed}
use Rattle.aql_rules_cluster.specs.FragmentParts.{over_link, ReadsHere}
use Rattle.aql_rules_cluster.specs.laws.AlikeInside.{AlikeInside, foot_may_be_replaced}
use Rattle.aql_rules_cluster.specs.laws.KeyItems.{keys_given}
use Rattle.aql_rules_cluster.specs.laws.SentRows.{KeepsByKeys, gives_of_all}

module _ (facts : Facts) (b : Plan) (coll : ℕ) (es : ExprTrees) where
  -- the rows that are sent to a shard
  abbrev sent : ℕ → List Row → List Row
  sent shard rows = filter (λ row. shard_of (shards_in facts coll) (keys_of es row) == shard) rows

  -- what the lowest node takes there comes over the link
  abbrev Comes : Database → ℕ → Row → List Row → List Row → Type 0
  Comes db shard start taken rows = Runs (Over (Over b (Distribute coll es)) Remote) (dataset facts db)
      (Inside shard (sent shard taken)) start rows

  of_all : (n : Node) → ReadsHere coll n → KeepsByKeys facts coll n es → (db : Database) (shard : ℕ)
      (start : Row) (taken rows out : List Row) → Comes db shard start taken rows
      → Gives n (dataset facts db) (Inside shard (sent shard taken)) start rows out
      → Gives n (dataset facts db) (Inside shard taken) start taken out
  of_all n reads keeps db shard start taken rows out comes g =
      let w = dataset facts db in
      gives_of_all n w coll es shard start taken out reads keeps
      (subst (λ (rs : List Row). Gives n w (Inside shard (sent shard taken)) start rs out)
      (comes.2 ∙ comes.1) g)

  -- with a Distribute for the Scatter each shard gives the same
  pub distributed_alike : (n : Node) → ReadsHere coll n → KeepsByKeys facts coll n es
      → AlikeInside facts (over_link (Over b (Distribute coll es)) n)
      (over_link (Over b (Scatter coll None)) n)
  distributed_alike (EnumerateCollection x) reads keeps = record {
    feeds = λ db meets start taken h. h;
    shards = λ w. refl;
    runs = λ db meets start taken shard out g. (
      taken,
      (taken, refl, refl),
      of_all (EnumerateCollection x) reads keeps db shard start taken g.0 out g.1 g.2,
    );
  }
  distributed_alike (Index x index equal last ordered) reads keeps = record {
    feeds = λ db meets start taken h. h;
    shards = λ w. refl;
    runs = λ db meets start taken shard out g. (
      taken,
      (taken, refl, refl),
      of_all (Index x index equal last ordered) reads keeps db shard start taken g.0 out g.1 g.2,
    );
  }
  distributed_alike n reads keeps = absurd reads

pub distributes_refine : (facts : Facts) (us : Uses) (p q : Plan) (r : Option Rename)
    → Distributes facts us p q r → Replaced true facts us p q r
distributes_refine facts _ _ _ _ (distributed {us = us} {b = b} {p = p} {q = q} {coll = coll} {n = n}
    {es = es} {directions = directions} {keys = keys} servers sends above) =
    foot_may_be_replaced facts us directions keys (over_link (Over b (Scatter coll None)) n)
    (over_link (Over b (Distribute coll es)) n) p q
    (distributed_alike facts b coll es n sends.0 (keys_given facts Apart n coll es sends.0 sends.1)) above
