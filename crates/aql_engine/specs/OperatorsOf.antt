-- The operators that a plan stands for, a line for each node: those that executors run. A Gather stands for
-- one tree on each shard that its fragment reaches; in such a tree a node that reads documents reads those of
-- that shard, and the rows that came to the shard stand at its foot. Documents of which only what is kept is
-- looked at, in rows that go no further, are read whole.
use Rattle.std.specs.Prelude.{ℕ, List, [], ◌∷◌, length, Bool, true, cond, not, ◌||◌, Option, Some, None, unwrap_or, bytes_eq}
use Rattle.std.specs.List.{list_any, list_all}
use Rattle.aql_tree.specs.declared.syntax.Ident.{Ident}
use Rattle.aql_meaning.specs.Row.{same_ident}
use Rattle.aql_meaning.specs.Uses.{Use, Whole, Attribute, Uses}
use Rattle.aql_plan.specs.declared.facts.Facts.{Facts}
use Rattle.aql_plan.specs.Plan.{Reading, Plan, Singleton, Over, Node, EnumerateCollection, Index}
use Rattle.aql_plan.specs.Plan.{Calculation, Subquery, Filter, Sort, Limit, Collect, Return, NoResults, Scatter, Distribute, Remote, Gather}
use Rattle.aql_plan.specs.Needs.{own_uses, under}
use Rattle.aql_plan.specs.Refines.{dataset}
use Rattle.aql_plan.specs.Runs.{targets}
use Rattle.aql_exec.specs.Operators as operator
use Rattle.aql_exec.specs.Operators.{Operator, StartRow, NoRows, ShardRows, OnRows, WithBody, Shards}
use Rattle.aql_exec.specs.Operators.{OperatorTree, leaf, within, OperatorTrees, no_trees, tree_then}

-- ---- nodes on a shard

-- it reads the shard that it names, else that of its fragment
abbrev pub reading_at : Option ℕ → Reading → Reading
reading_at None x = x
reading_at (Some shard) x = record {
  var = x.var;
  coll = x.coll;
  filter = x.filter;
  attrs = x.attrs;
  shard = Some (unwrap_or x.shard shard);
}

abbrev pub node_at : Option ℕ → Node → Node
node_at at (EnumerateCollection x) = EnumerateCollection (reading_at at x)
node_at at (Index x index equal last ordered) = Index (reading_at at x) index equal last ordered
node_at at n = n

-- ---- fragments

-- the Scatter or Distribute at the foot of a fragment
abbrev pub foot : Plan → Node
foot Singleton = NoResults
foot (Over b (Scatter coll only)) = Scatter coll only
foot (Over b (Distribute coll es)) = Distribute coll es
foot (Over b n) = foot b

-- the shards that a fragment reaches
abbrev pub shards_of : Facts → Plan → List ℕ
shards_of facts b = targets b (dataset facts [])

abbrev pub each_tree : (ℕ → OperatorTree) → List ℕ → OperatorTrees
each_tree tree [] = no_trees
each_tree tree (shard ∷ shards) = tree_then (tree shard) (each_tree tree shards)

-- ---- documents that are looked at by attributes

-- the attribute is kept of a document
abbrev pub is_kept : Option (List (List ℕ)) → List ℕ → Bool
is_kept None name = true
is_kept (Some names) name = list_any (bytes_eq name) names

-- a use of another variable, or of an attribute that is kept
abbrev pub is_covered : Ident → Option (List (List ℕ)) → Use → Bool
is_covered x attrs (Whole y) = not (same_ident x y)
is_covered x attrs (Attribute y name) = not (same_ident x y) || is_kept attrs name

-- the documents are read whole where only what is kept of them is looked at: to cut them would change nothing
abbrev pub reading_for : Uses → Reading → Reading
reading_for us x = record {
  var = x.var;
  coll = x.coll;
  filter = x.filter;
  attrs = cond (list_all (is_covered x.var x.attrs) us) None x.attrs;
  shard = x.shard;
}

-- what a node looks at of rows that it does not hand on
abbrev pub last_looks : Node → Option Uses
last_looks (Collect xs es gs i s) = Some (own_uses (Collect xs es gs i s))
last_looks (Return distinct e) = Some (own_uses (Return distinct e))
last_looks n = None

-- what is looked at of the rows of its input where a node hands them on, and this is looked at above it
abbrev pub passed_looks : Node → Uses → Option Uses
passed_looks (Calculation x e) us = Some (under (Calculation x e) us)
passed_looks (Filter e) us = Some (under (Filter e) us)
passed_looks (Sort directions es n) us = Some (under (Sort directions es n) us)
passed_looks (Limit offset count) us = Some (under (Limit offset count) us)
passed_looks n us = None

-- the operators of which this is looked at, and no row goes further: down to a scan through nodes that pass
-- its rows on
abbrev pub looked_at : Option Uses → OperatorTree → OperatorTree
looked_at (Some us) (within (OnRows (EnumerateCollection x)) below body) =
    within (OnRows (EnumerateCollection (reading_for us x))) below body
looked_at (Some us) (within (OnRows n) below body) = within (OnRows n) (looked_at (passed_looks n us) below) body
looked_at looks t = t

-- ---- plans

-- an operator over one input: its body never begins
abbrev pub on_top : Operator → OperatorTree → OperatorTree
on_top o below = within o below (leaf NoRows)

-- the rows that came to a shard; none outside fragments
abbrev pub came_at : Option ℕ → Operator
came_at None = NoRows
came_at (Some shard) = ShardRows

abbrev mutual
  -- the operators of a plan, outside fragments or on a shard
  pub operators_at : Facts → Option ℕ → Plan → OperatorTree
  operators_at facts at Singleton = leaf StartRow
  operators_at facts at (Over b NoResults) = leaf NoRows
  operators_at facts at (Over b (Subquery x body)) =
      within (WithBody x) (operators_at facts at b) (operators_at facts None body)
  operators_at facts at (Over b (Scatter coll only)) = leaf (came_at at)
  operators_at facts at (Over b (Distribute coll es)) = leaf (came_at at)
  operators_at facts at (Over b Remote) = on_top operator.Remote (operators_at facts at b)
  operators_at facts at (Over b (Gather directions es)) = on_top
      (Shards (operator.Gather (length (shards_of facts b)) directions es)
      (operator.Scatter (foot b) (shards_of facts b))
      (each_tree (λ shard. operators_at facts (Some shard) b) (shards_of facts b)))
      (operators_below facts b)
  operators_at facts at (Over b n) =
      on_top (OnRows (node_at at n)) (looked_at (last_looks n) (operators_at facts at b))

  -- those below the foot of a fragment
  pub operators_below : Facts → Plan → OperatorTree
  operators_below facts Singleton = leaf NoRows
  operators_below facts (Over b (Scatter coll only)) = operators_at facts None b
  operators_below facts (Over b (Distribute coll es)) = operators_at facts None b
  operators_below facts (Over b n) = operators_below facts b

abbrev pub operators_of : Facts → Plan → OperatorTree
operators_of facts p = operators_at facts None p
