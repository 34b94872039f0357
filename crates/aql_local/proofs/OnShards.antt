-- The operators of a fragment on a shard, by its top node and what is below; and lists of trees.
use Rattle.std.proofs.Common.{◌≡◌, ◌∙◌, ℕ, ◌+◌, ◌<◌, ◌≤◌, List, [], ◌∷◌, ◌++◌, length, get_or, take, Some, None, true, false, refl, ap, sym, arith}
use Rattle.std.proofs.lemmas.List.{take_more}
use Rattle.aql_meaning.specs.declared.grouping.Stage.TheVariants as stage
use Rattle.aql_plan.specs.declared.facts.Facts.{Facts}
use Rattle.aql_plan.specs.Nodes.{weight}
use Rattle.aql_plan.specs.Fits.{Fits}
use Rattle.aql_plan.specs.Plan.{Plan, Singleton, Over, Node, EnumerateCollection, Index, Calculation, Filter, Sort, Collect, Scatter, Distribute, Remote, Gather}
use Rattle.aql_exec.specs.declared.feed.Feed
use Rattle.aql_exec.specs.Operators as operator
use Rattle.aql_exec.specs.Operators.{Operator, OperatorTree, OperatorTrees, no_trees, tree_then, NoRows, Shards, leaf, within}
use Rattle.aql_engine.specs.EachFits.{EachFits}
use Rattle.aql_engine.specs.OperatorsOf.{last_looks, looked_at, operators_at, operators_of, operators_below, foot, shards_of, each_tree}
use Rattle.aql_exec_fragments.specs.Feeds.{trees_of}
use Rattle.aql_local.specs.Building.{SetsNumbers}
use Rattle.aql_local.specs.Fragments.{StandsOnShard, IsFragment, is_foot, operator_on, all_trees, StandsApart, FootStandsApart, below_foot, is_gather, reached, gather_of, gather_operator}
use Rattle.aql_local.proofs.Returned.{within_is}

-- ---- a node above the foot

pub above_foot : (b : Plan) (n : Node) → IsFragment (Over b n) → is_foot n ≡ false
    → IsFragment b × StandsOnShard n
above_foot b (Scatter coll only) h e = absurd (cc)
above_foot b (Distribute coll es) h e = absurd (cc)
above_foot b n h e = h

pub shard_operators : (facts : Facts) (shard : ℕ) (b : Plan) (n : Node) → StandsOnShard n
    → within (operator_on shard n) (looked_at (last_looks n) (operators_at facts (Some shard) b)) (leaf NoRows)
    ≡ operators_at facts (Some shard) (Over b n)
shard_operators facts shard b (EnumerateCollection x) h = refl
shard_operators facts shard b (Index x index equal last ordered) h = refl
shard_operators facts shard b (Calculation x e) h = refl
shard_operators facts shard b (Filter e) h = refl
shard_operators facts shard b (Sort directions es n) h = refl
shard_operators facts shard b (Collect xs es gs i stage.Partial) h = refl
shard_operators facts shard b (Collect xs es gs i stage.Whole) h = absurd h
shard_operators facts shard b (Collect xs es gs i stage.Final) h = absurd h
shard_operators facts shard b Remote h = refl
shard_operators facts shard b n h = absurd h

-- ---- a tree for each shard

-- one tree more, for one shard more
pub one_tree_more : {T : Type 0} (plan : T → OperatorTree) (tree : ℕ → OperatorTree) (ts : List T)
    (shards : List ℕ) (t : T) (shard : ℕ) → all_trees plan ts ≡ each_tree tree shards
    → plan t ≡ tree shard → all_trees plan (ts ++ t ∷ []) ≡ each_tree tree (shards ++ shard ∷ [])
one_tree_more plan tree [] [] t shard h e = ap (λ z. tree_then z no_trees) e
one_tree_more plan tree [] (s ∷ shards) t shard h e = absurd (cc)
one_tree_more plan tree (u ∷ ts) [] t shard h e = absurd (cc)
one_tree_more plan tree (u ∷ ts) (s ∷ shards) t shard h e = (
    let first : plan u ≡ tree s = cc in
    let rest : all_trees plan ts ≡ each_tree tree shards = cc in
    ap (λ z. tree_then z (all_trees plan (ts ++ t ∷ []))) first
    ∙ ap (tree_then (tree s)) (one_tree_more plan tree ts shards t shard rest e))

-- after another step of a loop over the shards
pub trees_more : {T : Type 0} (plan : T → OperatorTree) (tree : ℕ → OperatorTree) (shards : List ℕ)
    (ts new : List T) (i : ℕ) (t : T) → all_trees plan ts ≡ each_tree tree (take i shards)
    → i < length shards → new ≡ ts ++ t ∷ [] → plan t ≡ tree (get_or shards i 0)
    → all_trees plan new ≡ each_tree tree (take (i + 1) shards)
trees_more plan tree shards ts new i t before l p k =
    ap (all_trees plan) p ∙ one_tree_more plan tree ts (take i shards) t (get_or shards i 0) before k
    ∙ sym (ap (each_tree tree) (take_more shards i 0 l))

-- ---- the foot

pub foot_here : (b : Plan) (n : Node) → is_foot n ≡ true → n ≡ foot (Over b n)
foot_here b (Scatter coll only) e = refl
foot_here b (Distribute coll es) e = refl
foot_here b n e = absurd (cc)

pub foot_above : (b : Plan) (n : Node) → IsFragment (Over b n) → is_foot n ≡ false
    → foot b ≡ foot (Over b n)
foot_above b (Scatter coll only) h e = absurd (cc)
foot_above b (Distribute coll es) h e = absurd (cc)
foot_above b n h e = refl

pub below_here : (b : Plan) (n : Node) → is_foot n ≡ true → b ≡ below_foot (Over b n)
below_here b (Scatter coll only) e = refl
below_here b (Distribute coll es) e = refl
below_here b n e = absurd (cc)

pub below_above : (b : Plan) (n : Node) → is_foot n ≡ false → below_foot b ≡ below_foot (Over b n)
below_above b (Scatter coll only) e = absurd (cc)
below_above b (Distribute coll es) e = absurd (cc)
below_above b n e = refl

pub foot_of_fragment : (p : Plan) → IsFragment p → is_foot (foot p) ≡ true
foot_of_fragment Singleton h = absurd h
foot_of_fragment (Over b (Scatter coll only)) h = refl
foot_of_fragment (Over b (Distribute coll es)) h = refl
foot_of_fragment (Over b n) h = foot_of_fragment b h.0

-- ---- what holds below the foot

pub foot_lighter : (p : Plan) → IsFragment p → weight (below_foot p) + 1 ≤ weight p
foot_lighter Singleton h = absurd h
foot_lighter (Over b (Scatter coll only)) h = omega arith
foot_lighter (Over b (Distribute coll es)) h = omega arith
foot_lighter (Over b n) h = let k = foot_lighter b h.0 in omega (arith, k)

pub foot_fits : (facts : Facts) (p : Plan) → IsFragment p → EachFits facts p → Fits facts (foot p)
foot_fits facts Singleton h f = absurd h
foot_fits facts (Over b (Scatter coll only)) h f = f.1
foot_fits facts (Over b (Distribute coll es)) h f = f.1
foot_fits facts (Over b n) h f = foot_fits facts b h.0 f.0

pub below_fits : (facts : Facts) (p : Plan) → EachFits facts p → EachFits facts (below_foot p)
below_fits facts Singleton f = tt
below_fits facts (Over b (Scatter coll only)) f = f.0
below_fits facts (Over b (Distribute coll es)) f = f.0
below_fits facts (Over b n) f = below_fits facts b f.0

pub below_numbers : (p : Plan) → SetsNumbers p → SetsNumbers (below_foot p)
below_numbers Singleton h = tt
below_numbers (Over b (Scatter coll only)) h = h.0
below_numbers (Over b (Distribute coll es)) h = h.0
below_numbers (Over b n) h = below_numbers b h.0

pub below_apart : (p : Plan) → IsFragment p → FootStandsApart p → StandsApart (below_foot p)
below_apart Singleton h a = absurd h
below_apart (Over b (Scatter coll only)) h a = a
below_apart (Over b (Distribute coll es)) h a = a
below_apart (Over b n) h a = below_apart b h.0 a

-- ---- the operators of a Gather

pub below_operators : (facts : Facts) (p : Plan) → IsFragment p
    → operators_of facts (below_foot p) ≡ operators_below facts p
below_operators facts Singleton h = absurd h
below_operators facts (Over b (Scatter coll only)) h = refl
below_operators facts (Over b (Distribute coll es)) h = refl
below_operators facts (Over b n) h = below_operators facts b h.0

pub shards_are_reached : (facts : Facts) (p : Plan) → IsFragment p
    → reached facts (foot p) ≡ shards_of facts p
shards_are_reached facts Singleton h = absurd h
shards_are_reached facts (Over b (Scatter coll (Some shard))) h = refl
shards_are_reached facts (Over b (Scatter coll None)) h = refl
shards_are_reached facts (Over b (Distribute coll es)) h = refl
shards_are_reached facts (Over b n) h = shards_are_reached facts b h.0

-- a Gather over its fragments, and over what stands below their foot
pub gather_operators : (facts : Facts) (b : Plan) (n : Node) (shards : List ℕ) → is_gather n ≡ true
    → IsFragment b → shards ≡ reached facts (foot b)
    → within (gather_operator facts shards (Over b n)) (operators_of facts (below_foot b)) (leaf NoRows)
    ≡ operators_of facts (Over b n)
gather_operators facts b (Gather directions es) shards e h is =
    let all : shards ≡ shards_of facts b = is ∙ shards_are_reached facts b h in
    within_is (ap (λ z. gather_operator facts z (Over b (Gather directions es))) all)
    (below_operators facts b h) refl
gather_operators facts b n shards e h is = absurd (cc)

-- ---- the executor of a Gather

pub trees_are : {F W : Type 0} (h : Feed.Ghosts F W) (ts : List F) → trees_of h ts ≡ all_trees h.plan ts
trees_are h [] = refl
trees_are h (t ∷ ts) = ap (tree_then (h.plan t)) (trees_are h ts)

pub shards_is : {o o' s s' : Operator} {ts ts' : OperatorTrees} → o ≡ o' → s ≡ s' → ts ≡ ts'
    → Shards o s ts ≡ Shards o' s' ts'
shards_is {o' = o'} {s = s} {s' = s'} {ts = ts} e f h =
    ap (λ z. Shards z s ts) e ∙ ap (λ z. Shards o' z ts) f ∙ ap (λ z. Shards o' s' z) h

pub with_trees : {F W : Type 0} (h : Feed.Ghosts F W) (ts : List F) (o s : Operator)
    → Shards o s (trees_of h ts) ≡ Shards o s (all_trees h.plan ts)
with_trees h ts o s = ap (Shards o s) (trees_are h ts)

pub gathered_is : (facts : Facts) (b : Plan) (n : Node) (shards : List ℕ) → is_gather n ≡ true
    → Shards (gather_of (length shards) n) (operator.Scatter (foot b) shards)
    (each_tree (λ shard. operators_at facts (Some shard) b) shards)
    ≡ gather_operator facts shards (Over b n)
gathered_is facts b (Gather directions es) shards e = refl
gathered_is facts b n shards e = absurd (cc)
