-- A well-formed plan stays so under remove-unnecessary-remote-scatter, and sets no more.
use Rattle.std.proofs.Common.{◌≡◌, ℕ, ◌<◌, List, Bool, true, false, true≢false, Option, None, Some, refl, sym, subst, arith}
use Rattle.aql_tree.specs.declared.syntax.Ident.{Ident}
use Rattle.aql_tree.specs.Tree.{ExprTrees}
use Rattle.aql_meaning.specs.Uses.{Uses}
use Rattle.aql_plan.specs.declared.facts.Facts.{Facts}
use Rattle.aql_plan.specs.Fits.{IsShard, Fits}
use Rattle.aql_plan.specs.Plan.{Plan, Over, Node, EnumerateCollection, Index, Scatter, Remote}
use Rattle.aql_plan.specs.Shapes.{Order, unordered, by_keys, Shape, Rows, Foot, Fragment, Sent, ReadsFragment, ReadsShard, Shaped, calculated, with_subquery, plain_rows, ordered_rows, scatter, distribute, remote, lowest, lowest_in_order, other_reading, passing, sorting, gather, gather_in_order, partial, joining, finishing, returning, is_inside}
use Rattle.aql_plan.specs.Variables.{vars_of, FindsAll}
use Rattle.aql_rewrite.specs.declared.swap.Rename.{Rename}
use Rattle.aql_rewrite.specs.Placed.{Placed}
use Rattle.aql_rewrite.specs.Swaps.{SetsNoMore, KeepsPlaced}
use Rattle.aql_rules_cluster.specs.DistributeFiltercalcToCluster.{gathered}
use Rattle.aql_rules_cluster.specs.FragmentParts.{over_link, ReadsHere}
use Rattle.aql_rules_cluster.specs.RemoveUnnecessaryRemoteScatter.{RunsOnOne, named, scattered, above_foot, with_shard, Joins, joined}
use Rattle.aql_rules_cluster.specs.laws.FiltercalcRefines.{sent_fragment}
use Rattle.aql_rules_cluster.specs.laws.KeptAbove.{kept_at_gather}

-- ---- the lower fragment

-- its Gather gives many rows
gathered_rows : (facts : Facts) (directions : List Bool) (keys : ExprTrees) (f : Plan) (one : Bool)
    → Shaped facts (gathered directions keys f) (Rows one)
    → (one ≡ false) × (o : Order) × Shaped facts f (Fragment o)
gathered_rows facts directions keys f one (plain_rows i g h) = absurd i
gathered_rows facts directions keys f one (gather {o = o} h) = (refl, o, sent_fragment facts f o h)
gathered_rows facts directions keys f one (gather_in_order g h) =
    (refl, by_keys directions keys, sent_fragment facts f (by_keys directions keys) h)

-- ---- the lowest node of the upper one

scatter_rows : (facts : Facts) (b : Plan) (coll : ℕ) (only : Option ℕ) (c : ℕ) (one : Bool)
    → Shaped facts (Over b (Scatter coll only)) (Foot c one)
    → Fits facts (Scatter coll only) × Shaped facts b (Rows one)
scatter_rows facts b coll only c one (scatter f h) = (f, h)

foot_rows : (facts : Facts) (b : Plan) (coll : ℕ) (only : Option ℕ) (c : ℕ) (one : Bool)
    → Shaped facts (Over (Over b (Scatter coll only)) Remote) (Sent (Foot c one))
    → Fits facts (Scatter coll only) × Shaped facts b (Rows one)
foot_rows facts b coll only c one (remote i h) = scatter_rows facts b coll only c one h

link_is_none : (facts : Facts) (b : Plan) (o : Order) → Shaped facts (Over b Remote) (Fragment o) → ⊥
link_is_none facts b o (lowest i f h) = i
link_is_none facts b o (other_reading i f h) = i
link_is_none facts b o (passing i f h) = i

-- it goes by no order
record Stands (facts : Facts) (b : Plan) (coll : ℕ) (only : Option ℕ) (n : Node) (s : Shape) : Type 0 where
  pub plain : s ≡ Fragment unordered
  pub of : ℕ
  pub reads : ReadsFragment of n
  pub fits : Fits facts n
  pub foot : Fits facts (Scatter coll only)
  pub one : Bool
  pub rows : Shaped facts b (Rows one)

stands : (facts : Facts) (b : Plan) (coll : ℕ) (only : Option ℕ) (n : Node)
    → ((one : Bool) → Shaped facts b (Rows one) → one ≡ false) → (s : Shape) → ReadsHere coll n
    → is_inside s ≡ true → Shaped facts (Over (Over (Over b (Scatter coll only)) Remote) n) s
    → Stands facts b coll only n s
stands facts b coll only n many s i e (calculated f h) = absurd i
stands facts b coll only n many s i e (with_subquery g h) = absurd i
stands facts b coll only n many s i e (plain_rows k f h) = absurd (true≢false (sym e))
stands facts b coll only n many s i e (ordered_rows k f h) = absurd (true≢false (sym e))
stands facts b coll only n many s i e (scatter f h) = absurd i
stands facts b coll only n many s i e (distribute f h) = absurd i
stands facts b coll only n many s i e (remote k h) = absurd i
stands facts b coll only n many s i e (lowest {one = one} {coll = c} k f h) =
    let below = foot_rows facts b coll only c one h in
    record { plain = refl; of = c; reads = k; fits = f; foot = below.0; one = one; rows = below.1 }
stands facts b coll only n many s i e (lowest_in_order {x = x} k f h) =
    absurd (true≢false (many true (foot_rows facts b coll only x.coll true h).1))
stands facts b coll only n many s i e (other_reading k f h) = absurd (link_is_none facts _ _ h)
stands facts b coll only n many s i e (passing k f h) = absurd (link_is_none facts _ _ h)
stands facts b coll only n many s i e (sorting f h) = absurd i
stands facts b coll only n many s i e (gather h) = absurd i
stands facts b coll only n many s i e (gather_in_order f h) = absurd i
stands facts b coll only n many s i e (partial f h) = absurd i
stands facts b coll only n many s i e (joining h) = absurd i
stands facts b coll only n many s i e (finishing f h) = absurd i
stands facts b coll only n many s i e (returning f h) = absurd i

own_shard : (coll high : ℕ) (n : Node) → ReadsFragment coll n → ReadsShard (with_shard high n)
own_shard coll high (EnumerateCollection x) h = refl
own_shard coll high (Index x index equal last None) h = refl
own_shard coll high (Index x index equal last (Some descending)) h = absurd h
own_shard coll high n h = absurd h

-- the shard is there
shard_fits : (facts : Facts) (b : Plan) (coll : ℕ) (only : Option ℕ) (c high : ℕ)
    → RunsOnOne facts (Over b (Scatter coll only)) c high → Fits facts (Scatter coll only)
    → IsShard facts c (Some high)
shard_fits facts b coll only c high named f = f
shard_fits facts b coll only c high (scattered e) f =
    (f, subst (λ (shards : ℕ). 0 < shards) (sym e) (omega arith))
shard_fits facts b coll only c high (above_foot i h) f = absurd (true≢false (sym i))

own_fits : (facts : Facts) (coll high : ℕ) (n : Node) → ReadsHere coll n → IsShard facts coll (Some high)
    → Fits facts n → Fits facts (with_shard high n)
own_fits facts coll high (EnumerateCollection x) h s f =
    (subst (λ (c : ℕ). IsShard facts c (Some high)) (sym h.0) s, f.1)
own_fits facts coll high (Index x index equal last ordered) h s f =
    (subst (λ (c : ℕ). IsShard facts c (Some high)) (sym h.0) s, f.1, f.2, f.3, f.4)
own_fits facts coll high n h s f = absurd h

-- ---- variables

module _ (outer : List Ident) (f : Plan) (directions : List Bool) (keys : ExprTrees) (coll high : ℕ)
    (only : Option ℕ) where
  abbrev old : Node → Plan
  old n = over_link (Over (gathered directions keys f) (Scatter coll only)) n

  abbrev new : Node → Plan
  new n = Over f (with_shard high n)

  found_below : (n : Node) → ReadsHere coll n → FindsAll outer (old n) → FindsAll outer (new n)
  found_below (EnumerateCollection x) i h = (h.0.0.0.0.0, h.1, h.2, tt)
  found_below (Index x index equal last ordered) i h = (h.0.0.0.0.0, h.1, h.2, tt)
  found_below n i h = absurd i

  vars_same : (n : Node) → ReadsHere coll n → vars_of outer (new n) ≡ vars_of outer (old n)
  vars_same (EnumerateCollection x) i = refl
  vars_same (Index x index equal last ordered) i = refl
  vars_same n i = absurd i

  sets_same : (n : Node) → ReadsHere coll n → SetsNoMore (old n) (new n)
  sets_same (EnumerateCollection x) i z = omega arith
  sets_same (Index x index equal last ordered) i z = omega arith
  sets_same n i z = absurd i

-- ---- the rule

pub joins_keep : (facts : Facts) (outer away : List Ident) (us : Uses) (p q : Plan) (r : Option Rename)
    → Placed true false facts outer away us p → Joins facts us p q r
    → KeepsPlaced true false facts outer us p q r
joins_keep facts outer away _ _ _ _ placed (joined {us = us} {f = f} {p = p} {q = q} {n = n}
    {low_coll = low_coll} {low = low} {coll = coll} {high = high} {only = only} {between = between}
    {directions = directions} {between_keys = between_keys} {keys = keys} servers lower upper same here
    above) =
    let b = gathered between between_keys f in
    kept_at_gather facts outer away us directions keys (over_link (Over b (Scatter coll only)) n)
    (Over f (with_shard high n)) p q placed above (λ found. record {
      shape = λ s e h.
          let k = stands facts b coll only n
          (λ one g. (gathered_rows facts between between_keys f one g).0) s here e h in
          let g = gathered_rows facts between between_keys f k.one k.rows in
          subst (Shaped facts (Over f (with_shard high n))) (sym k.plain)
          (other_reading (own_shard k.of high n k.reads)
          (own_fits facts coll high n here (shard_fits facts b coll only coll high upper k.foot) k.fits) g.2);
      found = found_below outer f between between_keys coll high only n here found;
      vars = vars_same outer f between between_keys coll high only n here;
      fewer = sets_same outer f between between_keys coll high only n here;
    })
