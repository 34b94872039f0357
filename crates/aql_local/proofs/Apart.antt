-- In a plan that has a shape each node stands where its executor may.
use Rattle.std.proofs.Common.{ℕ, true, false, Some, None}
use Rattle.aql_meaning.specs.declared.grouping.Stage.TheVariants as stage
use Rattle.aql_plan.specs.declared.facts.Facts.{Facts}
use Rattle.aql_plan.specs.Plan.{Plan, Over, Node, EnumerateCollection, Index, EnumerateList, Traversal, Calculation, Filter, Sort, Limit, Collect, NoResults, Remote}
use Rattle.aql_plan.specs.Shapes.{Shape, Rows, Foot, Fragment, States, AllStates, Sent, Result, IsOuter, ReadsFragment, ReadsShard, KeepsRowOrder, IsSent, Shaped, one_row, calculated, with_subquery, plain_rows, ordered_rows, scatter, distribute, remote, lowest, lowest_in_order, other_reading, passing, sorting, gather, gather_in_order, partial, joining, finishing, returning}
use Rattle.aql_local.specs.Fragments.{StandsOnShard, IsFragment, StandsApart, FootStandsApart}

-- ---- nodes

outer_apart : (b : Plan) (n : Node) → IsOuter n → StandsApart b → StandsApart (Over b n)
outer_apart b (EnumerateCollection x) i h = (h, tt)
outer_apart b (Index x index equal last None) i h = (h, tt)
outer_apart b (Index x index equal last (Some descending)) i h = absurd i
outer_apart b (EnumerateList x e) i h = (h, tt)
outer_apart b (Traversal w e colls prune keep) i h = (h, tt)
outer_apart b (Filter e) i h = (h, tt)
outer_apart b (Sort directions es n) i h = (h, tt)
outer_apart b (Limit offset count) i h = (h, tt)
outer_apart b (Collect xs es gs j stage.Whole) i h = (h, tt)
outer_apart b (Collect xs es gs j stage.Partial) i h = absurd i
outer_apart b (Collect xs es gs j stage.Final) i h = absurd i
outer_apart b NoResults i h = (h, tt)
outer_apart b n i h = absurd i

reading_stands : (coll : ℕ) (n : Node) → ReadsFragment coll n → StandsOnShard n
reading_stands coll (EnumerateCollection x) i = tt
reading_stands coll (Index x index equal last ordered) i = tt
reading_stands coll n i = absurd i

shard_stands : (n : Node) → ReadsShard n → StandsOnShard n
shard_stands (EnumerateCollection x) i = tt
shard_stands (Index x index equal last ordered) i = tt
shard_stands n i = absurd i

passing_stands : (n : Node) → KeepsRowOrder n → StandsOnShard n
passing_stands (Filter e) i = tt
passing_stands (Calculation x e) i = tt
passing_stands n i = absurd i

-- ---- parts of a plan, by their shapes

abbrev StandsIn : Plan → Type 0
StandsIn p = IsFragment p × FootStandsApart p

abbrev Stands : Plan → Shape → Type 0
Stands p (Foot coll one) = StandsIn p
Stands p (Fragment o) = StandsIn p
Stands p (States xs es gs) = StandsIn p
Stands p (AllStates xs es gs) = StandsApart p
Stands p (Sent s) = Stands p s
Stands p (Rows one) = StandsApart p
Stands p Result = StandsApart p

-- a fragment with a node more
one_more : (b : Plan) (n : Node) → StandsOnShard n → StandsIn b → StandsIn (Over b n)
one_more b (EnumerateCollection x) i h = ((h.0, tt), h.1)
one_more b (Index x index equal last ordered) i h = ((h.0, tt), h.1)
one_more b (Calculation x e) i h = ((h.0, tt), h.1)
one_more b (Filter e) i h = ((h.0, tt), h.1)
one_more b (Sort directions es n) i h = ((h.0, tt), h.1)
one_more b (Collect xs es gs j stage.Partial) i h = ((h.0, tt), h.1)
one_more b (Collect xs es gs j stage.Whole) i h = absurd i
one_more b (Collect xs es gs j stage.Final) i h = absurd i
one_more b Remote i h = ((h.0, tt), h.1)
one_more b n i h = absurd i

sent : (b : Plan) (s : Shape) → IsSent s → Stands b s → Stands (Over b Remote) s
sent b (Foot coll one) i h = one_more b Remote tt h
sent b (Fragment o) i h = one_more b Remote tt h
sent b (States xs es gs) i h = one_more b Remote tt h
sent b s i h = absurd i

module _ (facts : Facts) where
  stands : (p : Plan) (s : Shape) → Shaped facts p s → Stands p s
  stands p s one_row = tt
  stands p s (calculated {b = b} f h) = (stands b _ h, tt)
  stands p s (with_subquery {b = b} {s = t} g h) = (stands b _ h, stands t _ g)
  stands p s (plain_rows {b = b} {n = n} i f h) = outer_apart b n i (stands b _ h)
  stands p s (ordered_rows {b = b} e f h) = (stands b (Rows true) h, tt)
  stands p s (scatter {b = b} f h) = (tt, stands b _ h)
  stands p s (distribute {b = b} f h) = (tt, stands b _ h)
  stands p s (remote {b = b} {s = t} i h) = sent b t i (stands b t h)
  stands p s (lowest {b = b} {n = n} {coll = coll} i f h) =
      one_more b n (reading_stands coll n i) (stands b _ h)
  stands p s (lowest_in_order {b = b} {x = x} e f h) =
      let in_fragment = stands b (Sent (Foot x.coll true)) h in ((in_fragment.0, tt), in_fragment.1)
  stands p s (other_reading {b = b} {n = n} {o = o} i f h) =
      one_more b n (shard_stands n i) (stands b (Fragment o) h)
  stands p s (passing {b = b} {n = n} {o = o} i f h) =
      one_more b n (passing_stands n i) (stands b (Fragment o) h)
  stands p s (sorting {b = b} {o = o} f h) =
      let in_fragment = stands b (Fragment o) h in ((in_fragment.0, tt), in_fragment.1)
  stands p s (gather {b = b} {o = o} h) = stands b (Sent (Fragment o)) h
  stands p s (gather_in_order {b = b} {directions = directions} {es = es} f h) = stands b _ h
  stands p s (partial {b = b} {o = o} f h) =
      let in_fragment = stands b (Fragment o) h in ((in_fragment.0, tt), in_fragment.1)
  stands p s (joining {b = b} {xs = xs} {es = es} {gs = gs} h) = stands b (Sent (States xs es gs)) h
  stands p s (finishing {b = b} {xs = xs} {es = es} {gs = gs} f h) = (stands b (AllStates xs es gs) h, tt)
  stands p s (returning {b = b} f h) = (stands b (Rows false) h, tt)

  pub stands_apart : (p : Plan) → Shaped facts p Result → StandsApart p
  stands_apart p h = stands p Result h
