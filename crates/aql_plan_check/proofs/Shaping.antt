-- A node over a part of a plan has a shape exactly where it may stand there, and then the next one.
use Rattle.std.proofs.Common.{◌≡◌, ◌∙◌, ap, sym, refl, subst, ℕ, List, [], Bool, true, false, true≢false, inl, inr}
use Rattle.std.specs.Prelude.{Option, Some, None, MatchOption, ◌⊎◌}
use Rattle.aql_tree.specs.Tree.{ExprTrees, no_exprs, AggregateTrees, no_into, into}
use Rattle.aql_tree.specs.declared.syntax.Ident.{Ident}
use Rattle.aql_meaning.specs.declared.grouping.Stage.TheVariants as stage
use Rattle.aql_plan.specs.declared.facts.Facts.{Facts}
use Rattle.aql_plan.specs.Fits.{Fits}
use Rattle.aql_plan.specs.Plan.{Reading, Plan, Singleton, Over, Node, EnumerateCollection, Index, EnumerateList, Traversal, Calculation, Subquery, Filter, Sort, Limit, Collect, Return, NoResults, Scatter, Distribute, Remote, Gather}
use Rattle.aql_plan.specs.Shapes.{Order, unordered, by_keys, index_order, Shape, Rows, Foot, Fragment, States, AllStates, Sent, Result, IsOuter, ReadsFragment, ReadsShard, KeepsRowOrder, IsSent, Shaped, one_row, calculated, with_subquery, plain_rows, ordered_rows, scatter, distribute, remote, lowest, lowest_in_order, other_reading, passing, sorting, gather, gather_in_order, partial, joining, finishing, returning}
use Rattle.aql_plan_laws.specs.laws.ShapeOnce.{AtMost, shape_once}
use Rattle.aql_plan_laws.specs.laws.ShapeOnce as once
use Rattle.aql_plan_laws.specs.laws.ShapesKept.{any_rows, under_top}
use Rattle.aql_plan_check.specs.inner.Standing.{IsRows, IsFragment, HasRows, MayRead, MayReadInOrder, IsKeyless, MayGather, MayStand, next, BodyFits}
use Rattle.aql_plan_check.specs.declared.shapes.Shape.{Shape as Code}
use Rattle.aql_plan_check.specs.inner.View.{shape_of}

-- ---- where a node may stand it has the next shape

keyless : (facts : Facts) (b : Plan) (s : Shape) (directions : List Bool) (es : ExprTrees)
    → IsKeyless directions es → Shaped facts (Over b (Gather [] no_exprs)) s
    → Shaped facts (Over b (Gather directions es)) s
keyless facts b s directions es e h =
    subst (λ (d : List Bool). Shaped facts (Over b (Gather d es)) s) (sym e.0)
    (subst (λ (t : ExprTrees). Shaped facts (Over b (Gather [] t)) s) (sym e.1) h)

gathered : (facts : Facts) (b : Plan) (o : Order) (directions : List Bool) (es : ExprTrees)
    → IsKeyless directions es ⊎ (o ≡ by_keys directions es) → Fits facts (Gather directions es)
    → Shaped facts b (Sent (Fragment o)) → Shaped facts (Over b (Gather directions es)) (Rows false)
gathered facts b o directions es (inl e) f h = keyless facts b (Rows false) directions es e (gather h)
gathered facts b o directions es (inr e) f h =
    gather_in_order f (subst (λ (q : Order). Shaped facts b (Sent (Fragment q))) e h)

pub shaped_over : (facts : Facts) (b : Plan) (n : Node) (t : Shape) → Shaped facts b t → Fits facts n
    → MayStand n t → BodyFits facts n → Shaped facts (Over b n) (next facts n t)
shaped_over facts b (EnumerateCollection x) (Rows one) h f m k = plain_rows m f (any_rows facts b one h)
shaped_over facts b (EnumerateCollection x) (Sent (Foot c one)) h f m k = lowest {coll = c} m f h
shaped_over facts b (EnumerateCollection x) (Fragment o) h f m k = other_reading m f h
shaped_over facts b (EnumerateCollection x) (Sent t) h f m k = absurd m
shaped_over facts b (EnumerateCollection x) t h f m k = absurd m
shaped_over facts b (Index x index equal last None) (Rows one) h f m k =
    plain_rows m f (any_rows facts b one h)
shaped_over facts b (Index x index equal last None) (Sent (Foot c one)) h f m k = lowest {coll = c} m f h
shaped_over facts b (Index x index equal last None) (Fragment o) h f m k = other_reading m f h
shaped_over facts b (Index x index equal last None) (Sent t) h f m k = absurd m
shaped_over facts b (Index x index equal last None) t h f m k = absurd m
shaped_over facts b (Index x index equal last (Some descending)) (Rows one) h f m k =
    ordered_rows m.0 f (subst (λ (w : Bool). Shaped facts b (Rows w)) m.1 h)
shaped_over facts b (Index x index equal last (Some descending)) (Sent (Foot c one)) h f m k =
    lowest_in_order m.1 f (subst (λ (w : Bool). Shaped facts b (Sent (Foot x.coll w))) m.2
    (subst (λ (d : ℕ). Shaped facts b (Sent (Foot d one))) (sym m.0) h))
shaped_over facts b (Index x index equal last (Some descending)) (Sent t) h f m k = absurd m
shaped_over facts b (Index x index equal last (Some descending)) t h f m k = absurd m
shaped_over facts b (EnumerateList x e) (Rows one) h f m k = plain_rows tt f (any_rows facts b one h)
shaped_over facts b (EnumerateList x e) t h f m k = absurd m
shaped_over facts b (Traversal w e colls prune keep) (Rows one) h f m k =
    plain_rows tt f (any_rows facts b one h)
shaped_over facts b (Traversal w e colls prune keep) t h f m k = absurd m
shaped_over facts b (Calculation x e) (Rows one) h f m k = calculated f h
shaped_over facts b (Calculation x e) (Fragment o) h f m k = passing tt f h
shaped_over facts b (Calculation x e) t h f m k = absurd m
shaped_over facts b (Subquery x s) (Rows one) h f m k = with_subquery k h
shaped_over facts b (Subquery x s) t h f m k = absurd m
shaped_over facts b (Filter e) (Rows one) h f m k = plain_rows tt f (any_rows facts b one h)
shaped_over facts b (Filter e) (Fragment o) h f m k = passing tt f h
shaped_over facts b (Filter e) t h f m k = absurd m
shaped_over facts b (Sort directions es n) (Rows one) h f m k = plain_rows tt f (any_rows facts b one h)
shaped_over facts b (Sort directions es n) (Fragment o) h f m k = sorting f h
shaped_over facts b (Sort directions es n) t h f m k = absurd m
shaped_over facts b (Limit offset count) (Rows one) h f m k = plain_rows tt f (any_rows facts b one h)
shaped_over facts b (Limit offset count) t h f m k = absurd m
shaped_over facts b (Collect xs es gs i stage.Whole) (Rows one) h f m k =
    plain_rows tt f (any_rows facts b one h)
shaped_over facts b (Collect xs es gs i stage.Whole) t h f m k = absurd m
shaped_over facts b (Collect xs es gs no_into stage.Partial) (Fragment o) h f m k = partial f h
shaped_over facts b (Collect xs es gs no_into stage.Partial) t h f m k = absurd m.1
shaped_over facts b (Collect xs es gs (into x what keep) stage.Partial) t h f m k =
    let e = m.0 in absurd (cc)
shaped_over facts b (Collect xs es gs no_into stage.Final) t h f m k =
    finishing f (subst (λ (u : Shape). Shaped facts b u) m.1 h)
shaped_over facts b (Collect xs es gs (into x what keep) stage.Final) t h f m k =
    let e = m.0 in absurd (cc)
shaped_over facts b (Return distinct e) (Rows one) h f m k = returning f (any_rows facts b one h)
shaped_over facts b (Return distinct e) t h f m k = absurd m
shaped_over facts b NoResults (Rows one) h f m k = plain_rows tt f (any_rows facts b one h)
shaped_over facts b NoResults t h f m k = absurd m
shaped_over facts b (Scatter coll only) (Rows one) h f m k = scatter f h
shaped_over facts b (Scatter coll only) t h f m k = absurd m
shaped_over facts b (Distribute coll es) (Rows one) h f m k = distribute f h
shaped_over facts b (Distribute coll es) t h f m k = absurd m
shaped_over facts b Remote t h f m k = remote m h
shaped_over facts b (Gather directions es) (Sent (Fragment o)) h f m k =
    gathered facts b o directions es m f h
shaped_over facts b (Gather directions es) (Sent (States xs fs gs)) h f m k =
    keyless facts b (AllStates xs fs gs) directions es m (joining h)
shaped_over facts b (Gather directions es) (Sent t) h f m k = absurd m
shaped_over facts b (Gather directions es) t h f m k = absurd m

-- ---- where it has a shape it may stand

rows_there : (one : Bool) (t : Shape) → AtMost (Rows one) t → IsRows t
rows_there one (Rows other) h = tt
rows_there one t h = absurd h

some_rows : (one : Bool) (t : Shape) → AtMost (Rows one) t → HasRows t
some_rows one (Rows other) h = tt
some_rows one t h = absurd h

fragment_there : (o : Order) (t : Shape) → AtMost (Fragment o) t → IsFragment t
fragment_there o (Fragment q) h = tt
fragment_there o t h = absurd h

some_fragment : (o : Order) (t : Shape) → AtMost (Fragment o) t → HasRows t
some_fragment o (Fragment q) h = tt
some_fragment o t h = absurd h

outer_on : (n : Node) (one : Bool) → IsOuter n → MayStand n (Rows one)
outer_on (EnumerateCollection x) one i = i
outer_on (Index x index equal last None) one i = i
outer_on (Index x index equal last (Some descending)) one i = absurd i
outer_on (EnumerateList x e) one i = tt
outer_on (Traversal w e colls prune keep) one i = tt
outer_on (Filter e) one i = tt
outer_on (Sort directions es n) one i = tt
outer_on (Limit offset count) one i = tt
outer_on (Collect xs es gs j stage.Whole) one i = tt
outer_on NoResults one i = tt
outer_on n one i = absurd i

outer_stands : (n : Node) (t : Shape) → IsOuter n → AtMost (Rows false) t → MayStand n t
outer_stands n (Rows one) i h = outer_on n one i
outer_stands n t i h = absurd h

outer_body : (facts : Facts) (n : Node) → IsOuter n → BodyFits facts n
outer_body facts (Subquery x b) i = absurd i
outer_body facts n i = tt

lowest_on : (coll c : ℕ) (other : Bool) (n : Node) → coll ≡ c → ReadsFragment coll n
    → MayStand n (Sent (Foot c other))
lowest_on coll c other (EnumerateCollection x) e i = (i.0 ∙ e, i.1)
lowest_on coll c other (Index x index equal last None) e i = (i.0 ∙ e, i.1)
lowest_on coll c other n e i = absurd i

lowest_stands : (coll : ℕ) (one : Bool) (n : Node) (t : Shape) → ReadsFragment coll n
    → AtMost (Sent (Foot coll one)) t → MayStand n t
lowest_stands coll one n (Sent (Foot c other)) i h = lowest_on coll c other n h.0 i
lowest_stands coll one n (Sent t) i h = absurd h
lowest_stands coll one n t i h = absurd h

lowest_body : (facts : Facts) (coll : ℕ) (n : Node) → ReadsFragment coll n → BodyFits facts n
lowest_body facts coll (Subquery x b) i = absurd i
lowest_body facts coll n i = tt

other_on : (n : Node) (q : Order) → ReadsShard n → MayStand n (Fragment q)
other_on (EnumerateCollection x) q i = i
other_on (Index x index equal last None) q i = i
other_on n q i = absurd i

other_stands : (o : Order) (n : Node) (t : Shape) → ReadsShard n → AtMost (Fragment o) t → MayStand n t
other_stands o n (Fragment q) i h = other_on n q i
other_stands o n t i h = absurd h

other_body : (facts : Facts) (n : Node) → ReadsShard n → BodyFits facts n
other_body facts (Subquery x b) i = absurd i
other_body facts n i = tt

passing_stands : (o : Order) (n : Node) (t : Shape) → KeepsRowOrder n → AtMost (Fragment o) t → MayStand n t
passing_stands o (Filter e) t i h = some_fragment o t h
passing_stands o (Calculation x e) t i h = some_fragment o t h
passing_stands o n t i h = absurd i

passing_body : (facts : Facts) (n : Node) → KeepsRowOrder n → BodyFits facts n
passing_body facts (Subquery x b) i = absurd i
passing_body facts n i = tt

ordered_stands : (coll : ℕ) (shard : Option ℕ) (t : Shape) → shard ≡ None → AtMost (Rows true) t
    → MayReadInOrder coll shard t
ordered_stands coll shard (Rows other) e h = (e, h refl)
ordered_stands coll shard t e h = absurd h

lowest_ordered : (coll : ℕ) (shard : Option ℕ) (t : Shape) → shard ≡ None → AtMost (Sent (Foot coll true)) t
    → MayReadInOrder coll shard t
lowest_ordered coll shard (Sent (Foot c other)) e h = (h.0, e, h.1 refl)
lowest_ordered coll shard (Sent t) e h = absurd h
lowest_ordered coll shard t e h = absurd h

sent_stands : (s t : Shape) → IsSent s → AtMost s t → IsSent t
sent_stands (Foot c one) (Foot d other) i h = tt
sent_stands (Foot c one) t i h = absurd h
sent_stands (Fragment o) (Fragment q) i h = tt
sent_stands (Fragment o) t i h = absurd h
sent_stands (States xs es gs) (States ys fs hs) i h = tt
sent_stands (States xs es gs) t i h = absurd h
sent_stands s t i h = absurd i

gather_stands : (o : Order) (t : Shape) → AtMost (Sent (Fragment o)) t → MayGather [] no_exprs t
gather_stands o (Sent (Fragment q)) h = inl (refl, refl)
gather_stands o (Sent t) h = absurd h
gather_stands o t h = absurd h

gather_ordered : (directions : List Bool) (es : ExprTrees) (t : Shape)
    → AtMost (Sent (Fragment (by_keys directions es))) t → MayGather directions es t
gather_ordered directions es (Sent (Fragment q)) h = inr (sym h)
gather_ordered directions es (Sent t) h = absurd h
gather_ordered directions es t h = absurd h

joining_stands : (xs : List Ident) (es : ExprTrees) (gs : AggregateTrees) (t : Shape)
    → AtMost (Sent (States xs es gs)) t → MayGather [] no_exprs t
joining_stands xs es gs (Sent (States ys fs hs)) h = (refl, refl)
joining_stands xs es gs (Sent t) h = absurd h
joining_stands xs es gs t h = absurd h

finishing_stands : (xs : List Ident) (es : ExprTrees) (gs : AggregateTrees) (t : Shape)
    → AtMost (AllStates xs es gs) t → t ≡ AllStates xs es gs
finishing_stands xs es gs (AllStates ys fs hs) h =
    ap (λ (w : List Ident). AllStates w fs hs) (sym h.0)
    ∙ ap (λ (w : ExprTrees). AllStates xs w hs) (sym h.1)
    ∙ ap (λ (w : AggregateTrees). AllStates xs es w) (sym h.2)
finishing_stands xs es gs t h = absurd h

pub record Stands (facts : Facts) (b : Plan) (n : Node) : Type 0 where
  pub fits : Fits facts n
  pub stands : MayStand n (once.shape_of facts b)
  pub body : BodyFits facts n

pub stands_there : (facts : Facts) (b : Plan) (n : Node) (s : Shape) → Shaped facts (Over b n) s
    → Stands facts b n
stands_there facts b n s (calculated {one = one} f h) = record {
  fits = f;
  stands = some_rows one (once.shape_of facts b) (shape_once facts h);
  body = tt;
}
stands_there facts b n s (with_subquery {one = one} g h) = record {
  fits = tt;
  stands = rows_there one (once.shape_of facts b) (shape_once facts h);
  body = g;
}
stands_there facts b n s (plain_rows {n = m} i f h) = record {
  fits = f;
  stands = outer_stands m (once.shape_of facts b) i (shape_once facts h);
  body = outer_body facts m i;
}
stands_there facts b n s (ordered_rows {x = x} e f h) = record {
  fits = f;
  stands = ordered_stands x.coll x.shard (once.shape_of facts b) e (shape_once facts h);
  body = tt;
}
stands_there facts b n s (scatter {one = one} f h) = record {
  fits = f;
  stands = rows_there one (once.shape_of facts b) (shape_once facts h);
  body = tt;
}
stands_there facts b n s (distribute {one = one} f h) = record {
  fits = f;
  stands = rows_there one (once.shape_of facts b) (shape_once facts h);
  body = tt;
}
stands_there facts b n s (remote {s = t} i h) = record {
  fits = tt;
  stands = sent_stands t (once.shape_of facts b) i (shape_once facts h);
  body = tt;
}
stands_there facts b n s (lowest {one = one} {n = m} {coll = coll} i f h) = record {
  fits = f;
  stands = lowest_stands coll one m (once.shape_of facts b) i (shape_once facts h);
  body = lowest_body facts coll m i;
}
stands_there facts b n s (lowest_in_order {x = x} e f h) = record {
  fits = f;
  stands = lowest_ordered x.coll x.shard (once.shape_of facts b) e (shape_once facts h);
  body = tt;
}
stands_there facts b n s (other_reading {n = m} {o = o} i f h) = record {
  fits = f;
  stands = other_stands o m (once.shape_of facts b) i (shape_once facts h);
  body = other_body facts m i;
}
stands_there facts b n s (passing {n = m} {o = o} i f h) = record {
  fits = f;
  stands = passing_stands o m (once.shape_of facts b) i (shape_once facts h);
  body = passing_body facts m i;
}
stands_there facts b n s (sorting {o = o} f h) = record {
  fits = f;
  stands = some_fragment o (once.shape_of facts b) (shape_once facts h);
  body = tt;
}
stands_there facts b n s (gather {o = o} h) = record {
  fits = tt;
  stands = gather_stands o (once.shape_of facts b) (shape_once facts h);
  body = tt;
}
stands_there facts b n s (gather_in_order {directions = directions} {es = es} f h) = record {
  fits = f;
  stands = gather_ordered directions es (once.shape_of facts b) (shape_once facts h);
  body = tt;
}
stands_there facts b n s (partial {o = o} f h) = record {
  fits = f;
  stands = (refl, fragment_there o (once.shape_of facts b) (shape_once facts h));
  body = tt;
}
stands_there facts b n s (joining {xs = xs} {es = es} {gs = gs} h) = record {
  fits = tt;
  stands = joining_stands xs es gs (once.shape_of facts b) (shape_once facts h);
  body = tt;
}
stands_there facts b n s (finishing {xs = xs} {es = es} {gs = gs} f h) = record {
  fits = f;
  stands = (refl, finishing_stands xs es gs (once.shape_of facts b) (shape_once facts h));
  body = tt;
}
stands_there facts b n s (returning f h) = record {
  fits = f;
  stands = rows_there false (once.shape_of facts b) (shape_once facts h);
  body = tt;
}

-- ---- steps of the walk

pub next_is : (facts : Facts) (b : Plan) (n : Node)
    → next facts n (once.shape_of facts b) ≡ once.shape_of facts (Over b n)
next_is facts b (EnumerateCollection x) = refl
next_is facts b (Index x index equal last None) = refl
next_is facts b (Index x index equal last (Some descending)) = refl
next_is facts b (Calculation x e) = refl
next_is facts b (Subquery x s) = refl
next_is facts b (Filter e) = refl
next_is facts b (Sort directions es n) = refl
next_is facts b (Collect xs es gs i stage.Whole) = refl
next_is facts b (Collect xs es gs i stage.Partial) = refl
next_is facts b (Collect xs es gs i stage.Final) = refl
next_is facts b (Return distinct e) = refl
next_is facts b (Scatter coll only) = refl
next_is facts b (Distribute coll es) = refl
next_is facts b Remote = refl
next_is facts b (Gather directions es) = refl
next_is facts b n = refl

-- what the walk says of a plan
abbrev pub Tells : Facts → Plan → Option Code → Type 0
Tells facts p r = MatchOption r ((s : Shape) → Shaped facts p s → ⊥)
    (λ s. Shaped facts p (shape_of s) × (shape_of s ≡ once.shape_of facts p))

pub none_below : (facts : Facts) (b : Plan) (n : Node) → ((s : Shape) → Shaped facts b s → ⊥)
    → (s : Shape) → Shaped facts (Over b n) s → ⊥
none_below facts b n f s h = let a = under_top facts b n s h in f a.0 a.2

pub tells_over : (facts : Facts) (b : Plan) (n : Node) (under : Code) (r : Option Code)
    → Shaped facts b (shape_of under) → shape_of under ≡ once.shape_of facts b → Fits facts n
    → BodyFits facts n
    → MatchOption r (MayStand n (shape_of under) → ⊥)
    (λ s. MayStand n (shape_of under) × (shape_of s ≡ next facts n (shape_of under)))
    → Tells facts (Over b n) r
tells_over facts b n under None h e f k m = λ s g.
    m (subst (λ (t : Shape). MayStand n t) (sym e) (stands_there facts b n s g).stands)
tells_over facts b n under (Some r) h e f k m = (
  subst (λ (t : Shape). Shaped facts (Over b n) t) (sym m.1)
      (shaped_over facts b n (shape_of under) h f m.0 k),
  m.1 ∙ ap (next facts n) e ∙ next_is facts b n,
)

pub at_result : (t : Shape) → AtMost Result t → t ≡ Result
at_result Result h = refl
at_result t h = absurd h
