-- Over what a node may stand, and what it makes of it, where shapes are told from the start up: for the
-- contracts of private functions. The public one says it by the relation of aql_plan.
use Rattle.std.specs.Prelude.{ℕ, ◌≡◌, List, [], Bool, true, false, Option, Some, None, is_some, ◌⊎◌}
use Rattle.aql_tree.specs.Tree.{ExprTrees, no_exprs, no_into}
use Rattle.aql_meaning.specs.declared.grouping.Stage.TheVariants as stage
use Rattle.aql_plan.specs.declared.facts.Facts.{Facts}
use Rattle.aql_plan.specs.Plan.{Reading, Plan, Singleton, Over, Node, EnumerateCollection, Index, Calculation, Subquery, Filter, Sort, Collect, Return, Scatter, Distribute, Remote, Gather}
use Rattle.aql_plan.specs.Shapes.{Order, by_keys, index_order, Shape, Rows, Foot, Fragment, States, AllStates, Sent, Result, IsSent, Shaped}
use Rattle.aql_plan_laws.specs.laws.ShapeOnce.{is_one, reading_over, ordering_over, filter_over, gather_over}

-- rows outside fragments
abbrev pub IsRows : Shape → Type 0
IsRows (Rows one) = Unit {0}
IsRows s = ⊥

abbrev pub IsFragment : Shape → Type 0
IsFragment (Fragment o) = Unit {0}
IsFragment s = ⊥

abbrev pub HasRows : Shape → Type 0
HasRows (Rows one) = Unit {0}
HasRows (Fragment o) = Unit {0}
HasRows s = ⊥

-- a node that reads in no order
abbrev pub MayRead : ℕ → Option ℕ → Shape → Type 0
MayRead coll shard (Rows one) = shard ≡ None
MayRead coll shard (Sent (Foot c one)) = (coll ≡ c) × (shard ≡ None)
MayRead coll shard (Fragment o) = is_some shard ≡ true
MayRead coll shard s = ⊥

-- one that reads in the order of an index
abbrev pub MayReadInOrder : ℕ → Option ℕ → Shape → Type 0
MayReadInOrder coll shard (Rows one) = (shard ≡ None) × (one ≡ true)
MayReadInOrder coll shard (Sent (Foot c one)) = (coll ≡ c) × (shard ≡ None) × (one ≡ true)
MayReadInOrder coll shard s = ⊥

abbrev pub IsKeyless : List Bool → ExprTrees → Type 0
IsKeyless directions es = (directions ≡ []) × (es ≡ no_exprs)

abbrev pub MayGather : List Bool → ExprTrees → Shape → Type 0
MayGather directions es (Sent (Fragment o)) = IsKeyless directions es ⊎ (o ≡ by_keys directions es)
MayGather directions es (Sent (States xs fs gs)) = IsKeyless directions es
MayGather directions es s = ⊥

abbrev pub MayStand : Node → Shape → Type 0
MayStand (EnumerateCollection x) s = MayRead x.coll x.shard s
MayStand (Index x index equal last None) s = MayRead x.coll x.shard s
MayStand (Index x index equal last (Some descending)) s = MayReadInOrder x.coll x.shard s
MayStand (Calculation x e) s = HasRows s
MayStand (Filter e) s = HasRows s
MayStand (Sort directions es n) s = HasRows s
MayStand (Collect xs es gs i stage.Partial) s = (i ≡ no_into) × IsFragment s
MayStand (Collect xs es gs i stage.Final) s = (i ≡ no_into) × (s ≡ AllStates xs es gs)
MayStand Remote s = IsSent s
MayStand (Gather directions es) s = MayGather directions es s
MayStand n s = IsRows s

-- the shape of a node over a part of this shape
abbrev pub next : Facts → Node → Shape → Shape
next facts (EnumerateCollection x) s = reading_over s
next facts (Index x index equal last None) s = reading_over s
next facts (Index x index equal last (Some descending)) s =
    ordering_over (index_order facts x index descending) s
next facts (Calculation x e) s = s
next facts (Subquery x b) s = s
next facts (Filter e) s = filter_over s
next facts (Sort directions es n) s = ordering_over (by_keys directions es) s
next facts (Collect xs es gs i stage.Partial) s = States xs es gs
next facts (Return distinct e) s = Result
next facts (Scatter coll only) s = Foot coll (is_one s)
next facts (Distribute coll es) s = Foot coll (is_one s)
next facts Remote s = Sent s
next facts (Gather directions es) s = gather_over s
next facts n s = Rows false

-- the body of a subquery is a plan with a result
abbrev pub BodyFits : Facts → Node → Type 0
BodyFits facts (Subquery x b) = Shaped facts b Result
BodyFits facts n = Unit {0}
