-- A plan that has a shape holds no subquery in its expressions.
use Rattle.std.proofs.Common.{ℕ, List, [], ◌∷◌, ◌++◌}
use Rattle.std.specs.Prelude.{Option, Some, None, MatchOption}
use Rattle.std.specs.List.{AllByRecursion}
use Rattle.aql_func.specs.Aggregates.{Aggregate, count, aggregate_named}
use Rattle.aql_tree.specs.Tree.{ExprTree, ExprTrees, no_exprs, expr_then, MaybeExpr, no_expr, one_expr, AggregateTrees, no_aggregates, aggregate_then, IntoTree, no_into, into}
use Rattle.aql_meaning.specs.Plain.{IsPlain, AllPlain, MaybePlain}
use Rattle.aql_meaning.specs.Lifted.{IntoPlain}
use Rattle.aql_meaning.specs.Documents.{End, Last, no_last, one_of, between}
use Rattle.aql_plan.specs.declared.facts.Facts.{Facts}
use Rattle.aql_plan.specs.Plan.{Plan, Singleton, Over, Node, EnumerateCollection, Index, EnumerateList, Traversal, Calculation, Subquery, Filter, Sort, Limit, Collect, Return, NoResults, Scatter, Distribute, Remote, Gather}
use Rattle.aql_plan.specs.Fits.{EndPlain, LastPlain, HasArgument, AllKnown, Fits}
use Rattle.aql_meaning.specs.declared.grouping.Stage.TheVariants as stage
use Rattle.aql_plan.specs.Shapes.{Shape, IsOuter, ReadsFragment, ReadsShard, KeepsRowOrder, Shaped, one_row, calculated, with_subquery, plain_rows, ordered_rows, scatter, distribute, remote, lowest, lowest_in_order, other_reading, passing, sorting, gather, gather_in_order, partial, joining, finishing, returning}
use Rattle.aql_rewrite.specs.Children.{list_children, maybe_children}
use Rattle.aql_rewrite.specs.NodeExprs.{end_exprs, last_exprs, aggregate_exprs, into_exprs, node_exprs}
use Rattle.aql_rewrite.specs.Plain.{PlanPlain, NodePlain}

abbrev Plains : List ExprTree → Type 0
Plains es = AllByRecursion IsPlain es

joined : (es fs : List ExprTree) → Plains es → Plains fs → Plains (es ++ fs)
joined [] fs h k = k
joined (e ∷ es) fs h k = (h.0, joined es fs h.1 k)

list_plain : (es : ExprTrees) → AllPlain es → Plains (list_children es)
list_plain no_exprs h = tt
list_plain (expr_then e es) h = (h.0, list_plain es h.1)

maybe_plain : (e : MaybeExpr) → MaybePlain e → Plains (maybe_children e)
maybe_plain no_expr h = tt
maybe_plain (one_expr e) h = (h, tt)

end_plain : (e : Option (End ExprTree)) → EndPlain e → Plains (end_exprs e)
end_plain None h = tt
end_plain (Some e) h = (h, tt)

last_plain : (l : Last ExprTree) → LastPlain l → Plains (last_exprs l)
last_plain no_last h = tt
last_plain (one_of e) h = (h, tt)
last_plain (between low high) h = joined (end_exprs low) (end_exprs high) (end_plain low h.0)
    (end_plain high h.1)

argument_plain : (a : Aggregate) (e : MaybeExpr) → HasArgument a e → Plains (maybe_children e)
argument_plain count e h = maybe_plain e h
argument_plain a no_expr h = tt
argument_plain a (one_expr e) h = (h, tt)

aggregates_plain : (gs : AggregateTrees) → AllKnown gs → Plains (aggregate_exprs gs)
aggregates_plain no_aggregates h = tt
aggregates_plain (aggregate_then x name e rest) h =
    joined (maybe_children e) (aggregate_exprs rest) (by (aggregate_named name) h.0)
    (aggregates_plain rest h.1)
  where
    by : (o : Option Aggregate) → MatchOption o ⊥ (λ a. HasArgument a e) → Plains (maybe_children e)
    by None h = absurd h
    by (Some a) h = argument_plain a e h

into_plain : (i : IntoTree) → IntoPlain i → Plains (into_exprs i)
into_plain no_into h = tt
into_plain (into x no_expr keep) h = tt
into_plain (into x (one_expr e) keep) h = (h, tt)

-- a Subquery's body is looked at elsewhere
fits_plain : (facts : Facts) (n : Node) → Fits facts n → Plains (node_exprs n)
fits_plain facts (EnumerateCollection x) h = maybe_plain x.filter h.1
fits_plain facts (Index x index equal last ordered) h =
    joined (list_children equal) (last_exprs last ++ maybe_children x.filter) (list_plain equal h.2)
    (joined (last_exprs last) (maybe_children x.filter) (last_plain last h.3) (maybe_plain x.filter h.1))
fits_plain facts (EnumerateList x e) h = (h, tt)
fits_plain facts (Traversal w e colls prune keep) h =
    (h.0, joined (maybe_children prune) (maybe_children keep) (maybe_plain prune h.1) (maybe_plain keep h.2))
fits_plain facts (Calculation x e) h = (h, tt)
fits_plain facts (Filter e) h = (h, tt)
fits_plain facts (Sort directions es n) h = list_plain es h.0
fits_plain facts (Collect xs es gs i s) h =
    joined (list_children es) (aggregate_exprs gs ++ into_exprs i) (list_plain es h.0)
    (joined (aggregate_exprs gs) (into_exprs i) (aggregates_plain gs h.1) (into_plain i h.2))
fits_plain facts (Return distinct e) h = (h, tt)
fits_plain facts (Distribute coll es) h = list_plain es h.1
fits_plain facts (Gather directions es) h = list_plain es h
fits_plain facts n h = tt

abbrev IsLone : Node → Type 0
IsLone (Subquery x s) = ⊥
IsLone n = Unit {0}

-- nothing is asked of a Subquery by itself
node_plain : (facts : Facts) (n : Node) → IsLone n → Fits facts n → NodePlain n
node_plain facts (Subquery x s) lone h = absurd lone
node_plain facts n lone h = fits_plain facts n h

outer_lone : (n : Node) → IsOuter n → IsLone n
outer_lone (Subquery x s) h = h
outer_lone n h = tt

lowest_lone : (coll : ℕ) (n : Node) → ReadsFragment coll n → IsLone n
lowest_lone coll (Subquery x s) h = h
lowest_lone coll n h = tt

other_lone : (n : Node) → ReadsShard n → IsLone n
other_lone (Subquery x s) h = h
other_lone n h = tt

passing_lone : (n : Node) → KeepsRowOrder n → IsLone n
passing_lone (Subquery x s) h = h
passing_lone n h = tt

pub plan_plain : (facts : Facts) {p : Plan} {s : Shape} → Shaped facts p s → PlanPlain p
plan_plain facts one_row = tt
plan_plain facts (calculated f h) = (plan_plain facts h, (f, tt))
plan_plain facts (with_subquery g h) = (plan_plain facts h, plan_plain facts g)
plan_plain facts (plain_rows {n = n} i f h) = (plan_plain facts h, node_plain facts n (outer_lone n i) f)
plan_plain facts
    (ordered_rows {x = x} {index = index} {equal = equal} {last = last} {descending = descending} i f h) =
    (plan_plain facts h, fits_plain facts (Index x index equal last (Some descending)) f)
plan_plain facts (scatter f h) = (plan_plain facts h, tt)
plan_plain facts (distribute {coll = coll} {es = es} f h) =
    (plan_plain facts h, fits_plain facts (Distribute coll es) f)
plan_plain facts (remote i h) = (plan_plain facts h, tt)
plan_plain facts (lowest {n = n} {coll = coll} i f h) =
    (plan_plain facts h, node_plain facts n (lowest_lone coll n i) f)
plan_plain facts
    (lowest_in_order {x = x} {index = index} {equal = equal} {last = last} {descending = descending} i f h) =
    (plan_plain facts h, fits_plain facts (Index x index equal last (Some descending)) f)
plan_plain facts (other_reading {n = n} i f h) = (plan_plain facts h, node_plain facts n (other_lone n i) f)
plan_plain facts (passing {n = n} i f h) = (plan_plain facts h, node_plain facts n (passing_lone n i) f)
plan_plain facts (sorting {directions = directions} {es = es} {n = n} f h) =
    (plan_plain facts h, fits_plain facts (Sort directions es n) f)
plan_plain facts (gather h) = (plan_plain facts h, tt)
plan_plain facts (gather_in_order {directions = directions} {es = es} f h) =
    (plan_plain facts h, fits_plain facts (Gather directions es) f)
plan_plain facts (partial {xs = xs} {es = es} {gs = gs} f h) =
    (plan_plain facts h, fits_plain facts (Collect xs es gs no_into stage.Partial) f)
plan_plain facts (joining h) = (plan_plain facts h, tt)
plan_plain facts (finishing {xs = xs} {es = es} {gs = gs} f h) =
    (plan_plain facts h, fits_plain facts (Collect xs es gs no_into stage.Final) f)
plan_plain facts (returning f h) = (plan_plain facts h, (f, tt))
