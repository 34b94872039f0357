-- A plan without fragments keeps its shape over new expressions that stand for the old ones.
use Rattle.std.proofs.Common.{false, List}
use Rattle.std.specs.Prelude.{Some, None}
use Rattle.aql_tree.specs.Tree.{ExprTree}
use Rattle.aql_meaning.specs.declared.grouping.Stage.TheVariants as stage
use Rattle.aql_plan.specs.declared.facts.Facts.{Facts}
use Rattle.aql_plan.specs.Plan.{Plan, Over, Node, EnumerateCollection, Index, EnumerateList, Traversal, Calculation, Filter, Sort, Limit, Collect, Return, NoResults}
use Rattle.aql_plan.specs.Shapes.{IsOuter, calculated, with_subquery, plain_rows, ordered_rows, scatter, distribute, remote, lowest, lowest_in_order, other_reading, passing, sorting, gather, gather_in_order, partial, joining, finishing, returning, HasNoFragment, IsNoFragment, KeepsShape}
use Rattle.aql_rewrite.specs.NodeExprs.{node_exprs, over_exprs}
use Rattle.aql_passes.specs.laws.Standing.{AllStand}
use Rattle.aql_passes.specs.laws.StillFits.{still_fits}

still_outer : (n : Node) (ps : List ExprTree) → IsOuter n → IsOuter (over_exprs n ps)
still_outer (EnumerateCollection x) ps i = i
still_outer (Index x index equal last None) ps i = i
still_outer (Index x index equal last (Some descending)) ps i = i
still_outer (EnumerateList x e) ps i = i
still_outer (Traversal w e colls prune keep) ps i = i
still_outer (Filter e) ps i = i
still_outer (Sort directions es n) ps i = i
still_outer (Limit offset most) ps i = i
still_outer (Collect xs es gs j stage.Whole) ps i = i
still_outer NoResults ps i = i
still_outer n ps i = absurd i

pub still_plain : (n : Node) (ps : List ExprTree) → IsNoFragment n → IsNoFragment (over_exprs n ps)
still_plain (Collect xs es gs i stage.Whole) ps h = h
still_plain (Collect xs es gs i stage.Partial) ps h = h
still_plain (Collect xs es gs i stage.Final) ps h = h
still_plain n ps h = h

pub no_fragment : (b : Plan) (n : Node) (ps : List ExprTree) → HasNoFragment (Over b n)
    → HasNoFragment (Over b (over_exprs n ps))
no_fragment b n ps h = (h.0, still_plain n ps h.1)

pub shape_kept : (facts : Facts) (b : Plan) (n : Node) (ps : List ExprTree) → AllStand (node_exprs n) ps
    → IsNoFragment n → KeepsShape false facts (Over b (over_exprs n ps)) (Over b n)
shape_kept facts b n ps k i s e (calculated {x = x} {e = d} f h) =
    calculated (still_fits facts (Calculation x d) ps k i f) h
shape_kept facts b n ps k i s e (with_subquery g h) = with_subquery g h
shape_kept facts b n ps k i s e (plain_rows {n = m} o f h) =
    plain_rows (still_outer m ps o) (still_fits facts m ps k i f) h
shape_kept facts b n ps k i s e
    (ordered_rows {x = x} {index = index} {equal = equal} {last = last} {descending = descending} o f h) =
    ordered_rows o (still_fits facts (Index x index equal last (Some descending)) ps k i f) h
shape_kept facts b n ps k i s e (scatter f h) = absurd i
shape_kept facts b n ps k i s e (distribute f h) = absurd i
shape_kept facts b n ps k i s e (remote o h) = absurd i
shape_kept facts b n ps k i s e (lowest o f h) = cc
shape_kept facts b n ps k i s e (lowest_in_order o f h) = cc
shape_kept facts b n ps k i s e (other_reading o f h) = cc
shape_kept facts b n ps k i s e (passing o f h) = cc
shape_kept facts b n ps k i s e (sorting f h) = cc
shape_kept facts b n ps k i s e (gather h) = absurd i
shape_kept facts b n ps k i s e (gather_in_order f h) = absurd i
shape_kept facts b n ps k i s e (partial f h) = absurd i
shape_kept facts b n ps k i s e (joining h) = absurd i
shape_kept facts b n ps k i s e (finishing f h) = absurd i
shape_kept facts b n ps k i s e (returning {distinct = distinct} {e = d} f h) =
    returning (still_fits facts (Return distinct d) ps k i f) h
