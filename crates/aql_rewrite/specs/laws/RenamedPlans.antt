-- The steps of renamings through a plan.
use Rattle.std.proofs.Common.{◌≡◌, ◌∙◌, List, [], ◌∷◌, map, Bool, cond, refl, ap, sym}
use Rattle.std.specs.Prelude.{Some, None}
use Rattle.std.specs.List.{AllByRecursion}
use Rattle.std.proofs.lemmas.List.{map-id}
use Rattle.aql_tree.specs.Tree.{ExprTree}
use Rattle.aql_meaning.specs.Plain.{IsPlain}
use Rattle.aql_meaning.specs.Uses.{Uses}
use Rattle.aql_plan.specs.declared.facts.Facts.{Facts}
use Rattle.aql_plan.specs.declared.plan.Node as code
use Rattle.aql_plan.specs.declared.plan.Node.TheVariants.{EnumerateCollection as EnumerateCollection-code, Index as Index-code, EnumerateList as EnumerateList-code, Traversal as Traversal-code, Calculation as Calculation-code, Filter as Filter-code, Sort as Sort-code, Limit as Limit-code, Collect as Collect-code, Return as Return-code, NoResults as NoResults-code, Scatter as Scatter-code, Distribute as Distribute-code, Remote as Remote-code, Gather as Gather-code}
use Rattle.aql_plan.specs.Exprs.{map_node}
use Rattle.aql_plan.specs.Nodes.{over, body_in}
use Rattle.aql_plan.specs.Plan.{Plan, Singleton, Over, Node, Subquery, top}
use Rattle.aql_plan.specs.View.{node_tree}
use Rattle.aql_plan_laws.specs.laws.Mapped.{node_same}
use Rattle.aql_rewrite.specs.declared.swap.Rename.{Rename}
use Rattle.aql_rewrite.specs.Nodes.{over_renamed}
use Rattle.aql_rewrite.specs.Renames.{put_each, over_each, top_each}
use Rattle.aql_rewrite.specs.NodeExprs.{node_exprs, over_exprs}
use Rattle.aql_rewrite.specs.Placed.{IsPlaced}
use Rattle.aql_rewrite.specs.Plain.{NodePlain}
use Rattle.aql_rewrite.specs.laws.OverNodes.{node_over}
use Rattle.aql_rewrite.specs.laws.PlainPlans.{plan_plain}

-- ---- what is plain

pub exprs_plain : (n : Node) → body_in n ≡ None → NodePlain n → AllByRecursion IsPlain (node_exprs n)
exprs_plain (Subquery x s) e h = cc
exprs_plain n e h = h

pub placed_plain : (k inside : Bool) (facts : Facts) (us : Uses) (p : Plan) → IsPlaced k inside facts us p
    → NodePlain (top p)
placed_plain k inside facts us Singleton h = tt
placed_plain k inside facts us (Over b n) h = (plan_plain facts h.2.shaped.2).1

-- ---- a node of the program, which has no body

pub no_body : (n : code.Node) → body_in (node_tree n) ≡ None
no_body (EnumerateCollection-code var coll filter attrs shard) = refl
no_body (Index-code var coll filter attrs shard index equal last ordered) = refl
no_body (EnumerateList-code var list) = refl
no_body (Traversal-code vertex edge path min max direction start colls prune options filter) = refl
no_body (Calculation-code var expr) = refl
no_body (Filter-code cond) = refl
no_body (Sort-code keys limit) = refl
no_body (Limit-code offset count) = refl
no_body (Collect-code groups gs into stage) = refl
no_body (Return-code expr distinct) = refl
no_body NoResults-code = refl
no_body (Scatter-code coll only) = refl
no_body (Distribute-code coll exprs) = refl
no_body Remote-code = refl
no_body (Gather-code keys) = refl

pub node_renamed : (rs : List Rename) (n : Node) (es : List ExprTree) → body_in n ≡ None
    → es ≡ map (put_each rs) (node_exprs n) → over_exprs n es ≡ map_node (put_each rs) n
node_renamed rs n es e h = ap (over_exprs n) h ∙ node_over (put_each rs) n e

-- where the expressions stay as they are, so does the node
pub node_stays : (rs : List Rename) (n : Node) → body_in n ≡ None
    → node_exprs n ≡ map (put_each rs) (node_exprs n) → n ≡ map_node (put_each rs) n
node_stays rs n e h =
    sym (ap (over_exprs n) (sym (map-id (node_exprs n))) ∙ node_over (λ d. d) n e ∙ node_same n)
    ∙ node_renamed rs n (node_exprs n) e h

-- ---- the node at the top

pub top_over : (rs : List Rename) (p b : Plan) → top_each rs (over p b) ≡ over_each rs p b
top_over rs Singleton b = refl
top_over rs (Over c n) b = refl

pub over_plain : (p b : Plan) → NodePlain (top p) → NodePlain (top (over p b))
over_plain Singleton b h = h
over_plain (Over c n) b h = h

pub over_one : (r : Rename) (p b : Plan) → top_each (r ∷ []) (over p b) ≡ over_renamed (Some r) p b
over_one r Singleton b = refl
over_one r (Over c n) b = refl

pub over_same : (p b : Plan) → over p b ≡ over_renamed None p b
over_same Singleton b = refl
over_same (Over c n) b = refl
