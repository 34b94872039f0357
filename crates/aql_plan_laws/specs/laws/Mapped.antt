-- What a plan with a function at each of its expressions has in common with the plan.
use Rattle.std.proofs.Common.{◌≡◌, ◌∙◌, ℕ, List, ◌∷◌, refl, ap, ap₂}
use Rattle.std.specs.Prelude.{Option, Some, None, option_map}
use Rattle.aql_value.specs.Datum.{Datum}
use Rattle.aql_tree.specs.Tree.{ExprTree, ExprTrees, no_exprs, expr_then, MaybeExpr, no_expr, one_expr}
use Rattle.aql_tree.specs.Tree.{AggregateTrees, no_aggregates, aggregate_then, IntoTree, no_into, into}
use Rattle.aql_meaning.specs.Visible.{aggregate_vars, functions_by, into_var}
use Rattle.aql_meaning.specs.declared.grouping.Stage.{Stage}
use Rattle.aql_meaning.specs.declared.grouping.Stage.TheVariants as stage
use Rattle.aql_meaning.specs.Documents.{End, Last, no_last, one_of, between, last_map, end_map}
use Rattle.aql_meaning.specs.Stages.{stage_functions}
use Rattle.aql_plan.specs.Plan.{Reading, Plan, Singleton, Over, Node, EnumerateCollection, Index, EnumerateList, Traversal, Calculation, Subquery, Filter, Sort, Limit, Collect, Return, NoResults, Scatter, Distribute, Remote, Gather}
use Rattle.aql_plan.specs.Exprs.{map_exprs, map_maybe, map_aggregates, map_into, map_reading, map_plan, map_node}

module _ (f : ExprTree → ExprTree) where
  -- what a Collect sets and computes stays
  pub vars_kept : (gs : AggregateTrees) → aggregate_vars (map_aggregates f gs) ≡ aggregate_vars gs
  vars_kept no_aggregates = refl
  vars_kept (aggregate_then x name e rest) = ap (λ xs. x ∷ xs) (vars_kept rest)

  by_kept : (g : List ℕ → List Datum → Datum) (gs : AggregateTrees)
      → functions_by g (map_aggregates f gs) ≡ functions_by g gs
  by_kept g no_aggregates = refl
  by_kept g (aggregate_then x name e rest) = ap (λ fs. g name ∷ fs) (by_kept g rest)

  pub functions_kept : (s : Stage) (gs : AggregateTrees)
      → stage_functions s (map_aggregates f gs) ≡ stage_functions s gs
  functions_kept stage.Whole gs = by_kept _ gs
  functions_kept stage.Partial gs = by_kept _ gs
  functions_kept stage.Final gs = by_kept _ gs

  pub into_kept : (i : IntoTree) → into_var (map_into f i) ≡ into_var i
  into_kept no_into = refl
  into_kept (into x what keep) = refl

-- a function that changes no expression changes no plan
pub exprs_same : (es : ExprTrees) → map_exprs (λ e. e) es ≡ es
exprs_same no_exprs = refl
exprs_same (expr_then e es) = ap (expr_then e) (exprs_same es)

maybe_same : (e : MaybeExpr) → map_maybe (λ e. e) e ≡ e
maybe_same no_expr = refl
maybe_same (one_expr e) = refl

pub aggregates_same : (gs : AggregateTrees) → map_aggregates (λ e. e) gs ≡ gs
aggregates_same no_aggregates = refl
aggregates_same (aggregate_then x name e rest) =
    ap₂ (aggregate_then x name) (maybe_same e) (aggregates_same rest)

pub into_same : (i : IntoTree) → map_into (λ e. e) i ≡ i
into_same no_into = refl
into_same (into x what keep) = ap (λ e. into x e keep) (maybe_same what)

end_same : (e : Option (End ExprTree)) → option_map (end_map (λ e. e)) e ≡ e
end_same None = refl
end_same (Some e) = refl

last_same : (last : Last ExprTree) → last_map (λ e. e) last ≡ last
last_same no_last = refl
last_same (one_of e) = refl
last_same (between low high) = ap₂ between (end_same low) (end_same high)

abbrev with_filter : Reading → MaybeExpr → Reading
with_filter x e = record { var = x.var; coll = x.coll; filter = e; attrs = x.attrs; shard = x.shard }

reading_same : (x : Reading) → map_reading (λ e. e) x ≡ x
reading_same x = ap (with_filter x) (maybe_same x.filter)

mutual
  pub plan_same : (p : Plan) → map_plan (λ e. e) p ≡ p
  plan_same Singleton = refl
  plan_same (Over b n) = ap₂ Over (plan_same b) (node_same n)

  pub node_same : (n : Node) → map_node (λ e. e) n ≡ n
  node_same (EnumerateCollection x) = ap EnumerateCollection (reading_same x)
  node_same (Index x index equal last ordered) =
      ap₂ (λ y es. Index y index es (last_map (λ e. e) last) ordered) (reading_same x) (exprs_same equal)
      ∙ ap (λ l. Index x index equal l ordered) (last_same last)
  node_same (EnumerateList x e) = refl
  node_same (Traversal w e colls prune filter) =
      ap₂ (Traversal w e colls) (maybe_same prune) (maybe_same filter)
  node_same (Calculation x e) = refl
  node_same (Subquery x b) = ap (Subquery x) (plan_same b)
  node_same (Filter e) = refl
  node_same (Sort directions es n) = ap (λ es. Sort directions es n) (exprs_same es)
  node_same (Limit offset count) = refl
  node_same (Collect xs es gs i s) =
      ap₂ (λ es gs. Collect xs es gs (map_into (λ e. e) i) s) (exprs_same es) (aggregates_same gs)
      ∙ ap (λ i. Collect xs es gs i s) (into_same i)
  node_same (Return distinct e) = refl
  node_same NoResults = refl
  node_same (Scatter coll only) = refl
  node_same (Distribute coll es) = ap (Distribute coll) (exprs_same es)
  node_same Remote = refl
  node_same (Gather directions es) = ap (Gather directions) (exprs_same es)
