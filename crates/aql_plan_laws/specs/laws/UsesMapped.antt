-- A plan with a function f at each of its expressions: what it sets is the same. Where each expression then
-- uses its variables by their names under g, so do the nodes.
use Rattle.std.proofs.Common.{◌≡◌, ◌∙◌, List, [], ◌∷◌, ◌++◌, refl, ap, ap₂, sym}
use Rattle.std.specs.Prelude.{Option, Some, None, option_map, option_to_list}
use Rattle.std.specs.List.{AllByRecursion}
use Rattle.aql_tree.specs.declared.syntax.Ident.{Ident}
use Rattle.aql_tree.specs.Tree.{ExprTree, ExprTrees, no_exprs, expr_then, MaybeExpr, no_expr, one_expr, AggregateTrees, no_aggregates, aggregate_then, IntoTree, no_into, into}
use Rattle.aql_meaning.specs.Visible.{aggregate_vars}
use Rattle.aql_meaning.specs.Uses.{Whole, Uses, uses, all_uses, maybe_uses, aggregate_uses, into_uses}
use Rattle.aql_meaning.specs.declared.grouping.Stage.TheVariants as stage
use Rattle.aql_meaning.specs.Documents.{End, Last, no_last, one_of, between, last_map, end_map}
use Rattle.aql_plan.specs.Plan.{Plan, Singleton, Over, Node, EnumerateCollection, Index, EnumerateList, Traversal, Calculation, Subquery, Filter, Sort, Limit, Collect, Return, NoResults, Scatter, Distribute, Remote, Gather}
use Rattle.aql_plan.specs.Needs.{sets, end_uses, last_uses, as_wholes, own_uses}
use Rattle.aql_plan.specs.Variables.{filter_uses, input_uses, vars_set, set_once, uses_in, uses_at}
use Rattle.aql_plan.specs.Shapes.{HasNoFragment, IsNoFragment}
use Rattle.aql_plan.specs.Renaming.{PlanSets, NodeSets}
use Rattle.aql_plan.specs.Exprs.{map_exprs, map_maybe, map_aggregates, map_into, map_plan, map_node}
use Rattle.aql_plan_laws.specs.laws.Mapped.{vars_kept, into_kept}
use Rattle.aql_plan_laws.specs.laws.RenamedUses.{uses_by, joined_by}

module _ (f : ExprTree → ExprTree) where
  pub sets_kept : (n : Node) → sets (map_node f n) ≡ sets n
  sets_kept (EnumerateCollection x) = refl
  sets_kept (Index x index equal last ordered) = refl
  sets_kept (EnumerateList x e) = refl
  sets_kept (Traversal w e colls prune keep) = refl
  sets_kept (Calculation x e) = refl
  sets_kept (Subquery x b) = refl
  sets_kept (Filter e) = refl
  sets_kept (Sort directions es n) = refl
  sets_kept (Limit offset most) = refl
  sets_kept (Collect xs es gs i s) =
      ap₂ (λ ys o. xs ++ (ys ++ option_to_list o)) (vars_kept f gs) (into_kept f i)
  sets_kept (Return distinct e) = refl
  sets_kept NoResults = refl
  sets_kept (Scatter coll only) = refl
  sets_kept (Distribute coll es) = refl
  sets_kept Remote = refl
  sets_kept (Gather directions es) = refl

  mutual
    pub vars_set_kept : (p : Plan) → vars_set (map_plan f p) ≡ vars_set p
    vars_set_kept Singleton = refl
    vars_set_kept (Over b n) = ap₂ (λ (xs ys : List Ident). xs ++ ys) (set_once_kept n) (vars_set_kept b)

    pub set_once_kept : (n : Node) → set_once (map_node f n) ≡ set_once n
    set_once_kept (Subquery x b) = ap (λ (xs : List Ident). x ∷ xs) (vars_set_kept b)
    set_once_kept (Collect xs es gs i stage.Final) = refl
    set_once_kept (Return distinct e) = refl
    set_once_kept n = sets_kept n

  mutual
    pub lone_plan : (p : Plan) → HasNoFragment p → HasNoFragment (map_plan f p)
    lone_plan Singleton h = tt
    lone_plan (Over b n) h = (lone_plan b h.0, lone_node n h.1)

    pub lone_node : (n : Node) → IsNoFragment n → IsNoFragment (map_node f n)
    lone_node (EnumerateCollection x) h = tt
    lone_node (Index x index equal last ordered) h = tt
    lone_node (EnumerateList x e) h = tt
    lone_node (Traversal w e colls prune keep) h = tt
    lone_node (Calculation x e) h = tt
    lone_node (Subquery x b) h = lone_plan b h
    lone_node (Filter e) h = tt
    lone_node (Sort directions es n) h = tt
    lone_node (Limit offset most) h = tt
    lone_node (Collect xs es gs i stage.Whole) h = tt
    lone_node (Return distinct e) h = tt
    lone_node NoResults h = tt
    lone_node n h = absurd h

-- each expression uses its variables by their names under g
abbrev pub Turns : (ExprTree → ExprTree) → (Ident → Ident) → Type 0
Turns f g = (e : ExprTree) → uses (f e) ≡ uses_by g (uses e)

-- a variable that keeps its name
abbrev pub IsKept : (Ident → Ident) → Ident → Type 0
IsKept g z = g z ≡ z

wholes_kept : (g : Ident → Ident) (xs : List Ident) → AllByRecursion (IsKept g) xs
    → as_wholes xs ≡ uses_by g (as_wholes xs)
wholes_kept g [] h = refl
wholes_kept g (x ∷ xs) h =
    ap₂ (λ (z : Ident) (us : Uses). Whole z ∷ us) (sym h.0) (wholes_kept g xs h.1)

module _ (f : ExprTree → ExprTree) (g : Ident → Ident) (turns : Turns f g) where
  exprs_turned : (es : ExprTrees) → all_uses (map_exprs f es) ≡ uses_by g (all_uses es)
  exprs_turned no_exprs = refl
  exprs_turned (expr_then e es) = joined_by g (uses e) (all_uses es) (turns e) (exprs_turned es)

  maybe_turned : (e : MaybeExpr) → maybe_uses (map_maybe f e) ≡ uses_by g (maybe_uses e)
  maybe_turned no_expr = refl
  maybe_turned (one_expr e) = turns e

  aggregates_turned : (gs : AggregateTrees)
      → aggregate_uses (map_aggregates f gs) ≡ uses_by g (aggregate_uses gs)
  aggregates_turned no_aggregates = refl
  aggregates_turned (aggregate_then x name e rest) =
      joined_by g (maybe_uses e) (aggregate_uses rest) (maybe_turned e) (aggregates_turned rest)

  into_turned : (i : IntoTree) → into_uses (map_into f i) ≡ uses_by g (into_uses i)
  into_turned no_into = refl
  into_turned (into x what keep) = maybe_turned what

  end_turned : (e : Option (End ExprTree)) → end_uses (option_map (end_map f) e) ≡ uses_by g (end_uses e)
  end_turned None = refl
  end_turned (Some e) = turns e.limit

  last_turned : (last : Last ExprTree) → last_uses (last_map f last) ≡ uses_by g (last_uses last)
  last_turned no_last = refl
  last_turned (one_of e) = turns e
  last_turned (between low high) =
      joined_by g (end_uses low) (end_uses high) (end_turned low) (end_turned high)

  evaluated_turned : (es : ExprTrees) (gs : AggregateTrees) (i : IntoTree)
      → all_uses (map_exprs f es) ++ (aggregate_uses (map_aggregates f gs) ++ into_uses (map_into f i))
      ≡ uses_by g (all_uses es ++ (aggregate_uses gs ++ into_uses i))
  evaluated_turned es gs i =
      joined_by g (all_uses es) (aggregate_uses gs ++ into_uses i) (exprs_turned es)
      (joined_by g (aggregate_uses gs) (into_uses i) (aggregates_turned gs) (into_turned i))

  -- what a final Collect uses are its own variables
  pub own_turned : (n : Node) → NodeSets (IsKept g) n → own_uses (map_node f n) ≡ uses_by g (own_uses n)
  own_turned (EnumerateCollection x) h = maybe_turned x.filter
  own_turned (Index x index equal last ordered) h =
      joined_by g (all_uses equal) (last_uses last ++ maybe_uses x.filter) (exprs_turned equal)
      (joined_by g (last_uses last) (maybe_uses x.filter) (last_turned last) (maybe_turned x.filter))
  own_turned (EnumerateList x e) h = turns e
  own_turned (Traversal w e colls prune keep) h =
      joined_by g (uses e) (maybe_uses prune ++ maybe_uses keep) (turns e)
      (joined_by g (maybe_uses prune) (maybe_uses keep) (maybe_turned prune) (maybe_turned keep))
  own_turned (Calculation x e) h = turns e
  own_turned (Subquery x b) h = refl
  own_turned (Filter e) h = turns e
  own_turned (Sort directions es n) h = exprs_turned es
  own_turned (Limit offset most) h = refl
  own_turned (Collect xs es gs i stage.Final) h =
      ap (λ (ys : List Ident). as_wholes xs ++ as_wholes ys) (vars_kept f gs)
      ∙ joined_by g (as_wholes xs) (as_wholes (aggregate_vars gs)) (wholes_kept g xs h.0)
      (wholes_kept g (aggregate_vars gs) h.1)
  own_turned (Collect xs es gs i stage.Whole) h = evaluated_turned es gs i
  own_turned (Collect xs es gs i stage.Partial) h = evaluated_turned es gs i
  own_turned (Return distinct e) h = turns e
  own_turned NoResults h = refl
  own_turned (Scatter coll only) h = refl
  own_turned (Distribute coll es) h = exprs_turned es
  own_turned Remote h = refl
  own_turned (Gather directions es) h = exprs_turned es

  pub input_turned : (n : Node) → NodeSets (IsKept g) n → input_uses (map_node f n) ≡ uses_by g (input_uses n)
  input_turned (EnumerateCollection x) h = refl
  input_turned (Index x index equal last ordered) h =
      joined_by g (all_uses equal) (last_uses last) (exprs_turned equal) (last_turned last)
  input_turned (Traversal w e colls prune keep) h = turns e
  input_turned n h = own_turned n h

  pub filter_turned : (n : Node) → filter_uses (map_node f n) ≡ uses_by g (filter_uses n)
  filter_turned (EnumerateCollection x) = maybe_turned x.filter
  filter_turned (Index x index equal last ordered) = maybe_turned x.filter
  filter_turned (EnumerateList x e) = refl
  filter_turned (Traversal w e colls prune keep) =
      joined_by g (maybe_uses prune) (maybe_uses keep) (maybe_turned prune) (maybe_turned keep)
  filter_turned (Calculation x e) = refl
  filter_turned (Subquery x b) = refl
  filter_turned (Filter e) = refl
  filter_turned (Sort directions es n) = refl
  filter_turned (Limit offset most) = refl
  filter_turned (Collect xs es gs i s) = refl
  filter_turned (Return distinct e) = refl
  filter_turned NoResults = refl
  filter_turned (Scatter coll only) = refl
  filter_turned (Distribute coll es) = refl
  filter_turned Remote = refl
  filter_turned (Gather directions es) = refl

  -- and with the bodies of subqueries
  mutual
    pub plan_turned : (p : Plan) → PlanSets (IsKept g) p → uses_in (map_plan f p) ≡ uses_by g (uses_in p)
    plan_turned Singleton h = refl
    plan_turned (Over b n) h =
        joined_by g (uses_at n) (uses_in b) (node_turned n h.1) (plan_turned b h.0)

    pub node_turned : (n : Node) → NodeSets (IsKept g) n → uses_at (map_node f n) ≡ uses_by g (uses_at n)
    node_turned (Subquery x b) h = plan_turned b h.1
    node_turned n h = own_turned n h
