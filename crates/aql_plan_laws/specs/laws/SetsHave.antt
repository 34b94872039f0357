-- When each variable that a node or a plan sets has a property: where all variables have it, and, without
-- fragments, where each one in the list of those that are set has it.
use Rattle.std.proofs.Common.{List, [], ◌∷◌, ◌++◌}
use Rattle.std.specs.Prelude.{option_to_list}
use Rattle.std.specs.List.{AllByRecursion}
use Rattle.aql_value.specs.laws.Alls.{all_parts}
use Rattle.aql_tree.specs.declared.syntax.Ident.{Ident}
use Rattle.aql_tree.specs.declared.syntax.Ident.TheVariants.{Num}
use Rattle.aql_meaning.specs.Visible.{aggregate_vars, into_var}
use Rattle.aql_meaning.specs.declared.grouping.Stage.TheVariants as stage
use Rattle.aql_plan.specs.Plan.{Plan, Singleton, Over, Node, EnumerateCollection, Index, EnumerateList, Traversal, Calculation, Subquery, Collect, Return}
use Rattle.aql_plan.specs.Needs.{sets}
use Rattle.aql_plan.specs.Variables.{vars_set, set_once}
use Rattle.aql_plan.specs.Shapes.{HasNoFragment, IsNoFragment}
use Rattle.aql_plan.specs.Renaming.{PlanSets, NodeSets}

module _ (Has : Ident → Type 0) where
  mutual
    pub plan_sets : (p : Plan) → HasNoFragment p → AllByRecursion Has (vars_set p) → PlanSets Has p
    plan_sets Singleton lone h = tt
    plan_sets (Over b n) lone h =
        let k = all_parts Has (set_once n) (vars_set b) h in
        (plan_sets b lone.0 k.1, node_sets n lone.1 k.0)

    pub node_sets : (n : Node) → IsNoFragment n → AllByRecursion Has (set_once n) → NodeSets Has n
    node_sets (EnumerateCollection x) lone h = h.0
    node_sets (Index x index equal last ordered) lone h = h.0
    node_sets (EnumerateList x e) lone h = h.0
    node_sets (Traversal w e colls prune keep) lone h =
        let k = all_parts Has (option_to_list w.edge) (option_to_list w.path) h.1 in (h.0, k.0, k.1)
    node_sets (Calculation x e) lone h = h.0
    node_sets (Subquery x b) lone h = (h.0, plan_sets b lone h.1)
    node_sets (Collect xs es gs i stage.Whole) lone h =
        let ys = aggregate_vars gs in
        let zs = option_to_list (into_var i) in
        let k = all_parts Has xs (ys ++ zs) h in
        let l = all_parts Has ys zs k.1 in
        (k.0, l.0, l.1)
    node_sets (Collect xs es gs i stage.Partial) lone h = absurd lone
    node_sets (Collect xs es gs i stage.Final) lone h = absurd lone
    node_sets n lone h = tt

both_have : (Has : Ident → Type 0) (xs ys : List Ident) → AllByRecursion Has xs → AllByRecursion Has ys
    → AllByRecursion Has (xs ++ ys)
both_have Has [] ys h k = k
both_have Has (x ∷ xs) ys h k = (h.0, both_have Has xs ys h.1 k)

-- in the rows of a node; a Return gives its value under 0
pub sets_have : (Has : Ident → Type 0) → Has (Num 0) → (n : Node) → NodeSets Has n
    → AllByRecursion Has (sets n)
sets_have Has result (EnumerateCollection x) h = (h, tt)
sets_have Has result (Index x index equal last ordered) h = (h, tt)
sets_have Has result (EnumerateList x e) h = (h, tt)
sets_have Has result (Traversal w e colls prune keep) h =
    (h.0, both_have Has (option_to_list w.edge) (option_to_list w.path) h.1 h.2)
sets_have Has result (Calculation x e) h = (h, tt)
sets_have Has result (Subquery x b) h = (h.0, tt)
sets_have Has result (Collect xs es gs i s) h =
    both_have Has xs (aggregate_vars gs ++ option_to_list (into_var i)) h.0
    (both_have Has (aggregate_vars gs) (option_to_list (into_var i)) h.1 h.2)
sets_have Has result (Return distinct e) h = (result, tt)
sets_have Has result n h = tt

module _ (Has : Ident → Type 0) (all : (x : Ident) → Has x) where
  all_have : (xs : List Ident) → AllByRecursion Has xs
  all_have [] = tt
  all_have (x ∷ xs) = (all x, all_have xs)

  mutual
    pub plan_has : (p : Plan) → PlanSets Has p
    plan_has Singleton = tt
    plan_has (Over b n) = (plan_has b, node_has n)

    pub node_has : (n : Node) → NodeSets Has n
    node_has (EnumerateCollection x) = all x.var
    node_has (Index x index equal last ordered) = all x.var
    node_has (EnumerateList x e) = all x
    node_has (Traversal w e colls prune keep) =
        (all w.vertex, all_have (option_to_list w.edge), all_have (option_to_list w.path))
    node_has (Calculation x e) = all x
    node_has (Subquery x b) = (all x, plan_has b)
    node_has (Collect xs es gs i s) =
        (all_have xs, all_have (aggregate_vars gs), all_have (option_to_list (into_var i)))
    node_has n = tt
