-- A Gather over its fragments, by the node at the top of its plan and what is below.
use Rattle.std.proofs.Common.{◌≡◌, ◌∙◌, ℕ, List, true, length, Some, ap, ap₂, sym, subst}
use Rattle.aql_engine.specs.OperatorsOf.{each_tree, foot, operators_at}
use Rattle.aql_plan.specs.View.{node_tree, plan_tree}
use Rattle.aql_exec.specs.Operators as operator
use Rattle.aql_local.specs.Building.{SetsNumbers}
use Rattle.aql_local.specs.Fragments.{StandsApart, IsFragment, gather_of, gather_operator, is_gather, is_foot}
use Rattle.aql_plan.specs.Plan.{Plan, top}
use Rattle.aql_local.proofs.Trees.{apart_fragment}
use Rattle.aql_local.proofs.OnShards.{foot_of_fragment, shards_is, gathered_is}
use Rattle.aql_local.proofs.gathers.gather_executor.Goals as goal

pub gather_over-requires : goal.gather_over-requires
gather_over-requires g c =
    let seen : c.deref.result.now ≡ c.in-Over.node.value = cc (c.deref.ensures) in
    subst (λ z. is_gather (node_tree z) ≡ true) (sym seen)
    (subst (λ (p : Plan). is_gather (top p) ≡ true) (ap plan_tree c.in-Over.is) c.requires.gather)

pub trees_on_shards-requires-clause-fragment : goal.trees_on_shards-requires-clause-fragment
trees_on_shards-requires-clause-fragment g c =
    let b = plan_tree c.in-Over.below.value in
    let n = node_tree c.in-Over.node.value in
    let is = ap plan_tree c.in-Over.is in
    let below : c.deref-in-Over.result.now ≡ c.in-Over.below.value = cc (c.deref-in-Over.ensures) in
    subst (λ z. IsFragment (plan_tree z)) (sym below)
    (apart_fragment b n (subst (λ (p : Plan). is_gather (top p) ≡ true) is c.requires.gather)
    (subst StandsApart is c.requires.apart)).0

pub trees_on_shards-requires-clause-numbers : goal.trees_on_shards-requires-clause-numbers
trees_on_shards-requires-clause-numbers g c =
    let is = ap plan_tree c.in-Over.is in
    let below : c.deref-in-Over.result.now ≡ c.in-Over.below.value = cc (c.deref-in-Over.ensures) in
    subst (λ z. SetsNumbers (plan_tree z)) (sym below) (subst SetsNumbers is c.requires.numbers).0

pub scatter_to-requires : goal.scatter_to-requires
scatter_to-requires g c =
    let b = plan_tree c.in-Over.below.value in
    let n = node_tree c.in-Over.node.value in
    let is = ap plan_tree c.in-Over.is in
    let below : c.deref-in-Over-2.result.now ≡ c.in-Over.below.value = cc (c.deref-in-Over-2.ensures) in
    let inside = apart_fragment b n (subst (λ (p : Plan). is_gather (top p) ≡ true) is c.requires.gather)
    (subst StandsApart is c.requires.apart) in
    ap is_foot c.foot_of.ensures ∙ ap (λ z. is_foot (foot (plan_tree z))) below ∙ foot_of_fragment b inside.0

pub returns : goal.returns
returns g c facts =
    let b = plan_tree c.in-Over.below.value in
    let n = node_tree c.in-Over.node.value in
    let is = ap plan_tree c.in-Over.is in
    let shards = c.args.shards.items in
    let count : c.len.result ≡ length shards = cc (c.len.ensures, c.args.shards.ok.0) in
    let seen : c.deref.result.now ≡ c.in-Over.node.value = cc (c.deref.ensures) in
    let first : c.deref-in-Over.result.now ≡ c.in-Over.below.value = cc (c.deref-in-Over.ensures) in
    let second : c.deref-in-Over-2.result.now ≡ c.in-Over.below.value = cc (c.deref-in-Over-2.ensures) in
    c.gather_node.ensures
    ∙ shards_is (c.in_ok-gather-in-Over.ensures ∙ ap₂ (λ k z. gather_of k (node_tree z)) count seen)
    (c.in_ok-scatter-in-Over.ensures ∙ ap (λ z. operator.Scatter z shards) c.foot_of.ensures
    ∙ ap (λ z. operator.Scatter (foot (plan_tree z)) shards) second)
    (c.in_ok-fragments-in-Over.ensures facts
    ∙ ap₂ (λ z (all : List ℕ). each_tree (λ shard. operators_at facts (Some shard) (plan_tree z)) all) first
    c.as_slice.ensures.value)
    ∙ gathered_is facts b n shards (subst (λ (p : Plan). is_gather (top p) ≡ true) is c.requires.gather)
    ∙ ap (gather_operator facts shards) (sym is)
