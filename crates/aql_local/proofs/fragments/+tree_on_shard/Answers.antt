-- The tree of a fragment on a shard, by its top node and its input.
use Rattle.std.proofs.Common.{rules, ◌≡◌, ◌∙◌, ◌<◌, Some, ap, sym, subst, arith}
use Rattle.std.specs.Prelude.{option_map, unwrap_or}
use Rattle.aql_plan.specs.Nodes.{weight}
use Rattle.aql_plan.specs.Plan.{top}
use Rattle.aql_plan.specs.View.{node_tree, plan_tree}
use Rattle.aql_exec.specs.Operators.{leaf}
use Rattle.aql_engine.specs.OperatorsOf.{last_looks, operators_at}
use Rattle.aql_local.specs.Building.{SetsNumbers}
use Rattle.aql_local.specs.Fragments.{IsFragment, is_foot, operator_on}
use Rattle.aql_local.specs.inner.Whole.{below_looks}
use Rattle.aql_local.proofs.Returned.{if_map, within_is}
use Rattle.aql_local.proofs.Uncut.{whole_operators, whole_weight, whole_fragment, whole_numbers}
use Rattle.aql_local.proofs.OnShards.{above_foot, shard_operators}
use Rattle.aql_local.proofs.fragments.+tree_on_shard.Goals as goal

pub tree_on_shard-requires : goal.tree_on_shard-requires
tree_on_shard-requires g t c κs within =
    let p = plan_tree c.args.plan.now in
    let b = plan_tree c.in-Over.below.value in
    let n = node_tree c.in-Over.node.value in
    let is = ap plan_tree c.in-Over.is in
    let seen : c.deref.result.now ≡ c.in-Over.node.value = cc (c.deref.ensures) in
    let below : c.deref-in-Over-2.result.now ≡ c.in-Over.below.value = cc (c.deref-in-Over-2.ensures) in
    let last : c.deref-in-Over-3.result.now ≡ c.in-Over.below.value = cc (c.deref-in-Over-3.ensures) in
    let used = plan_tree c.either.result.now in
    let are : used ≡ below_looks (last_looks n) b =
    c.either.ensures
    ∙ ap (λ z. unwrap_or (option_map plan_tree c.in_ok-whole-in-Over.whole) (plan_tree z)) (last ∙ sym below)
    ∙ c.in_ok-whole-in-Over.ensures
    ∙ ap (λ z. below_looks (last_looks (top z)) (plan_tree c.deref-in-Over-2.result.now)) is
    ∙ ap (λ z. below_looks (last_looks n) (plan_tree z)) below in
    let h = above_foot b n (subst IsFragment is c.requires.fragment)
    (sym (ap (λ z. is_foot (node_tree z)) seen) ∙ sym c.node_is_foot.ensures
    ∙ c.if-node_is_foot.false) in
    let w = ap weight is in
    let v = ap weight are ∙ whole_weight (last_looks n) b in
    let k : weight used < weight p = omega (arith, w, v) in (
      search (rules, k),
      (
        search rules,
        (
          subst IsFragment (sym are) (whole_fragment (last_looks n) b h.0),
          subst SetsNumbers (sym are)
              (whole_numbers (last_looks n) b (subst SetsNumbers is c.requires.numbers).0),
        ),
      ),
    )

pub returns : goal.returns
returns g t c =
    let b = plan_tree c.in-Over.below.value in
    let n = node_tree c.in-Over.node.value in
    let is = ap plan_tree c.in-Over.is in
    let seen : c.deref.result.now ≡ c.in-Over.node.value = cc (c.deref.ensures) in
    let node : c.deref-in-Over.result.now ≡ c.in-Over.node.value = cc (c.deref-in-Over.ensures) in
    let below : c.deref-in-Over-2.result.now ≡ c.in-Over.below.value = cc (c.deref-in-Over-2.ensures) in
    let last : c.deref-in-Over-3.result.now ≡ c.in-Over.below.value = cc (c.deref-in-Over-3.ensures) in
    let are : plan_tree c.either.result.now ≡ below_looks (last_looks n) b =
    c.either.ensures
    ∙ ap (λ z. unwrap_or (option_map plan_tree c.in_ok-whole-in-Over.whole) (plan_tree z)) (last ∙ sym below)
    ∙ c.in_ok-whole-in-Over.ensures
    ∙ ap (λ z. below_looks (last_looks (top z)) (plan_tree c.deref-in-Over-2.result.now)) is
    ∙ ap (λ z. below_looks (last_looks n) (plan_tree z)) below in
    let h = above_foot b n (subst IsFragment is c.requires.fragment)
    (sym (ap (λ z. is_foot (node_tree z)) seen) ∙ sym c.node_is_foot.ensures
    ∙ c.if-node_is_foot.false) in
    if_map c.with_body.result c.with_body.ensures (λ x e facts.
    e ∙ within_is
    (c.in_ok-executor-in-Over.ensures ∙ ap (λ z. operator_on c.args.shard (node_tree z)) node)
    (c.in_ok-below-in-Over.ensures facts ∙ ap (operators_at facts (Some c.args.shard)) are
    ∙ whole_operators facts (Some c.args.shard) (last_looks n) b)
    (ap leaf c.no_results.ensures)
    ∙ shard_operators facts c.args.shard b n h.1 ∙ ap (operators_at facts (Some c.args.shard)) (sym is))
