use Rattle.std.proofs.Common.{◌∙◌, true≢false, refl, sym}
use Rattle.aql_plan.specs.View.{plan_tree, key_trees, directions}
use Rattle.aql_rules_index.proofs.KeysFound.{many_keys, many_directions, first_direction}
use Rattle.aql_rules_index.proofs.SortFound.{no_keys, mixed, one_way}
use Rattle.aql_rules_index.proofs.use_index_for_sort.order_by.Goals as goal

pub returns-in_default : goal.returns-in_default
returns-in_default c = (
  no_keys c.args.facts.now (directions c.args.keys.now) (key_trees c.args.keys.now) (plan_tree c.args.plan.now)
      (many_keys c.args.keys.now ∙ c.in_default.ensures.cases),
  refl,
)

pub returns-then-not-all_go : goal.returns-then-not-all_go
returns-then-not-all_go c =
    let keys = c.args.keys.now in
    let first = c.in-Some.first.now in
    let more = c.in-Some.field-0-1.now in (
      mixed c.args.facts.now first.descending (directions keys) (directions more)
          (first_direction keys more first c.in-Some.ensures.cases.0) (key_trees keys) (plan_tree c.args.plan.now)
          (λ h. true≢false (sym (c.all_go.ensures.1 h) ∙ c.if-not-all_go.true)),
      refl,
    )

pub returns : goal.returns
returns c =
    let keys = c.args.keys.now in
    let first = c.in-Some.first.now in
    let more = c.in-Some.field-0-1.now in
    one_way c.args.facts.now first.descending (directions keys) (directions more)
    (first_direction keys more first c.in-Some.ensures.cases.0) (key_trees keys) (plan_tree c.args.plan.now)
    (plan_tree c.order_rows.new.plan) c.in_ok-changed.changed
    (c.all_go.ensures.0 c.if-not-all_go.false) (many_directions keys ∙ sym (many_keys keys))
    c.in_ok-changed.ensures
