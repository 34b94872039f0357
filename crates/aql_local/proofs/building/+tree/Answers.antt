-- The tree of a plan, by its top node, its input and its body; that of a Gather by what is below its foot.
use Rattle.std.proofs.Common.{rules, ◌≡◌, ◌+◌, ◌<◌, ◌∙◌, None, ap, sym, subst, arith}
use Rattle.aql_plan.specs.Fits.{Fits}
use Rattle.aql_plan.specs.Nodes.{weight}
use Rattle.aql_plan.specs.Plan.{top}
use Rattle.aql_plan.specs.View.{plan_tree}
use Rattle.aql_exec.specs.Operators.{leaf}
use Rattle.aql_shard.specs.Datasets.{stock}
use Rattle.aql_engine.specs.EachFits.{EachFits}
use Rattle.aql_engine.specs.OperatorsOf.{last_looks, operators_of}
use Rattle.aql_local.specs.Building.{SetsNumbers}
use Rattle.aql_local.specs.Fragments.{StandsApart, is_foot, reached, gather_operator}
use Rattle.aql_local.specs.inner.Whole.{below_looks}
use Rattle.aql_local.proofs.Returned.{if_map, within_is}
use Rattle.aql_local.proofs.Uncut.{whole_operators, whole_weight, whole_apart, whole_fits, whole_numbers}
use Rattle.aql_local.proofs.Trees.{node_operators, apart_below, apart_fragment, body_is, body_apart, body_fits, body_numbers, body_lighter}
use Rattle.aql_local.proofs.OnShards.{foot_of_fragment, foot_lighter, foot_fits, below_fits, below_numbers, below_apart, gather_operators}
use Rattle.aql_local.proofs.building.+tree.Goals as goal

-- ---- bodies

pub body_of-tree_of-requires : goal.body_of-tree_of-requires
body_of-tree_of-requires g t c κs within =
    let facts = (stock c.args.servers.now).facts in
    let p = plan_tree c.args.plan.now in
    let s = plan_tree c.in-Some.body.now in
    let is = c.in-Some.ensures in
    let k : weight s + (weight s + 1) < weight p + weight p = omega (arith, body_lighter p s is) in (
      search (rules, k),
      (
        search rules,
        (
          body_apart (top p) s is c.requires.outside,
          (
            body_fits facts (top p) s is c.requires.fits,
            body_numbers (top p) s is c.requires.numbers,
          ),
        ),
      ),
    )

pub body_of-returns-in-Some : goal.body_of-returns-in-Some
body_of-returns-in-Some g t c =
    let facts = (stock c.args.servers.now).facts in
    if_map c.tree_of.result c.tree_of.ensures (λ x h.
    h ∙ body_is facts (top (plan_tree c.args.plan.now)) (plan_tree c.in-Some.body.now) c.in-Some.ensures)

-- ---- nodes with an input, and a body

pub tree_of-of_node-requires-clause-fits : goal.tree_of-of_node-requires-clause-fits
tree_of-of_node-requires-clause-fits g t c =
    let facts = (stock c.args.servers.now).facts in
    (facts, (subst (EachFits facts) c.in-Some.ensures c.requires.fits).1)

pub tree_of-tree_of-requires : goal.tree_of-tree_of-requires
tree_of-tree_of-requires g t c κs within =
    let facts = (stock c.args.servers.now).facts in
    let p = plan_tree c.args.plan.now in
    let b = plan_tree c.in-Some.below.now in
    let looks = last_looks (top p) in
    let used = plan_tree c.either.result.now in
    let are : used ≡ below_looks looks b = c.either.ensures ∙ c.in_ok-whole-in-Some.ensures in
    let is = c.in-Some.ensures in
    let w = ap weight is in
    let v = ap weight are ∙ whole_weight looks b in
    let k : weight used + (weight used + 1) < weight p + (weight p + 1) = omega (arith, w, v) in (
      search (rules, k),
      (
        search rules,
        (
          subst StandsApart (sym are) (whole_apart looks b
              (apart_below b (top p) (sym c.has_gather.ensures ∙ c.if-has_gather.false)
              (subst StandsApart is c.requires.apart)).0),
          (
            subst (EachFits facts) (sym are)
                (whole_fits facts looks b (subst (EachFits facts) is c.requires.fits).0),
            subst SetsNumbers (sym are) (whole_numbers looks b (subst SetsNumbers is c.requires.numbers).0),
          ),
        ),
      ),
    )

pub tree_of-body_of-requires : goal.tree_of-body_of-requires
tree_of-body_of-requires g t c κs within =
    let facts = (stock c.args.servers.now).facts in
    let p = plan_tree c.args.plan.now in
    let b = plan_tree c.in-Some.below.now in
    let is = c.in-Some.ensures in
    let k : weight p + weight p < weight p + (weight p + 1) = omega arith in (
      search (rules, k),
      (
        search rules,
        (
          (apart_below b (top p) (sym c.has_gather.ensures ∙ c.if-has_gather.false)
              (subst StandsApart is c.requires.apart)).1,
          (
            (subst (EachFits facts) is c.requires.fits).2,
            (subst SetsNumbers is c.requires.numbers).1,
          ),
        ),
      ),
    )

pub tree_of-returns-in_ok-body-in-Some : goal.tree_of-returns-in_ok-body-in-Some
tree_of-returns-in_ok-body-in-Some g t c =
    let facts = (stock c.args.servers.now).facts in
    let p = plan_tree c.args.plan.now in
    let b = plan_tree c.in-Some.below.now in
    let is = c.in-Some.ensures in
    let has = apart_below b (top p) (sym c.has_gather.ensures ∙ c.if-has_gather.false)
    (subst StandsApart is c.requires.apart) in
    if_map c.with_body.result c.with_body.ensures (λ x h.
    h ∙ within_is c.in_ok-executor-in-Some.ensures
    (c.in_ok-below-in-Some.ensures
    ∙ ap (operators_of facts) (c.either.ensures ∙ c.in_ok-whole-in-Some.ensures)
    ∙ whole_operators facts None (last_looks (top p)) b) c.in_ok-body-in-Some.ensures
    ∙ node_operators facts b (top p) has.1 (rw is at (sym c.is_no_results.ensures ∙ c.if-is_no_results.false))
    ∙ ap (operators_of facts) (sym is))

-- ---- a Gather

pub gather_tree-shards_reached-requires-clause-foot : goal.gather_tree-shards_reached-requires-clause-foot
gather_tree-shards_reached-requires-clause-foot g t c =
    let p = plan_tree c.args.plan.now in
    let b = plan_tree c.args.fragment.now in
    let is = c.requires.fragment in
    let inside = apart_fragment b (top p) c.requires.gather (subst StandsApart is c.requires.apart) in
    ap is_foot c.foot_of.ensures ∙ foot_of_fragment b inside.0

pub gather_tree-shards_reached-requires-clause-fits : goal.gather_tree-shards_reached-requires-clause-fits
gather_tree-shards_reached-requires-clause-fits g t c =
    let facts = (stock c.args.servers.now).facts in
    let p = plan_tree c.args.plan.now in
    let b = plan_tree c.args.fragment.now in
    let is = c.requires.fragment in
    let inside = apart_fragment b (top p) c.requires.gather (subst StandsApart is c.requires.apart) in
    subst (Fits facts) (sym c.foot_of.ensures) (foot_fits facts b inside.0 (subst (EachFits facts) is c.requires.fits).0)

pub gather_tree-tree_of-requires : goal.gather_tree-tree_of-requires
gather_tree-tree_of-requires g t c κs within =
    let facts = (stock c.args.servers.now).facts in
    let p = plan_tree c.args.plan.now in
    let b = plan_tree c.args.fragment.now in
    let s = plan_tree c.below_foot.result.now in
    let is = c.requires.fragment in
    let inside = apart_fragment b (top p) c.requires.gather (subst StandsApart is c.requires.apart) in
    let l = foot_lighter b inside.0 in
    let w = ap weight is in
    let v = ap weight c.below_foot.ensures in
    let k : weight s + (weight s + 1) < weight p + weight p = omega (arith, l, w, v) in (
      search (rules, k),
      (
        search rules,
        (
          subst StandsApart (sym c.below_foot.ensures) (below_apart b inside.0 inside.1),
          (
            subst (EachFits facts) (sym c.below_foot.ensures)
                (below_fits facts b (subst (EachFits facts) is c.requires.fits).0),
            subst SetsNumbers (sym c.below_foot.ensures)
                (below_numbers b (subst SetsNumbers is c.requires.numbers).0),
          ),
        ),
      ),
    )

pub gather_tree-returns : goal.gather_tree-returns
gather_tree-returns g t c =
    let facts = (stock c.args.servers.now).facts in
    let p = plan_tree c.args.plan.now in
    let b = plan_tree c.args.fragment.now in
    let is = c.requires.fragment in
    let inside = apart_fragment b (top p) c.requires.gather (subst StandsApart is c.requires.apart) in
    let shards = c.in_ok-shards.shards.items in
    let are = c.in_ok-shards.ensures.shards ∙ ap (reached facts) c.foot_of.ensures in
    if_map c.with_body.result c.with_body.ensures (λ x h.
    h ∙ within_is (c.in_ok-executor.ensures facts ∙ ap (gather_operator facts shards) is)
    (c.in_ok-below.ensures ∙ ap (operators_of facts) c.below_foot.ensures) (ap leaf c.no_results.ensures)
    ∙ gather_operators facts b (top p) shards c.requires.gather inside.0 are
    ∙ ap (operators_of facts) (sym is))
