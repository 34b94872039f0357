use Rattle.std.proofs.Common.{◌≡◌, ◌∙◌, ap, sym}
use Rattle.aql_plan.specs.Nodes.{over}
use Rattle.aql_plan.specs.Plan.{Plan, Singleton, Over, Node}
use Rattle.aql_plan.specs.View.{plan_tree}
use Rattle.aql_rules_cluster.proofs.fragments.moved_below.Goals as goal

-- b was the input of p, and m is what is left of p without it
parted : (p m b c : Plan) (n : Node) → m ≡ over p Singleton → p ≡ over p b → p ≡ Over c n
    → (b ≡ c) × ((d : Plan) → over m d ≡ Over d n)
parted p m b c n left was is =
    let same : Over c n ≡ Over b n = sym is ∙ was ∙ ap (λ (o : Plan). over o b) is in (
      cc,
      λ d. ap (λ (o : Plan). over o d) (left ∙ ap (λ (o : Plan). over o Singleton) is),
    )

pub returns : goal.returns
returns c = λ f l m n is.
    let first = parted (plan_tree c.args.plan) (plan_tree c.replace_below-gather.new.node)
    (plan_tree c.replace_below-gather.result) (Over (Over f l) m) n c.replace_below-gather.ensures.over
    c.replace_below-gather.ensures.input is in
    let second = parted (plan_tree c.replace_below-gather.result) (plan_tree c.replace_below-link.new.node)
    (plan_tree c.replace_below-link.result) (Over f l) m c.replace_below-link.ensures.over
    c.replace_below-link.ensures.input first.0 in
    let third = parted (plan_tree c.replace_below-link.result) (plan_tree c.replace_below-fragment.new.node)
    (plan_tree c.replace_below-fragment.result) f l c.replace_below-fragment.ensures.over
    c.replace_below-fragment.ensures.input second.0 in
    c.with_below.ensures ∙ second.1 (plan_tree c.with_below-sent.result)
    ∙ ap (λ (o : Plan). Over o m) (c.with_below-sent.ensures ∙ third.1 (plan_tree c.with_below-moved.result)
    ∙ ap (λ (o : Plan). Over o l) (c.with_below-moved.ensures
    ∙ first.1 (plan_tree c.replace_below-fragment.result) ∙ ap (λ (o : Plan). Over o n) third.0))
