use Rattle.std.proofs.Common.{◌≡◌, ◌++◌, map, drop}
use Rattle.aql_tree.specs.View.{tree, trees, members, member_part, steps, step_part, links, link_part}
use Rattle.aql_meaning.specs.Uses.{all_uses, member_uses, step_uses, link_uses}
use Rattle.aql_plan.specs.Used.{uses_tree}
use Rattle.aql_plan.proofs.uses.+uses.Given as goal

abbrev pub invariant-add_all_uses-loop-expr : goal.invariant-add_all_uses-loop-expr
invariant-add_all_uses-loop-expr l =
    uses_tree l.to ++ all_uses (trees (map tree (drop l.expr-index l.exprs)))
    ≡ uses_tree l.initial.to ++ all_uses (trees (map tree l.exprs))

abbrev pub invariant-add_member_uses-loop-field : goal.invariant-add_member_uses-loop-field
invariant-add_member_uses-loop-field l =
    uses_tree l.to ++ member_uses (members (map member_part (drop l.field-index l.fields)))
    ≡ uses_tree l.initial.to ++ member_uses (members (map member_part l.fields))

abbrev pub invariant-add_step_uses-loop-step : goal.invariant-add_step_uses-loop-step
invariant-add_step_uses-loop-step l =
    uses_tree l.to ++ step_uses (steps (map step_part (drop l.step-index l.all)))
    ≡ uses_tree l.initial.to ++ step_uses (steps (map step_part l.all))

abbrev pub invariant-add_link_uses-loop-link : goal.invariant-add_link_uses-loop-link
invariant-add_link_uses-loop-link l =
    uses_tree l.to ++ link_uses (links (map link_part (drop l.link-index l.all)))
    ≡ uses_tree l.initial.to ++ link_uses (links (map link_part l.all))
