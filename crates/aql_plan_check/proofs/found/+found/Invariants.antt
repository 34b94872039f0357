use Rattle.std.proofs.Common.{map, drop}
use Rattle.std.specs.Prelude.{◌↔◌}
use Rattle.aql_tree.specs.View.{tree, trees, member_part, members, step_part, steps, link_part, links}
use Rattle.aql_plan_check.specs.inner.Findings.{AllFind, MembersFind, StepsFind, LinksFind}
use Rattle.aql_plan_check.specs.inner.Rows.{variables}
use Rattle.aql_plan_check.proofs.found.+found.Given as goal

abbrev pub invariant-all_find-loop-expr : goal.invariant-all_find-loop-expr
invariant-all_find-loop-expr l =
    AllFind (variables l.rows.keys) (trees (map tree (drop l.expr-index l.exprs)))
    ↔ AllFind (variables l.rows.keys) (trees (map tree l.exprs))

abbrev pub invariant-fields_find-loop-field : goal.invariant-fields_find-loop-field
invariant-fields_find-loop-field l =
    MembersFind (variables l.rows.keys) (members (map member_part (drop l.field-index l.fields)))
    ↔ MembersFind (variables l.rows.keys) (members (map member_part l.fields))

abbrev pub invariant-links_find-loop-link : goal.invariant-links_find-loop-link
invariant-links_find-loop-link l =
    LinksFind (variables l.rows.keys) (links (map link_part (drop l.link-index l.all)))
    ↔ LinksFind (variables l.rows.keys) (links (map link_part l.all))

abbrev pub invariant-steps_find-loop-step : goal.invariant-steps_find-loop-step
invariant-steps_find-loop-step l =
    StepsFind (variables l.rows.keys) (steps (map step_part (drop l.step-index l.all)))
    ↔ StepsFind (variables l.rows.keys) (steps (map step_part l.all))
