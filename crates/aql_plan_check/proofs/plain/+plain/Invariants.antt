use Rattle.std.proofs.Common.{map, drop}
use Rattle.std.specs.Prelude.{◌↔◌}
use Rattle.aql_tree.specs.View.{tree, trees, member_part, members, step_part, steps, link_part, links}
use Rattle.aql_meaning.specs.Plain.{AllPlain, MembersPlain, StepsPlain, LinksPlain}
use Rattle.aql_plan_check.proofs.plain.+plain.Given as goal

abbrev pub invariant-all_plain-loop-expr : goal.invariant-all_plain-loop-expr
invariant-all_plain-loop-expr l =
    AllPlain (trees (map tree (drop l.expr-index l.exprs))) ↔ AllPlain (trees (map tree l.exprs))

abbrev pub invariant-fields_plain-loop-field : goal.invariant-fields_plain-loop-field
invariant-fields_plain-loop-field l =
    MembersPlain (members (map member_part (drop l.field-index l.fields)))
    ↔ MembersPlain (members (map member_part l.fields))

abbrev pub invariant-links_plain-loop-link : goal.invariant-links_plain-loop-link
invariant-links_plain-loop-link l =
    LinksPlain (links (map link_part (drop l.link-index l.all))) ↔ LinksPlain (links (map link_part l.all))

abbrev pub invariant-steps_plain-loop-step : goal.invariant-steps_plain-loop-step
invariant-steps_plain-loop-step l =
    StepsPlain (steps (map step_part (drop l.step-index l.all))) ↔ StepsPlain (steps (map step_part l.all))
