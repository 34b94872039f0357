use Rattle.std.proofs.Common.{◌≡◌, ◌++◌, [], drop, map}
use Rattle.std.specs.Prelude.{codes}
use Rattle.aql_tree.specs.View.{tree, trees, members, member_part, steps, step_part, links, link_part}
use Rattle.aql_show.specs.Lists.{listed}
use Rattle.aql_show.specs.Exprs.{expr_texts, member_texts, steps_text, links_text}
use Rattle.aql_show.proofs.exprs.+exprs.Given as goal

abbrev pub invariant-write_exprs-loop-expr : goal.invariant-write_exprs-loop-expr
invariant-write_exprs-loop-expr l =
    l.out.items ++ listed l.lead (codes ", ")
    (expr_texts l.known.names.now (trees (map tree (drop l.expr-index l.exprs))))
    ≡ l.fn.out.items ++ listed [] (codes ", ") (expr_texts l.known.names.now (trees (map tree l.exprs)))

abbrev pub invariant-write_fields-loop-field : goal.invariant-write_fields-loop-field
invariant-write_fields-loop-field l =
    l.out.items ++ listed l.lead (codes ", ")
    (member_texts l.known.names.now (members (map member_part (drop l.field-index l.fields))))
    ≡ l.fn.out.items ++ listed [] (codes ", ")
    (member_texts l.known.names.now (members (map member_part l.fields)))

abbrev pub invariant-write_steps-loop-step : goal.invariant-write_steps-loop-step
invariant-write_steps-loop-step l =
    l.out.items ++ steps_text l.known.names.now (steps (map step_part (drop l.step-index l.all)))
    ≡ l.fn.out.items ++ steps_text l.known.names.now (steps (map step_part l.all))

abbrev pub invariant-write_links-loop-link : goal.invariant-write_links-loop-link
invariant-write_links-loop-link l =
    l.out.items ++ links_text l.known.names.now (links (map link_part (drop l.link-index l.all)))
    ≡ l.fn.out.items ++ links_text l.known.names.now (links (map link_part l.all))
