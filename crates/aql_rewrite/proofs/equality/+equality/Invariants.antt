use Rattle.std.proofs.Common.{◌≡◌, map, drop}
use Rattle.std.specs.Cmp.Lexicographic.{pointwise}
use Rattle.aql_tree.specs.View.{tree, member_part, step_part, link_part}
use Rattle.aql_rewrite.specs.inner.Same.{same_expr, same_member, same_step, same_link}
use Rattle.aql_rewrite.proofs.equality.+equality.Given as goal

abbrev pub invariant-same_exprs-loop-i : goal.invariant-same_exprs-loop-i
invariant-same_exprs-loop-i l = pointwise same_expr (map tree (drop l.i l.a)) (map tree (drop l.i l.b))
    ≡ pointwise same_expr (map tree l.a) (map tree l.b)

abbrev pub invariant-same_fields-loop-i : goal.invariant-same_fields-loop-i
invariant-same_fields-loop-i l = pointwise same_member (map member_part (drop l.i l.a)) (map member_part (drop l.i l.b))
    ≡ pointwise same_member (map member_part l.a) (map member_part l.b)

abbrev pub invariant-same_steps-loop-i : goal.invariant-same_steps-loop-i
invariant-same_steps-loop-i l = pointwise same_step (map step_part (drop l.i l.a)) (map step_part (drop l.i l.b))
    ≡ pointwise same_step (map step_part l.a) (map step_part l.b)

abbrev pub invariant-same_links-loop-i : goal.invariant-same_links-loop-i
invariant-same_links-loop-i l = pointwise same_link (map link_part (drop l.i l.a)) (map link_part (drop l.i l.b))
    ≡ pointwise same_link (map link_part l.a) (map link_part l.b)
