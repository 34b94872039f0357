use denote.Param.Weighed.{most}
use Rattle.std.proofs.Common.{◌≡◌, ◌++◌, ◌+◌, ◌*◌, ◌-◌, ◌^◌, max, length, map, drop, true, option_map}
use Rattle.aql_value.specs.Datum.{Datum, boolean}
use Rattle.aql_value.specs.View.{datum_of, datums_in}
use Rattle.aql_func.specs.Objects.{with_all}
use Rattle.aql_tree.specs.declared.syntax.Expr.{size-Expr}
use Rattle.aql_tree.specs.declared.syntax.Link.{size-Link}
use Rattle.aql_tree.specs.declared.syntax.Step.{size-Step}
use Rattle.aql_tree.specs.View.{tree, trees, maybe, members, steps, links, member_part, step_part, link_part}
use Rattle.aql_meaning.specs.Clauses.{filter_true}
use Rattle.aql_meaning.specs.Value as spec
use Rattle.aql_expr.proofs.Depths.{maybe_depth, boxed_depth}
use Rattle.aql_expr.proofs.evaluation.+evaluation.Given as goal

-- The depth of the tree decides, and then how many steps are left; of a function over several parts, that of
-- the deepest.

abbrev pub decreases-evaluate : goal.decreases-evaluate
decreases-evaluate g l = goal.size-evaluate g l * 2 ^ 66

abbrev pub decreases-evaluate_list : goal.decreases-evaluate_list
decreases-evaluate_list g l = goal.size-evaluate_list g l * 2 ^ 66 + 3

abbrev pub decreases-evaluate_object : goal.decreases-evaluate_object
decreases-evaluate_object g l = goal.size-evaluate_object g l * 2 ^ 66 + 3

abbrev pub decreases-evaluate_access : goal.decreases-evaluate_access
decreases-evaluate_access g l =
    max (size-Expr l.of.now) (most size-Step l.all.now) * 2 ^ 66 + 3 * length l.all.now + 3

abbrev pub decreases-evaluate_accessed : goal.decreases-evaluate_accessed
decreases-evaluate_accessed g l =
    max (size-Expr l.of.now) (most size-Step l.all.now) * 2 ^ 66 + 3 * length l.all.now + 2

abbrev pub decreases-evaluate_call : goal.decreases-evaluate_call
decreases-evaluate_call g l = goal.size-evaluate_call g l * 2 ^ 66 + 3

abbrev pub decreases-evaluate_unary : goal.decreases-evaluate_unary
decreases-evaluate_unary g l = goal.size-evaluate_unary g l * 2 ^ 66 + 1

abbrev pub decreases-evaluate_chain : goal.decreases-evaluate_chain
decreases-evaluate_chain g l = max (size-Expr l.first.now) (most size-Link l.rest.now) * 2 ^ 66 + 3

abbrev pub decreases-evaluate_comparison : goal.decreases-evaluate_comparison
decreases-evaluate_comparison g l = max (size-Expr l.left.now) (size-Expr l.right.now) * 2 ^ 66 + 1

abbrev pub decreases-evaluate_condition : goal.decreases-evaluate_condition
decreases-evaluate_condition g l =
    max (size-Expr l.test.now) (max (boxed_depth l.yes.now) (size-Expr l.no.now)) * 2 ^ 66 + 1

abbrev pub decreases-evaluate_range : goal.decreases-evaluate_range
decreases-evaluate_range g l = max (size-Expr l.low.now) (size-Expr l.high.now) * 2 ^ 66 + 1

abbrev pub decreases-evaluate_all : goal.decreases-evaluate_all
decreases-evaluate_all g l = goal.size-evaluate_all g l * 2 ^ 66 + 2

abbrev pub decreases-evaluate_members : goal.decreases-evaluate_members
decreases-evaluate_members g l = goal.size-evaluate_members g l * 2 ^ 66 + 2

abbrev pub decreases-set_member : goal.decreases-set_member
decreases-set_member g l = goal.size-set_member g l * 2 ^ 66 + 1

abbrev pub decreases-follow_variable : goal.decreases-follow_variable
decreases-follow_variable g l = goal.size-follow_variable g l * 2 ^ 66 + 3 * length l.all.now + 2

abbrev pub decreases-follow : goal.decreases-follow
decreases-follow g l = goal.size-follow g l * 2 ^ 66 + 3 * (length l.all.now - l.start) + 1

abbrev pub decreases-access_at : goal.decreases-access_at
decreases-access_at g l = goal.size-access_at g l * 2 ^ 66 + 1

abbrev pub decreases-follow_each : goal.decreases-follow_each
decreases-follow_each g l =
    max (most size-Step l.all.now) (max (maybe_depth l.filter.now) (maybe_depth l.project.now)) * 2 ^ 66
    + 3 * (length l.all.now - l.next) + 3

abbrev pub decreases-is_kept : goal.decreases-is_kept
decreases-is_kept g l = maybe_depth l.filter.now * 2 ^ 66 + 1

abbrev pub decreases-projection_of : goal.decreases-projection_of
decreases-projection_of g l = maybe_depth l.project.now * 2 ^ 66 + 1

abbrev pub decreases-follow_given : goal.decreases-follow_given
decreases-follow_given g l = goal.size-follow_given g l * 2 ^ 66 + 3 * (length l.all.now - l.at) + 2

abbrev pub decreases-evaluate_links : goal.decreases-evaluate_links
decreases-evaluate_links g l = goal.size-evaluate_links g l * 2 ^ 66 + 2

abbrev pub decreases-evaluate_link : goal.decreases-evaluate_link
decreases-evaluate_link g l = goal.size-evaluate_link g l * 2 ^ 66 + 1

-- What was done, with what is left, is the whole.

abbrev pub invariant-evaluate_all-loop-expr : goal.invariant-evaluate_all-loop-expr
invariant-evaluate_all-loop-expr g l =
    let cur = datum_of l.cur in
    let row = g.R.RowView.vars l.row in
    l.out ++ spec.values (trees (map tree (drop l.expr-index l.exprs))) cur row
    ≡ spec.values (trees (map tree l.exprs)) cur row

abbrev pub invariant-evaluate_members-loop-field : goal.invariant-evaluate_members-loop-field
invariant-evaluate_members-loop-field g l =
    let cur = datum_of l.cur in
    let row = g.R.RowView.vars l.row in
    with_all l.out (spec.members (members (map member_part (drop l.field-index l.fields))) cur row)
    ≡ with_all l.initial.out (spec.members (members (map member_part l.fields)) cur row)

abbrev pub invariant-follow-loop-at : goal.invariant-follow-loop-at
invariant-follow-loop-at g l =
    let cur = datum_of l.cur in
    let row = g.R.RowView.vars l.row in
    spec.steps_value (steps (map step_part (drop l.at l.all))) cur row (datum_of l.value)
    ≡ spec.steps_value (steps (map step_part (drop l.start l.all))) cur row (datum_of l.from)

abbrev pub invariant-follow_each-loop-element : goal.invariant-follow_each-loop-element
invariant-follow_each-loop-element g l =
    let cur = datum_of l.cur in
    let row = g.R.RowView.vars l.row in
    let rest = steps (map step_part (drop l.next l.all)) in
    let after = λ (w : Datum). spec.steps_value rest cur row w in
    let given = λ (c : Datum). spec.value_or (maybe (option_map tree l.project)) c row c in
    let tested = λ (c : Datum). spec.value_or (maybe (option_map tree l.filter)) c row (boolean true) in
    let left = datums_in (drop l.element-index l.element-items) in
    let whole = datums_in l.element-items in
    l.out ++ map after (map given (filter_true left (map tested left)))
    ≡ map after (map given (filter_true whole (map tested whole)))

abbrev pub invariant-evaluate_links-loop-link : goal.invariant-evaluate_links-loop-link
invariant-evaluate_links-loop-link g l =
    let cur = datum_of l.cur in
    let row = g.R.RowView.vars l.row in
    spec.links_value (links (map link_part (drop l.link-index l.all))) cur row (datum_of l.left)
    ≡ spec.links_value (links (map link_part l.all)) cur row (datum_of l.initial.left)
