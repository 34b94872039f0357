use Rattle.std.proofs.Common.{arith, ◌≡◌, ◌≤◌, ◌+◌, ◌++◌, Bor, [], ◌∷◌, length, map, drop, option_map, IfOk, true, ap, sym, subst, ◌∙◌, append_assoc}
use Rattle.aql_value.specs.Contents.{list, at_name}
use Rattle.aql_value.specs.Datum.{Datum, boolean}
use Rattle.aql_value.specs.View.{datum_of, datums_in}
use Rattle.aql_value.specs.declared.values.Value.{Value}
use Rattle.aql_func.specs.Objects.{with_all}
use Rattle.aql_tree.specs.View.{tree, trees, links, link_part, members, member_part, StepPart, maybe, step_part, steps, name, at, inline}
use Rattle.aql_meaning.specs.Value.{steps_value, value, values, value_or, links_value, members as values_of}
use Rattle.aql_expr.proofs.Steps.{left, part-Name, part-At, part-Each, from_here, taken, one_kept, one_dropped, all_taken, one_member}
use Rattle.aql_expr.proofs.evaluation.+evaluation.Goals as goal
use Rattle.aql_expr.proofs.evaluation.+evaluation.Goals.{follow-in-Name, follow-in-At+in_ok-value-in-At, follow_each-then-branch+in_ok-given+in_ok-follow_given+in_ok-push, follow_each-else-branch}

pub follow-loop-at-preserved : goal.follow-loop-at-preserved
follow-loop-at-preserved g t c =
    let cur = datum_of c.args.cur.now in
    let row = g.R.RowView.vars c.args.row.now in
    let from = datum_of c.loop-at.value.now in
    let rest = steps (map step_part (drop (c.loop-at.at + 1) c.args.all.now)) in
    let here = λ (p : StepPart) (k : step_part c.index-all-at.result ≡ p).
    from_here c.args.all.now c.loop-at.at c.index-all-at.result p (omega arith) c.index-all-at.is k cur row
    from in
    elim c.match-all-at.branch [
      | follow-in-Name w ↦
          ap (λ (v : Bor Value). steps_value rest cur row (datum_of v.now)) w.value-is
          ∙ ap (steps_value rest cur row) (w.attribute-value.ensures ∙ ap (at_name from) w.as_str.ensures)
          ∙ sym (here (name w.in-Name.name) (ap step_part w.in-Name.is ∙ part-Name w.in-Name.name))
          ∙ c.loop-at.invariant
      | follow-in-At+in_ok-value-in-At w ↦
          ap (λ (v : Bor Value). steps_value rest cur row (datum_of v.now)) w.value-is
          ∙ ap (steps_value rest cur row) w.in_ok-value-in-At.ensures
          ∙ sym (here (at (tree w.in-At.which)) (ap step_part w.in-At.is ∙ part-At w.in-At.which))
          ∙ c.loop-at.invariant
    ]

pub follow-returns-in-Each : goal.follow-returns-in-Each
follow-returns-in-Each g t c =
    let cur = datum_of c.args.cur.now in
    let row = g.R.RowView.vars c.args.row.now in
    let here = from_here c.args.all.now c.loop-at.at c.index-all-at.result
    (inline (option_map tree c.in-Each.filter) (option_map tree c.in-Each.project)) (omega arith)
    c.index-all-at.is (ap step_part c.in-Each.is ∙ part-Each c.in-Each.filter c.in-Each.project) cur row
    (datum_of c.loop-at.value.now) in
    subst (λ (w : Datum). IfOk c.follow_each.result (λ (v : Value). datum_of v ≡ w))
    (sym here ∙ c.loop-at.invariant) c.follow_each.ensures

pub follow_each-loop-element-preserved : goal.follow_each-loop-element-preserved
follow_each-loop-element-preserved g t c =
    let cur = datum_of c.args.cur.now in
    let row = g.R.RowView.vars c.args.row.now in
    let steps_left = steps (map step_part (drop c.args.next c.args.all.now)) in
    let after = λ (w : Datum). steps_value steps_left cur row w in
    let given = λ (e : Datum). value_or (maybe (option_map tree c.args.project.now)) e row e in
    let tested = λ (e : Datum). value_or (maybe (option_map tree c.args.filter.now)) e row (boolean true) in
    let all = c.elements-element-items.result.now in
    let element = c.element-item.result in
    let rest = datums_in (drop (c.loop-element.element-index + 1) all) in
    let done = c.loop-element.out in
    let whole = taken after given tested (datums_in all) in
    let begun : done ++ taken after given tested (datum_of element ∷ rest) ≡ whole =
    ap (λ ts. done ++ taken after given tested ts)
    (sym (ap datums_in (left all c.loop-element.element-index element (omega arith) c.element-item.is)))
    ∙ c.loop-element.invariant in
    elim c.if-branch.branch [
      | follow_each-then-branch+in_ok-given+in_ok-follow_given+in_ok-push w ↦
          ap (λ out. out ++ taken after given tested rest)
          (w.out-is ∙ w.in_ok-push.ensures.ok
          ∙ ap (λ v. done ++ v ∷ []) (w.in_ok-follow_given.ensures ∙ ap after w.in_ok-given.ensures))
          ∙ one_kept after given tested done (datum_of element) rest whole
          (sym c.in_ok-is_kept.ensures ∙ w.if-branch.true) begun
      | follow_each-else-branch w ↦
          ap (λ out. out ++ taken after given tested rest) w.out-is
          ∙ one_dropped after given tested done (datum_of element) rest whole
          (sym c.in_ok-is_kept.ensures ∙ w.if-branch.false) begun
    ]

pub follow_each-returns : goal.follow_each-returns
follow_each-returns g t c =
    let cur = datum_of c.args.cur.now in
    let row = g.R.RowView.vars c.args.row.now in
    let steps_left = steps (map step_part (drop c.args.next c.args.all.now)) in
    let after = λ (w : Datum). steps_value steps_left cur row w in
    let given = λ (e : Datum). value_or (maybe (option_map tree c.args.project.now)) e row e in
    let tested = λ (e : Datum). value_or (maybe (option_map tree c.args.filter.now)) e row (boolean true) in
    let all = c.elements-element-items.result.now in
    let ended : length all ≤ c.loop-element.element-index = omega arith in
    ap list (all_taken after given tested c.loop-element.out all c.loop-element.element-index ended
    c.loop-element.invariant
    ∙ ap (taken after given tested) c.elements-element-items.ensures)

pub evaluate_all-loop-expr-preserved : goal.evaluate_all-loop-expr-preserved
evaluate_all-loop-expr-preserved g t c =
    let cur = datum_of c.args.cur.now in
    let row = g.R.RowView.vars c.args.row.now in
    let all = c.args.exprs.now in
    let i = c.loop-expr.expr-index in
    let out = c.loop-expr.out in
    let rest = values (trees (map tree (drop (i + 1) all))) cur row in
    ap (λ ts. ts ++ rest) (c.in_ok-push.ensures.ok ∙ ap (λ v. out ++ v ∷ []) c.in_ok-evaluate.ensures)
    ∙ append_assoc out (value (tree c.expr-item.result) cur row ∷ []) rest
    ∙ ap (λ es. out ++ values (trees (map tree es)) cur row)
    (sym (left all i c.expr-item.result c.loop-expr-test.true c.expr-item.is))
    ∙ c.loop-expr.invariant

pub evaluate_members-loop-field-preserved : goal.evaluate_members-loop-field-preserved
evaluate_members-loop-field-preserved g t c =
    let cur = datum_of c.args.cur.now in
    let row = g.R.RowView.vars c.args.row.now in
    let all = c.args.fields.now in
    let i = c.loop-field.field-index in
    let rest = map member_part (drop (i + 1) all) in
    ap (λ ms. with_all ms (values_of (members rest) cur row)) c.in_ok-set_member.ensures
    ∙ one_member c.loop-field.out (member_part c.field-item.result) rest cur row
    ∙ ap (λ fs. with_all c.loop-field.out (values_of (members (map member_part fs)) cur row))
    (sym (left all i c.field-item.result c.loop-field-test.true c.field-item.is))
    ∙ c.loop-field.invariant

pub evaluate_links-loop-link-preserved : goal.evaluate_links-loop-link-preserved
evaluate_links-loop-link-preserved g t c =
    let cur = datum_of c.args.cur.now in
    let row = g.R.RowView.vars c.args.row.now in
    let all = c.args.all.now in
    let i = c.loop-link.link-index in
    ap (links_value (links (map link_part (drop (i + 1) all))) cur row) c.in_ok-left.ensures
    ∙ ap (λ ls. links_value (links (map link_part ls)) cur row (datum_of c.loop-link.left))
    (sym (left all i c.link-item.result c.loop-link-test.true c.link-item.is))
    ∙ c.loop-link.invariant
