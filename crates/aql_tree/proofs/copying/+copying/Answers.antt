use Rattle.std.proofs.Common.{option_map, ◌∙◌, ap, ap₂, sym}
use Rattle.aql_tree.specs.View.{tree, clause_tree, step_part, member_part, link_part, key_part, let_part, aggregate_part}
use Rattle.aql_tree.specs.laws.Parts.{link_is, key_is, let_is, aggregate_is}
use Rattle.aql_tree.proofs.Copied.{copied_more}
use Rattle.aql_tree.proofs.copying.+copying.Goals as goal

pub copy_exprs-loop-item-preserved : goal.copy_exprs-loop-item-preserved
copy_exprs-loop-item-preserved t c =
    copied_more tree c.args.all.now c.loop-item.out _ c.loop-item.item-index c.item-item.result _
    c.loop-item.invariant
    c.loop-item-test.true c.item-item.is c.in_ok-push.ensures.ok c.in_ok-copy_expr.ensures

pub copy_fields-loop-item-preserved : goal.copy_fields-loop-item-preserved
copy_fields-loop-item-preserved t c =
    copied_more member_part c.args.all.now c.loop-item.out _ c.loop-item.item-index c.item-item.result _
    c.loop-item.invariant
    c.loop-item-test.true c.item-item.is c.in_ok-push.ensures.ok c.in_ok-copy_field.ensures

pub copy_steps-loop-item-preserved : goal.copy_steps-loop-item-preserved
copy_steps-loop-item-preserved t c =
    copied_more step_part c.args.all.now c.loop-item.out _ c.loop-item.item-index c.item-item.result _
    c.loop-item.invariant
    c.loop-item-test.true c.item-item.is c.in_ok-push.ensures.ok c.in_ok-copy_step.ensures

pub copy_clauses-loop-item-preserved : goal.copy_clauses-loop-item-preserved
copy_clauses-loop-item-preserved t c =
    copied_more clause_tree c.args.all.now c.loop-item.out _ c.loop-item.item-index c.item-item.result _
    c.loop-item.invariant
    c.loop-item-test.true c.item-item.is c.in_ok-push.ensures.ok c.in_ok-copy_clause.ensures

pub copy_links-loop-item-preserved : goal.copy_links-loop-item-preserved
copy_links-loop-item-preserved t c =
    copied_more link_part c.args.all.now c.loop-item.out _ c.loop-item.item-index c.item-item.result _
    c.loop-item.invariant
    c.loop-item-test.true c.item-item.is c.in_ok-push.ensures.ok
    (link_is _ ∙ ap (λ e. (c.item-item.result.op, e)) c.in_ok-copy_expr.ensures
    ∙ sym (link_is c.item-item.result))

pub copy_keys-loop-item-preserved : goal.copy_keys-loop-item-preserved
copy_keys-loop-item-preserved t c =
    copied_more key_part c.args.all.now c.loop-item.out _ c.loop-item.item-index c.item-item.result _
    c.loop-item.invariant
    c.loop-item-test.true c.item-item.is c.in_ok-push.ensures.ok
    (key_is _ ∙ ap (λ e. (e, c.item-item.result.descending)) c.in_ok-copy_expr.ensures
    ∙ sym (key_is c.item-item.result))

pub copy_lets-loop-item-preserved : goal.copy_lets-loop-item-preserved
copy_lets-loop-item-preserved t c =
    let item = c.item-item.result in
    copied_more let_part c.args.all.now c.loop-item.out _ c.loop-item.item-index item _ c.loop-item.invariant
    c.loop-item-test.true c.item-item.is c.in_ok-push.ensures.ok (let_is _
    ∙ ap₂ (λ x e. (x, e)) c.in_ok-copy_ident.ensures c.in_ok-copy_expr.ensures ∙ sym (let_is item))

pub copy_aggregates-loop-item-preserved : goal.copy_aggregates-loop-item-preserved
copy_aggregates-loop-item-preserved t c =
    let item = c.item-item.result in
    let same = aggregate_is _ ∙ ap (λ x.
    (x, c.in_ok-copy.field-0, option_map tree c.in_ok-copy_maybe.field-0)) c.in_ok-copy_ident.ensures
    ∙ ap₂ (λ n a. (item.var, n, a)) c.in_ok-copy.ensures c.in_ok-copy_maybe.ensures
    ∙ sym (aggregate_is item) in
    copied_more aggregate_part c.args.all.now c.loop-item.out _ c.loop-item.item-index item _
    c.loop-item.invariant
    c.loop-item-test.true c.item-item.is c.in_ok-push.ensures.ok same
