use Rattle.std.proofs.Common.{◌≡◌, map, drop}
use Rattle.aql_tree.specs.View.{tree, trees, members, steps, links, aggregates, clauses, clause_tree}
use Rattle.aql_tree.specs.View.{member_part, step_part, link_part, key_part, let_part, aggregate_part}
use Rattle.aql_meaning.specs.Visible.{onto, aggregate_vars}
use Rattle.aql_scope.specs.Numbering.{idents}
use Rattle.aql_scope.specs.Options.{no_settings}
use Rattle.aql_scope.specs.Faults as spec
use Rattle.aql_scope.specs.Contexts.{context_of, context_within}
use Rattle.aql_scope.proofs.+faults.Given as goal

-- What was passed has no fault: the first fault of all is that of the rest.

abbrev pub invariant-expr_faults::in_exprs-loop-expr : goal.invariant-expr_faults::in_exprs-loop-expr
invariant-expr_faults::in_exprs-loop-expr l =
    spec.in_exprs (context_of l.at) (trees (map tree l.exprs))
    ≡ spec.in_exprs (context_of l.at) (trees (map tree (drop l.expr-index l.exprs)))

abbrev pub invariant-expr_faults::in_members-loop-field : goal.invariant-expr_faults::in_members-loop-field
invariant-expr_faults::in_members-loop-field l =
    spec.in_members (context_of l.at) (members (map member_part l.fields))
    ≡ spec.in_members (context_of l.at) (members (map member_part (drop l.field-index l.fields)))

abbrev pub invariant-expr_faults::in_steps-loop-step : goal.invariant-expr_faults::in_steps-loop-step
invariant-expr_faults::in_steps-loop-step l =
    spec.in_steps (context_of l.at) (steps (map step_part l.all))
    ≡ spec.in_steps (context_of l.at) (steps (map step_part (drop l.step-index l.all)))

abbrev pub invariant-expr_faults::in_links-loop-link : goal.invariant-expr_faults::in_links-loop-link
invariant-expr_faults::in_links-loop-link l =
    spec.in_links (context_of l.at) (links (map link_part l.all))
    ≡ spec.in_links (context_of l.at) (links (map link_part (drop l.link-index l.all)))

abbrev pub invariant-clause_faults::in_query-loop-clause : goal.invariant-clause_faults::in_query-loop-clause
invariant-clause_faults::in_query-loop-clause l =
    let opening = spec.within_subquery (context_of l.at) in
    let here = context_within l.at l.scope in
    let all = clauses (map clause_tree l.query.clauses) in
    let rest = clauses (map clause_tree (drop l.clause-index l.query.clauses)) in
    (spec.in_clauses opening all ≡ spec.in_clauses here rest)
    × (spec.after_clauses all opening ≡ spec.after_clauses rest here)

abbrev pub invariant-clause_faults::in_keys-loop-key : goal.invariant-clause_faults::in_keys-loop-key
invariant-clause_faults::in_keys-loop-key l =
    spec.in_exprs (context_of l.at) (trees (map (λ k. k.0) (map key_part l.keys)))
    ≡ spec.in_exprs (context_of l.at) (trees (map (λ k. k.0) (map key_part (drop l.key-index l.keys))))

abbrev pub invariant-clause_faults::in_criteria-loop-group
    : goal.invariant-clause_faults::in_criteria-loop-group
invariant-clause_faults::in_criteria-loop-group l =
    let all = map let_part l.groups in
    let rest = map let_part (drop l.group-index l.groups) in
    (spec.in_criteria (context_of l.at) (idents l.fn.earlier) (map (λ p. p.0) all)
    (trees (map (λ p. p.1) all))
    ≡ spec.in_criteria (context_of l.at) (idents l.earlier) (map (λ p. p.0) rest)
    (trees (map (λ p. p.1) rest)))
    × (onto (map (λ p. p.0) all) (idents l.fn.earlier) ≡ onto (map (λ p. p.0) rest) (idents l.earlier))

abbrev pub invariant-clause_faults::in_aggregates-loop-item
    : goal.invariant-clause_faults::in_aggregates-loop-item
invariant-clause_faults::in_aggregates-loop-item l =
    let all = aggregates (map aggregate_part l.all) in
    let rest = aggregates (map aggregate_part (drop l.item-index l.all)) in
    (spec.in_aggregates (context_of l.at) (idents l.fn.earlier) all
    ≡ spec.in_aggregates (context_of l.at) (idents l.earlier) rest)
    × (onto (aggregate_vars all) (idents l.fn.earlier) ≡ onto (aggregate_vars rest) (idents l.earlier))

abbrev pub invariant-option_faults::in_options-loop-setting
    : goal.invariant-option_faults::in_options-loop-setting
invariant-option_faults::in_options-loop-setting l =
    spec.in_settings (context_of l.at) no_settings (members (map member_part l.settings))
    ≡ spec.in_settings (context_of l.at) l.written
    (members (map member_part (drop l.setting-index l.settings)))
