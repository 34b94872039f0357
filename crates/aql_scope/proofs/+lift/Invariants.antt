use Rattle.std.proofs.Common.{◌≡◌, [], map, drop, take}
use Rattle.aql_tree.specs.Tree.{expr_then}
use Rattle.aql_tree.specs.View.{tree, trees, members, steps, links, clauses, clause_tree}
use Rattle.aql_tree.specs.View.{member_part, step_part, link_part, key_part, let_part, aggregate_part}
use Rattle.aql_scope.specs.Lifting as spec
use Rattle.aql_scope.specs.Lifts.{progress, visible, member_then, step_then}
use Rattle.aql_scope.specs.laws.Turns.{Goes, Unvisited}
use Rattle.aql_scope.proofs.Parts.{link_part_then, key_then, let_then, aggregate_part_then}
use Rattle.aql_scope.proofs.Queries.{GoesOn}
use Rattle.aql_scope.proofs.Groups.{criteria_of, enter_criteria, aggregates_of, enter_aggregates}
use Rattle.aql_scope.proofs.+lift.Given as goal

-- The whole is what was lifted of it, and the rest from here on.

abbrev pub invariant-lift_exprs::lift_all-loop-expr : goal.invariant-lift_exprs::lift_all-loop-expr
invariant-lift_exprs::lift_all-loop-expr l =
    Goes tree expr_then (λ n es. spec.exprs (visible l.scope) n (trees es)) l.fn.exprs
    (progress l.fn.walk.lets l.fn.walk.numbers) l.expr-index (take l.expr-index l.items)
    (progress l.walk.lets l.walk.numbers)
    × Unvisited l.fn.exprs l.expr-index l.items

abbrev pub invariant-lift_exprs::lift_members-loop-field : goal.invariant-lift_exprs::lift_members-loop-field
invariant-lift_exprs::lift_members-loop-field l =
    Goes member_part member_then (λ n ms. spec.members (visible l.scope) n (members ms)) l.fn.fields
    (progress l.fn.walk.lets l.fn.walk.numbers) l.field-index (take l.field-index l.items)
    (progress l.walk.lets l.walk.numbers)
    × Unvisited l.fn.fields l.field-index l.items

abbrev pub invariant-lift_exprs::lift_steps-loop-step : goal.invariant-lift_exprs::lift_steps-loop-step
invariant-lift_exprs::lift_steps-loop-step l =
    Goes step_part step_then (λ n ss. spec.steps (visible l.scope) n (steps ss)) l.fn.all
    (progress l.fn.walk.lets l.fn.walk.numbers) l.step-index (take l.step-index l.items)
    (progress l.walk.lets l.walk.numbers)
    × Unvisited l.fn.all l.step-index l.items

abbrev pub invariant-lift_exprs::lift_links-loop-link : goal.invariant-lift_exprs::lift_links-loop-link
invariant-lift_exprs::lift_links-loop-link l =
    Goes link_part link_part_then (λ n ls. spec.links (visible l.scope) n (links ls)) l.fn.all
    (progress l.fn.walk.lets l.fn.walk.numbers) l.link-index (take l.link-index l.items)
    (progress l.walk.lets l.walk.numbers)
    × Unvisited l.fn.all l.link-index l.items

abbrev pub invariant-lift_clauses::lift_keys-loop-key : goal.invariant-lift_clauses::lift_keys-loop-key
invariant-lift_clauses::lift_keys-loop-key l =
    Goes key_part key_then (λ n ks. spec.exprs (visible l.scope) n (trees (map (λ k. k.0) ks))) l.fn.keys
    (progress l.fn.walk.lets l.fn.walk.numbers) l.key-index (take l.key-index l.items)
    (progress l.walk.lets l.walk.numbers)
    × Unvisited l.fn.keys l.key-index l.items
    × (map (λ k. k.1) (map key_part l.items) ≡ map (λ k. k.1) (map key_part l.fn.keys))

abbrev pub invariant-lift_clauses::lift_query-loop-clause : goal.invariant-lift_clauses::lift_query-loop-clause
invariant-lift_clauses::lift_query-loop-clause l =
    GoesOn (spec.clauses (visible l.around) [] l.fn.walk.numbers.next (clauses (map clause_tree l.fn.query.clauses)))
    l.fn.walk.numbers.said
    (spec.clauses (visible l.around) l.scope.own l.walk.numbers.next
    (clauses (map clause_tree (drop l.clause-index l.fn.query.clauses))))
    (progress l.walk.lets l.walk.numbers)
    × (l.scope.outer ≡ visible l.around) × Unvisited l.fn.query.clauses l.clause-index l.clauses

abbrev pub invariant-lift_collect::lift_criteria-loop-group
    : goal.invariant-lift_collect::lift_criteria-loop-group
invariant-lift_collect::lift_criteria-loop-group l =
    Goes let_part let_then (criteria_of (visible l.scope)) l.fn.groups
    (progress l.fn.walk.lets l.fn.walk.numbers) l.group-index (take l.group-index l.items)
    (progress l.walk.lets l.walk.numbers)
    × Unvisited l.fn.groups l.group-index l.items
    × (enter_criteria (visible l.scope) l.fn.walk.numbers.next (map let_part l.fn.groups) l.fn.own
    ≡ enter_criteria (visible l.scope) l.walk.numbers.next (map let_part (drop l.group-index l.fn.groups)) l.own)

abbrev pub invariant-lift_collect::lift_aggregates-loop-item
    : goal.invariant-lift_collect::lift_aggregates-loop-item
invariant-lift_collect::lift_aggregates-loop-item l =
    Goes aggregate_part aggregate_part_then (aggregates_of (visible l.scope)) l.fn.all
    (progress l.fn.walk.lets l.fn.walk.numbers) l.item-index (take l.item-index l.items)
    (progress l.walk.lets l.walk.numbers)
    × Unvisited l.fn.all l.item-index l.items
    × (enter_aggregates (visible l.scope) l.fn.walk.numbers.next (map aggregate_part l.fn.all) l.fn.own
    ≡ enter_aggregates (visible l.scope) l.walk.numbers.next (map aggregate_part (drop l.item-index l.fn.all))
    l.own)
