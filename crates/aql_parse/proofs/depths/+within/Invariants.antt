use Rattle.std.proofs.Common.{◌≡◌, map, drop}
use Rattle.aql_tree.specs.View.{tree, trees, members, steps, links, clauses, aggregates, clause_tree}
use Rattle.aql_tree.specs.View.{step_part, member_part, link_part, key_part, let_part, aggregate_part}
use Rattle.aql_parse.specs.Within.{exprs_within, members_within, steps_within, links_within}
use Rattle.aql_parse.specs.Within.{aggregates_within, clauses_within}
use Rattle.aql_parse.proofs.depths.+within.Given as goal

abbrev pub invariant-exprs_within-loop-first : goal.invariant-exprs_within-loop-first
invariant-exprs_within-loop-first l = exprs_within l.most (trees (map tree l.exprs))
    ≡ exprs_within l.most (trees (map tree (drop l.first-index l.exprs)))

abbrev pub invariant-members_within-loop-first : goal.invariant-members_within-loop-first
invariant-members_within-loop-first l = members_within l.most (members (map member_part l.fields))
    ≡ members_within l.most (members (map member_part (drop l.first-index l.fields)))

abbrev pub invariant-steps_within-loop-first : goal.invariant-steps_within-loop-first
invariant-steps_within-loop-first l = steps_within l.most (steps (map step_part l.all))
    ≡ steps_within l.most (steps (map step_part (drop l.first-index l.all)))

abbrev pub invariant-links_within-loop-first : goal.invariant-links_within-loop-first
invariant-links_within-loop-first l = links_within l.most (links (map link_part l.all))
    ≡ links_within l.most (links (map link_part (drop l.first-index l.all)))

abbrev pub invariant-keys_within-loop-first : goal.invariant-keys_within-loop-first
invariant-keys_within-loop-first l = exprs_within l.most (trees (map (λ k. k.0) (map key_part l.keys)))
    ≡ exprs_within l.most (trees (map (λ k. k.0) (map key_part (drop l.first-index l.keys))))

abbrev pub invariant-lets_within-loop-first : goal.invariant-lets_within-loop-first
invariant-lets_within-loop-first l = exprs_within l.most (trees (map (λ l. l.1) (map let_part l.lets)))
    ≡ exprs_within l.most (trees (map (λ l. l.1) (map let_part (drop l.first-index l.lets))))

abbrev pub invariant-aggregates_within-loop-first : goal.invariant-aggregates_within-loop-first
invariant-aggregates_within-loop-first l = aggregates_within l.most (aggregates (map aggregate_part l.all))
    ≡ aggregates_within l.most (aggregates (map aggregate_part (drop l.first-index l.all)))

abbrev pub invariant-clauses_within-loop-first : goal.invariant-clauses_within-loop-first
invariant-clauses_within-loop-first l = clauses_within l.most (clauses (map clause_tree l.all))
    ≡ clauses_within l.most (clauses (map clause_tree (drop l.first-index l.all)))
