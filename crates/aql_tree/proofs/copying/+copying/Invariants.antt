use Rattle.std.proofs.Common.{◌≡◌, map, take}
use Rattle.aql_tree.specs.View.{tree, clause_tree, step_part, member_part, link_part, key_part, let_part, aggregate_part}
use Rattle.aql_tree.proofs.copying.+copying.Given as goal

abbrev pub invariant-copy_exprs-loop-item : goal.invariant-copy_exprs-loop-item
invariant-copy_exprs-loop-item l = map tree l.out ≡ map tree (take l.item-index l.all)

abbrev pub invariant-copy_fields-loop-item : goal.invariant-copy_fields-loop-item
invariant-copy_fields-loop-item l = map member_part l.out ≡ map member_part (take l.item-index l.all)

abbrev pub invariant-copy_steps-loop-item : goal.invariant-copy_steps-loop-item
invariant-copy_steps-loop-item l = map step_part l.out ≡ map step_part (take l.item-index l.all)

abbrev pub invariant-copy_links-loop-item : goal.invariant-copy_links-loop-item
invariant-copy_links-loop-item l = map link_part l.out ≡ map link_part (take l.item-index l.all)

abbrev pub invariant-copy_keys-loop-item : goal.invariant-copy_keys-loop-item
invariant-copy_keys-loop-item l = map key_part l.out ≡ map key_part (take l.item-index l.all)

abbrev pub invariant-copy_lets-loop-item : goal.invariant-copy_lets-loop-item
invariant-copy_lets-loop-item l = map let_part l.out ≡ map let_part (take l.item-index l.all)

abbrev pub invariant-copy_aggregates-loop-item : goal.invariant-copy_aggregates-loop-item
invariant-copy_aggregates-loop-item l =
    map aggregate_part l.out ≡ map aggregate_part (take l.item-index l.all)

abbrev pub invariant-copy_clauses-loop-item : goal.invariant-copy_clauses-loop-item
invariant-copy_clauses-loop-item l = map clause_tree l.out ≡ map clause_tree (take l.item-index l.all)
