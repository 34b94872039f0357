use Rattle.std.proofs.Common.{◌≡◌, ap, ◌∙◌}
use Rattle.aql_value.specs.laws.Kept.{items_pushed}
use Rattle.aql_value.proofs.values.Items.push.Goals as goal
use Rattle.aql_value.proofs.values.Items.push.Goals.{then-is_empty+in_ok-reserve_exact, else-is_empty}

pub invariant_of-self-2 : goal.invariant_of-self-2
invariant_of-self-2 c =
    let same : c.if-is_empty.self-inside.items.items ≡ c.self.inside.items.items = elim c.if-is_empty.branch [
      | then-is_empty+in_ok-reserve_exact w ↦ ap (λ i. i.items.items) w.self-inside-is
          ∙ w.in_ok-reserve_exact.ensures.items
      | else-is_empty w ↦ ap (λ i. i.items.items) w.self-inside-is
    ] in
    rw (c.in_ok-push.ensures.items, same) (items_pushed _ _ c.self.invariant c.recall_well_formed.ensures)
