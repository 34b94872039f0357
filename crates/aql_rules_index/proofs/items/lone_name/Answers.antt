use Rattle.std.proofs.Common.{◌≡◌, ◌∙◌, length, map, sym, arith}
use Rattle.std.proofs.lemmas.List.{length-map}
use Rattle.aql_tree.specs.View.{step_part}
use Rattle.aql_rules_index.proofs.ItemsFound.{not_one_step}
use Rattle.aql_rules_index.proofs.items.lone_name.Goals as goal
use Rattle.aql_rules_index.proofs.items.lone_name.Goals.{in_default-via-then-all-lt1}
use Rattle.aql_rules_index.proofs.items.lone_name.Goals.{in_default-via-else-all-lt1+else-all-lt2}

pub returns-in_default : goal.returns-in_default
returns-in_default c =
    let other : length c.args.all.now ≡ 1 → ⊥
    = elim c.in_default.branch [
      | in_default-via-then-all-lt1 w ↦ (λ h. grind (arith, h))
      | in_default-via-else-all-lt1+else-all-lt2 w ↦ (λ h. grind (arith, h))
    ] in
    sym (not_one_step (map step_part c.args.all.now) (λ h. other (sym (length-map c.args.all.now step_part) ∙ h)))
