use Rattle.std.proofs.Common.{◌≡◌, ◌∙◌, length, map, sym, arith}
use Rattle.std.proofs.lemmas.List.{length-map}
use Rattle.aql_tree.specs.View.{tree, link_part}
use Rattle.aql_rules_calc.proofs.Chains.{not_one}
use Rattle.aql_rules_calc.proofs.replace_or_with_in.operation_in.Goals as goal
use Rattle.aql_rules_calc.proofs.replace_or_with_in.operation_in.Goals.{in_default-via-then-found-lt1}
use Rattle.aql_rules_calc.proofs.replace_or_with_in.operation_in.Goals.{in_default-via-else-found-lt1+else-this-lt2}

pub returns-in_default : goal.returns-in_default
returns-in_default c =
    let other : length c.in-Some.found.rest.now ≡ 1 → ⊥
    = elim c.in_default.branch [
      | in_default-via-then-found-lt1 w ↦ (λ h. grind (arith, h))
      | in_default-via-else-found-lt1+else-this-lt2 w ↦ (λ h. grind (arith, h))
    ] in
    not_one (tree c.args.expr.now) (tree c.in-Some.found.first.now) (map link_part c.in-Some.found.rest.now)
    c.in-Some.ensures (λ h. other (sym (length-map c.in-Some.found.rest.now link_part) ∙ h))
