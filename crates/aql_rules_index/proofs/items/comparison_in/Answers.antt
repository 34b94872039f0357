use Rattle.std.proofs.Common.{◌≡◌, ◌∙◌, length, map, ap, sym, arith}
use Rattle.std.proofs.lemmas.List.{length-map}
use Rattle.aql_tree.specs.View.{tree, link_part}
use Rattle.aql_rules_index.specs.Choice.{item_of}
use Rattle.aql_rules_index.proofs.ItemsFound.{chain_form, not_one_link}
use Rattle.aql_rules_index.proofs.items.comparison_in.Goals as goal
use Rattle.aql_rules_index.proofs.items.comparison_in.Goals.{in_default-as_slice-via-then-as_slice-lt1}
use Rattle.aql_rules_index.proofs.items.comparison_in.Goals.{in_default-as_slice-via-else-as_slice-lt1+else-this-lt2}

pub returns-in_default-as_slice : goal.returns-in_default-as_slice
returns-in_default-as_slice c =
    let other : length c.as_slice.result.now ≡ 1 → ⊥
    = elim c.in_default-as_slice.branch [
      | in_default-as_slice-via-then-as_slice-lt1 w ↦ (λ h. grind (arith, h))
      | in_default-as_slice-via-else-as_slice-lt1+else-this-lt2 w ↦ (λ h. grind (arith, h))
    ] in
    λ x. ap (item_of x) (chain_form c.args.expr.now c.in-Chain.first c.in-Chain.rest c.in-Chain.is)
    ∙ not_one_link (tree c.in-Chain.first.value) (map link_part c.in-Chain.rest)
    (λ h. other (ap length c.as_slice.ensures ∙ sym (length-map c.in-Chain.rest link_part) ∙ h)) x
