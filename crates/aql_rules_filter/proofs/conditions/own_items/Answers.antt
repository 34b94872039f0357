use Rattle.std.proofs.Common.{◌≡◌, ◌∙◌, length, map, ap, ap₂, sym, subst}
use Rattle.std.proofs.lemmas.List.{length-map}
use Rattle.aql_tree.specs.declared.syntax.Expr as code
use Rattle.aql_tree.specs.Tree.{no_expr}
use Rattle.aql_tree.specs.View.{tree, link_part}
use Rattle.aql_rules_filter.specs.Conditions.{joined}
use Rattle.aql_rules_filter.proofs.Joining.{chain_form, one_part, alone, chain_alone}
use Rattle.aql_rules_filter.proofs.conditions.own_items.Goals as goal
use Rattle.aql_rules_filter.proofs.conditions.own_items.Goals.{in_default-via-in-Chain+else-len-eq0, in_default-via-in_default}

pub returns-in_default : goal.returns-in_default
returns-in_default c = elim c.in_default.branch [
  | in_default-via-in-Chain+else-len-eq0 w ↦
      let form = chain_form c.args.cond.now w.in-Chain.first w.in-Chain.rest w.in-Chain.is in
      let had = c.replace-in_default.ensures.value ∙ w.cond-is
      ∙ ap₂ code.Chain w.in-Chain.first-is w.in-Chain.rest-is ∙ sym w.in-Chain.is in
      ap tree had ∙ subst (λ e. e ≡ joined no_expr e) (sym form) (chain_alone (tree w.in-Chain.first.value)
      (map link_part w.in-Chain.rest) (λ e. w.if-len-eq0.false (w.len.ensures ∙ ap length w.in-Chain.rest-is
      ∙ sym (length-map w.in-Chain.rest link_part) ∙ ap length e)))
  | in_default-via-in_default w ↦
      ap tree (c.replace-in_default.ensures.value ∙ w.cond-is)
      ∙ alone (tree c.args.cond.now) (one_part c.args.cond.now w.in_default.not-Chain)
]
