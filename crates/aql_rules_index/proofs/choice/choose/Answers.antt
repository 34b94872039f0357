use Rattle.std.proofs.Common.{◌∙◌, [], map, Option, None, ap, ap₂}
use Rattle.std.specs.Prelude.{option_map, unwrap_or}
use Rattle.aql_tree.specs.declared.syntax.Ident.TheVariants.{Num}
use Rattle.aql_tree.specs.View.{tree}
use Rattle.aql_plan.specs.declared.facts.CollFact.{CollFact}
use Rattle.aql_plan.specs.FirstPlan.{conjuncts}
use Rattle.aql_rewrite.specs.ExprView.{lent}
use Rattle.aql_rules_index.specs.Choice.{items_of, candidates_from}
use Rattle.aql_rules_index.specs.inner.Views.{item_tree}
use Rattle.aql_rules_index.specs.inner.Least.{best_of}
use Rattle.aql_rules_index.proofs.Used.{choice_is}
use Rattle.aql_rules_index.proofs.choice.choose.Goals as goal

pub returns : goal.returns
returns c =
    let facts = c.args.facts.now in
    let coll = c.args.coll.0 in
    let x = Num c.args.var in
    choice_is facts coll (items_of x (conjuncts (tree c.args.cond.now))) c.in_ok-best.best
    (c.in_ok-best.ensures ∙ ap₂ (λ fs is. best_of facts coll None (candidates_from 0 fs is))
    (c.as_slice-indexes.ensures
    ∙ ap (λ (o : Option CollFact). unwrap_or (option_map (λ (k : CollFact). k.indexes) o) []) c.in-Some.ensures)
    (ap (map item_tree) c.as_slice-2.ensures.value ∙ c.in_ok-items.ensures
    ∙ ap (items_of x) (ap (map lent) c.as_slice.ensures.value ∙ c.in_ok-parts.ensures)))
