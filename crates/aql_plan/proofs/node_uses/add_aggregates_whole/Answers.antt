use Rattle.std.proofs.Common.{◌∙◌, ◌∷◌, [], ◌++◌, ◌+◌, List, map, drop, refl, ap}
use Rattle.std.proofs.lemmas.List.{map-append}
use Rattle.aql_tree.specs.View.{aggregates, aggregate_part, AggregatePart}
use Rattle.aql_tree.specs.declared.syntax.AggregateItem.{AggregateItem}
use Rattle.aql_tree.specs.laws.Parts.{aggregate_is}
use Rattle.aql_meaning.specs.Uses.{Uses, Whole}
use Rattle.aql_meaning.specs.Visible.{aggregate_vars}
use Rattle.aql_plan.specs.Needs.{as_wholes}
use Rattle.aql_plan.specs.Used.{use_tree, uses_tree}
use Rattle.aql_plan.proofs.Appended.{one_passed, all_passed}
use Rattle.aql_plan.proofs.node_uses.add_aggregates_whole.Goals as goal

abbrev rest : List AggregateItem → Uses
rest = λ gs. as_wholes (aggregate_vars (aggregates (map aggregate_part gs)))

pub loop-aggregate-preserved : goal.loop-aggregate-preserved
loop-aggregate-preserved c =
    let item = c.aggregate-item.result in
    let before = uses_tree c.loop-aggregate.to in
    let after = rest (drop (c.loop-aggregate.aggregate-index + 1) c.args.all.now) in
    one_passed rest c.args.all.now c.loop-aggregate.aggregate-index item before _ (Whole item.var ∷ []) _
    c.loop-aggregate-test.true c.aggregate-item.is
    (ap (λ (p : AggregatePart). Whole p.0 ∷ after) (aggregate_is item))
    (ap uses_tree c.in_ok-push.ensures.ok ∙ map-append use_tree c.loop-aggregate.to _
    ∙ ap (λ x. before ++ Whole x ∷ []) c.in_ok-copy_ident.ensures)
    c.loop-aggregate.invariant

pub returns : goal.returns
returns c =
    all_passed rest c.args.all.now c.loop-aggregate.aggregate-index _ _ c.loop-aggregate-test.false refl
    c.loop-aggregate.invariant
