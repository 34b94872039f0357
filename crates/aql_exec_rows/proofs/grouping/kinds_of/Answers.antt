use Rattle.std.proofs.Common.{◌∙◌, ◌++◌, ◌∷◌, [], Some, ap, map, sym, subst}
use Rattle.std.specs.Prelude.{MatchOption}
use Rattle.std.proofs.lemmas.List.{map-append}
use Rattle.aql_plan.specs.Fits.{AllKnown, HasArgument}
use Rattle.aql_plan.specs.View.{maybe_tree}
use Rattle.aql_aggregate.specs.Staged.{staged}
use Rattle.aql_func.specs.Aggregates.{aggregate_named}
use Rattle.aql_exec_rows.specs.Settings.{in_stage}
use Rattle.aql_exec_rows.proofs.Parts.{aggregates_here, named_here, one_more_of}
use Rattle.aql_exec_rows.proofs.grouping.kinds_of.Goals.{in-Some+in_ok-push, in_default}
use Rattle.aql_exec_rows.proofs.grouping.kinds_of.Goals as goal

pub loop-item-preserved : goal.loop-item-preserved
loop-item-preserved c all =
    let x = c.item-item.result in
    let kinds = c.loop-item.kinds.items in
    let before = c.loop-item.invariant all in
    let here = aggregates_here c.args.aggregates.now c.loop-item.item-index x c.item-item.is c.loop-item-test.true in
    let known = subst AllKnown here before.0 in
    let name = ap aggregate_named c.as_str.ensures in
    elim c.match-aggregate_kind.branch [
      | in-Some+in_ok-push w ↦
          let pushed = ap (map (λ k. Some (staged k))) w.in_ok-push.ensures.items
          ∙ map-append (λ k. Some (staged k)) kinds _
          ∙ ap (λ o. map (λ k. Some (staged k)) kinds ++ o ∷ [])
          (ap (in_stage c.args.stage) (w.in-Some.ensures ∙ name)) in
          rw w.kinds-is (
            known.1,
            one_more_of (map (λ k. Some (staged k)) kinds) _ _ _ _ _
                (named_here c.args.stage c.args.aggregates.now c.loop-item.item-index x c.item-item.is
                c.loop-item-test.true) pushed before.1,
          )
      | in_default w ↦ absurd (subst (λ o. MatchOption o ⊥ (λ a. HasArgument a (maybe_tree x.arg)))
          (sym (w.in_default.ensures ∙ name)) known.0)
    ]
