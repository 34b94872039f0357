use Rattle.std.proofs.Common.{◌≡◌, ◌∙◌, ◌+◌, List, Bool, true, false, sym, subst}
use Rattle.std.proofs.lemmas.List.{get_or_default}
use Rattle.aql_value.specs.declared.values.Value.{Value}
use Rattle.aql_block.proofs.Steps.{Sifted, sifted_kept, sifted_past}
use Rattle.aql_block.proofs.columns.keep.Goals as goal
use Rattle.aql_block.proofs.columns.keep.Goals.{then-mark, else-mark}

pub loop-at-preserved : goal.loop-at-preserved
loop-at-preserved c =
    let old = c.args.values.now.items in
    let marks = c.args.marks.now in
    let i = c.loop-at.at in
    let kept = c.loop-at.kept in
    let l = c.loop-at-test.true in
    elim c.if-mark.branch [
      | then-mark w ↦ rw (w.values-is, w.kept-is) (
        subst (λ (vs : List Value). Sifted old marks (i + 1) (kept + 1) vs) (sym w.swap.ensures.items)
            (sifted_kept old marks i kept c.loop-at.values.items c.loop-at.invariant.0 l c.requires
            (get_or_default marks i true _ l ∙ w.if-mark.true)),
        w.swap.ensures.capacity ∙ c.loop-at.invariant.1,
      )
      | else-mark w ↦ rw (w.values-is, w.kept-is) (
        sifted_past old marks i kept c.loop-at.values.items c.loop-at.invariant.0 l c.requires
            (get_or_default marks i false _ l ∙ w.if-mark.false),
        c.loop-at.invariant.1,
      )
    ]
