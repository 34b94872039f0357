use Rattle.std.proofs.Common.{◌≡◌, ◌+◌, ◌∷◌, ◌++◌, [], take, cond, not, Bool, true, false, ap, subst, ◌∙◌}
use Rattle.aql_value.specs.Datum.{Datum}
use Rattle.aql_value.specs.View.{datum_of, datums_in}
use Rattle.aql_value.specs.Contents.{is_in}
use Rattle.aql_func.specs.inner.Sieves.{sift}
use Rattle.aql_func.proofs.Steps.{done}
use Rattle.aql_func.specs.laws.Firsts.{sift_more, any_tree, sift_yes, sift_no}
use Rattle.aql_func.proofs.lists.sift_by.Goals as goal
use Rattle.aql_func.proofs.lists.sift_by.Goals.{then-contains-present+in_ok-append, else-contains-present}

pub loop-value-preserved : goal.loop-value-preserved
loop-value-preserved c =
    let vs = c.args.values.now in
    let i = c.loop-value.value-index in
    let x = c.value-item.result in
    let out = datums_in c.loop-value.out.items in
    let other = datums_in c.args.set.now.keys in
    let passes = λ (t : Datum). cond c.args.present (is_in other t) (not (is_in other t)) in
    let m = sift_more passes vs i x out
    (done vs i x c.loop-value-test.true c.value-item.is) c.loop-value.invariant in
    let k = c.contains.ensures ∙ any_tree x c.args.set.now.keys in
    let p = λ (b : Bool). λ (e : passes (datum_of x) ≡ b).
    subst (λ y. cond y (out ++ datum_of x ∷ []) out ≡ sift c.args.present other
    (datums_in (take (i + 1) vs))) e m in
    elim c.if-contains-present.branch [
      | then-contains-present+in_ok-append w ↦
          ap (λ o. datums_in o.items) w.out-is ∙ w.in_ok-append.ensures
          ∙ ap (λ l. out ++ datums_in l) w.from_ref.ensures.value
          ∙ p true (sift_yes _ _ w.if-contains-present.true _ k)
      | else-contains-present w ↦ ap (λ o. datums_in o.items) w.out-is
          ∙ p false (sift_no _ _ w.if-contains-present.false _ k)
    ]
