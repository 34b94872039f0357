use Rattle.std.proofs.Common.{◌-◌, ◌∷◌, ◌++◌, [], ap, sym, ◌∙◌}
use Rattle.aql_value.specs.View.{datum_of}
use Rattle.aql_func.specs.Lists.{flatten}
use Rattle.aql_func.proofs.Steps.{done}
use Rattle.aql_func.proofs.Flat.{flat_more, flat_alone, flat_array, flat_none}
use Rattle.aql_func.proofs.lists.+flatten_into.Goals as goal
use Rattle.aql_func.proofs.lists.+flatten_into.Goals.{in-List+in_ok-flatten_into-in-List, in_default+in_ok-copy-in_default+in_ok-push-in_default, in_default-via-in-List+else-depth-gt0, in_default-via-in_default}

pub loop-value-preserved : goal.loop-value-preserved
loop-value-preserved t c =
    let d = c.args.depth in
    let x = c.value-item.result in
    let vs = c.args.values.now in
    let i = c.loop-value.value-index in
    let more = flat_more d vs i x c.args.out.now c.loop-value.out c.match-value.out
    (done vs i x c.loop-value-test.true c.value-item.is) c.loop-value.invariant in
    more (elim c.match-value.branch [
      | in-List+in_ok-flatten_into-in-List w ↦
          w.out-is ∙ w.in_ok-flatten_into-in-List.ensures ∙ ap (λ l. c.loop-value.out ++ l)
          (ap (flatten (d - 1)) w.as_slice.ensures ∙ sym (flat_array d w.in-List.list w.if-depth-gt0.true)
          ∙ ap (λ v. flatten d (datum_of v ∷ [])) (sym w.in-List.is))
      | in_default+in_ok-copy-in_default+in_ok-push-in_default w ↦
          w.out-is ∙ w.in_ok-push-in_default.ensures.ok
          ∙ ap (λ t. c.loop-value.out ++ t ∷ []) w.in_ok-copy-in_default.ensures
          ∙ ap (λ l. c.loop-value.out ++ l) (sym
          (elim w.in_default.branch [
            | in_default-via-in-List+else-depth-gt0 v ↦ flat_none d (datum_of x) v.if-depth-gt0.false
            | in_default-via-in_default v ↦ flat_alone d x v.in_default.not-List
          ]))
    ])
