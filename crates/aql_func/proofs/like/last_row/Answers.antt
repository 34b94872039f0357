use Rattle.std.proofs.Common.{◌+◌, ◌++◌, ◌∷◌, [], false, drop, ap, sym, ◌∙◌, append_assoc}
use Rattle.aql_func.specs.inner.Pieces.{row_of}
use Rattle.aql_func.proofs.Steps.{left_values}
use Rattle.aql_func.proofs.like.last_row.Goals as goal

pub loop-c-preserved : goal.loop-c-preserved
loop-c-preserved c =
    let row = c.loop-c.row.items in
    let rest = row_of [] (drop (c.loop-c._c-index + 1) c.args.text.now) in
    ap (λ bs. bs ++ rest) c.in_ok-push.ensures.items ∙ append_assoc row (false ∷ []) rest
    ∙ ap (λ cs. row ++ row_of [] cs)
    (sym (left_values c.args.text.now c.loop-c._c-index c._c-item.result c.loop-c-test.true c._c-item.is))
    ∙ c.loop-c.invariant
