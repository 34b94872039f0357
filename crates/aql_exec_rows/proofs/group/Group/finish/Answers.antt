use Rattle.std.proofs.Common.{◌≡◌, ◌∙◌, ◌++◌, ◌∷◌, [], length, drop, ap, sym, subst}
use Rattle.std.proofs.lemmas.List.{map-append}
use Rattle.aql_value.specs.View.{datum_of, datums_in}
use Rattle.aql_exec_rows.proofs.Keeping.{Values, value_more, next_left}
use Rattle.aql_exec_rows.proofs.group.Group.finish.Goals as goal

pub loop-accumulator-preserved : goal.loop-accumulator-preserved
loop-accumulator-preserved c =
    let all = c.args.self.accumulators.items in
    let values = c.loop-accumulator.aggregates.items in
    let vs = datums_in values in
    let value = c.in_ok-finish.field-0 in
    let a = c.in-Some.accumulator in
    let rest = c.next.new.self.rest.items in
    let before = c.loop-accumulator.invariant in
    let step : drop (length vs) all ≡ a ∷ rest = before.left ∙ c.in-Some.ensures.steps.0 in
    let pushed : datums_in c.push.new.self.items ≡ vs ++ datum_of value ∷ [] =
    ap datums_in c.in_ok-push.ensures.items ∙ map-append datum_of values (value ∷ []) in
    record {
      left = ap (λ ts. drop (length ts) all) pushed ∙ next_left all vs a (datum_of value) rest step;
      values = λ kinds members kept l. subst (λ ts. Values ts kinds members) (sym pushed)
          (value_more all vs a (datum_of value) rest step c.in_ok-finish.ensures kinds members kept l
          (before.values kinds members kept l));
    }
