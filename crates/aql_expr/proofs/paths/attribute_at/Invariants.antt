use Rattle.std.proofs.Common.{◌≡◌, map, drop}
use Rattle.aql_value.specs.Datum.{Datum}
use Rattle.aql_value.specs.View.{datum_of}
use Rattle.aql_tree.specs.View.{step_part, steps}
use Rattle.aql_meaning.specs.Row.{Row}
use Rattle.aql_meaning.specs.Value.{steps_value}
use Rattle.aql_expr.specs.Paths.{are_names}
use Rattle.aql_expr.proofs.paths.attribute_at.Given as goal

abbrev pub invariant-loop-step : goal.invariant-loop-step
invariant-loop-step l =
    let left = steps (map step_part (drop l.step-index l.steps)) in
    let all = steps (map step_part l.steps) in
    (are_names left ≡ are_names all)
    × ((cur : Datum) (row : Row) → steps_value left cur row (datum_of l.value)
    ≡ steps_value all cur row (datum_of l.from))
