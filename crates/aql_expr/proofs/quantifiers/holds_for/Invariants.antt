use Rattle.std.proofs.Common.{◌≡◌, map, drop}
use Rattle.aql_value.specs.Truth.{truth}
use Rattle.aql_value.specs.Datum.{Datum}
use Rattle.aql_value.specs.View.{datum_of, datums_in}
use Rattle.aql_func.specs.Operators.{binary}
use Rattle.aql_meaning.specs.Expressions.{holds_for}
use Rattle.aql_expr.proofs.quantifiers.holds_for.Given as goal

abbrev pub invariant-loop-element : goal.invariant-loop-element
invariant-loop-element l =
    let holds = λ (e : Datum). truth (binary l.op e (datum_of l.right)) in
    holds_for l.kind (map holds (datums_in (drop l.element-index l.elements)))
    ≡ holds_for l.kind (map holds (datums_in l.elements))
