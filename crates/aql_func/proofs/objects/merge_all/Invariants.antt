use Rattle.std.proofs.Common.{◌≡◌, ℕ, List, drop, cond, fold}
use Rattle.std.specs.List.{list_all}
use Rattle.aql_value.specs.Datum.{Datum, null}
use Rattle.aql_value.specs.View.{datums_in}
use Rattle.aql_value.specs.Contents.{record_of, attributes}
use Rattle.aql_func.specs.Arguments.{is_object}
use Rattle.aql_func.specs.Objects.{merge, with_all}
use Rattle.aql_func.proofs.objects.merge_all.Given as goal

abbrev pub invariant-loop-value : goal.invariant-loop-value
invariant-loop-value l =
    cond (list_all is_object (datums_in (drop l.value-index l.values)))
    (record_of (fold (λ (fs : List (List ℕ × Datum)) t. with_all fs (attributes t)) l.out
    (datums_in (drop l.value-index l.values)))) null ≡ merge (datums_in l.values)
