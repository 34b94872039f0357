use Rattle.std.proofs.Common.{◌≡◌, map, take}
use Rattle.std.specs.Prelude.{flat_map, List}
use Rattle.aql_value.specs.Datum.{Datum}
use Rattle.aql_value.specs.View.{datums_in}
use Rattle.aql_value.specs.Contents.{elements}
use Rattle.aql_func.proofs.sets.gather.Given as goal

abbrev pub invariant-loop-list : goal.invariant-loop-list
invariant-loop-list l = datums_in l.out.items ≡ flat_map (λ (ts : List Datum). ts)
    (map elements (datums_in (take l.list-index l.lists)))
