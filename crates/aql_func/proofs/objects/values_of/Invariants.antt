use Rattle.std.proofs.Common.{◌≡◌, ℕ, List, map, take}
use Rattle.aql_value.specs.Datum.{Datum}
use Rattle.aql_value.specs.Fields.{fields_in}
use Rattle.aql_func.proofs.objects.values_of.Given as goal

abbrev pub invariant-loop-member : goal.invariant-loop-member
invariant-loop-member l = l.out ≡ map (λ (f : List ℕ × Datum). f.1)
    (fields_in (take l.member-index l.member-items))
