use Rattle.std.proofs.Common.{◌≡◌, take}
use Rattle.aql_value.specs.Fields.{fields_in}
use Rattle.aql_func.specs.Objects.{with_all}
use Rattle.aql_func.proofs.objects.set_all.Given as goal

abbrev pub invariant-loop-attribute : goal.invariant-loop-attribute
invariant-loop-attribute l = l.out ≡ with_all l.initial.out
    (fields_in (take l.attribute-index l.attribute-items))
