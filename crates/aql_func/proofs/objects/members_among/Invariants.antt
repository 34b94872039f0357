use Rattle.std.proofs.Common.{◌≡◌, take}
use Rattle.aql_value.specs.View.{datums_in}
use Rattle.aql_value.specs.Fields.{fields_in}
use Rattle.aql_func.specs.inner.Choices.{choose}
use Rattle.aql_func.proofs.objects.members_among.Given as goal

abbrev pub invariant-loop-member : goal.invariant-loop-member
invariant-loop-member l = l.out ≡ choose l.present (datums_in l.sought.keys)
    (fields_in (take l.member-index l.member-items))
