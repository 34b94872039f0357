use Rattle.std.proofs.Common.{map, drop}
use Rattle.std.specs.Prelude.{◌↔◌}
use Rattle.aql_tree.specs.View.{key_part}
use Rattle.aql_plan_check.specs.inner.Sameness.{KeysSame}
use Rattle.aql_plan_check.proofs.equality.same_keys.Given as goal

abbrev pub invariant-loop-i : goal.invariant-loop-i
invariant-loop-i l = KeysSame (map key_part (drop l.i l.a)) (map key_part (drop l.i l.b))
    ↔ KeysSame (map key_part l.a) (map key_part l.b)
