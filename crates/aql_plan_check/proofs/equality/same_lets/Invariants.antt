use Rattle.std.proofs.Common.{map, drop}
use Rattle.std.specs.Prelude.{◌↔◌}
use Rattle.aql_tree.specs.View.{let_part}
use Rattle.aql_plan_check.specs.inner.Sameness.{LetsSame}
use Rattle.aql_plan_check.proofs.equality.same_lets.Given as goal

abbrev pub invariant-loop-i : goal.invariant-loop-i
invariant-loop-i l = LetsSame (map let_part (drop l.i l.a)) (map let_part (drop l.i l.b))
    ↔ LetsSame (map let_part l.a) (map let_part l.b)
