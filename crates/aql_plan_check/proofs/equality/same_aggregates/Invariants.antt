use Rattle.std.proofs.Common.{map, drop}
use Rattle.std.specs.Prelude.{◌↔◌}
use Rattle.aql_tree.specs.View.{aggregate_part}
use Rattle.aql_plan_check.specs.inner.Sameness.{AggregatesSame}
use Rattle.aql_plan_check.proofs.equality.same_aggregates.Given as goal

abbrev pub invariant-loop-i : goal.invariant-loop-i
invariant-loop-i l = AggregatesSame (map aggregate_part (drop l.i l.a)) (map aggregate_part (drop l.i l.b))
    ↔ AggregatesSame (map aggregate_part l.a) (map aggregate_part l.b)
