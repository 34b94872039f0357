use Rattle.std.proofs.Common.{map, drop}
use Rattle.std.specs.Prelude.{◌↔◌}
use Rattle.aql_tree.specs.View.{let_part}
use Rattle.aql_plan_check.specs.inner.Findings.{AreAmong}
use Rattle.aql_plan_check.specs.inner.Rows.{variables}
use Rattle.aql_plan_check.proofs.uses.groups_there.Given as goal

abbrev pub invariant-loop-group : goal.invariant-loop-group
invariant-loop-group l = AreAmong (variables l.rows.keys) (map (λ l. l.0) (map let_part (drop l.group-index l.groups)))
    ↔ AreAmong (variables l.rows.keys) (map (λ l. l.0) (map let_part l.groups))
