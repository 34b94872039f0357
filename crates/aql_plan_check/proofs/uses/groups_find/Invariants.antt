use Rattle.std.proofs.Common.{map, drop}
use Rattle.std.specs.Prelude.{◌↔◌}
use Rattle.aql_tree.specs.View.{trees, let_part}
use Rattle.aql_plan_check.specs.inner.Findings.{AllFind}
use Rattle.aql_plan_check.specs.inner.Rows.{variables}
use Rattle.aql_plan_check.proofs.uses.groups_find.Given as goal

abbrev pub invariant-loop-group : goal.invariant-loop-group
invariant-loop-group l = AllFind (variables l.rows.keys) (trees (map (λ l. l.1) (map let_part (drop l.group-index l.groups))))
    ↔ AllFind (variables l.rows.keys) (trees (map (λ l. l.1) (map let_part l.groups)))
