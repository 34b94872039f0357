use Rattle.std.proofs.Common.{drop}
use Rattle.std.specs.Prelude.{◌↔◌}
use Rattle.aql_plan.specs.View.{key_trees}
use Rattle.aql_plan_check.specs.inner.Findings.{AllFind}
use Rattle.aql_plan_check.specs.inner.Rows.{variables}
use Rattle.aql_plan_check.proofs.uses.keys_find.Given as goal

abbrev pub invariant-loop-key : goal.invariant-loop-key
invariant-loop-key l = AllFind (variables l.rows.keys) (key_trees (drop l.key-index l.keys))
    ↔ AllFind (variables l.rows.keys) (key_trees l.keys)
