use Rattle.std.proofs.Common.{map, drop}
use Rattle.aql_tree.specs.View.{let_part}
use Rattle.aql_plan_check.specs.inner.Rows.{AreNumbers}
use Rattle.aql_plan_check.proofs.SameVariables.{AddsLeft}
use Rattle.aql_plan_check.proofs.rows.add_groups.Given as goal

abbrev pub invariant-loop-group : goal.invariant-loop-group
invariant-loop-group l = record {
  rest : AreNumbers (map (λ l. l.0) (map let_part (drop l.group-index l.groups)));
  done : AddsLeft l.initial.rows.keys (map (λ l. l.0) (map let_part l.groups))
      l.rows.keys (map (λ l. l.0) (map let_part (drop l.group-index l.groups)));
}
