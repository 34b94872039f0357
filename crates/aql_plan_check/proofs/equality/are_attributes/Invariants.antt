use Rattle.std.proofs.Common.{drop}
use Rattle.std.specs.Prelude.{◌↔◌}
use Rattle.aql_plan_check.specs.inner.Sameness.{AreAttributes}
use Rattle.aql_plan_check.proofs.equality.are_attributes.Given as goal

abbrev pub invariant-loop-i : goal.invariant-loop-i
invariant-loop-i l = AreAttributes (drop l.i l.keys) l.var (drop l.i l.names) l.descending
    ↔ AreAttributes l.keys l.var l.names l.descending
