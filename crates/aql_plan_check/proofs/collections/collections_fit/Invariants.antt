use Rattle.std.proofs.Common.{drop}
use Rattle.std.specs.Prelude.{◌↔◌}
use Rattle.std.specs.List.{AllByRecursion}
use Rattle.aql_plan.specs.WellFormed.{CollectionFits}
use Rattle.aql_plan_check.proofs.collections.collections_fit.Given as goal

abbrev pub invariant-loop-known : goal.invariant-loop-known
invariant-loop-known l = AllByRecursion CollectionFits (drop l.known-index l.all)
    ↔ AllByRecursion CollectionFits l.all
