use Rattle.std.proofs.Common.{◌≡◌, ◌+◌, length, drop}
use Rattle.std.specs.Prelude.{◌↔◌}
use Rattle.std.specs.List.{AllByRecursion}
use Rattle.aql_plan.specs.declared.facts.IndexFact.{IndexFact}
use Rattle.aql_plan_check.proofs.collections.widths_fit.Given as goal

abbrev pub invariant-loop-index : goal.invariant-loop-index
invariant-loop-index l =
    AllByRecursion (λ (i : IndexFact). length i.widths ≡ length i.attributes + 1) (drop l.index-index l.indexes)
    ↔ AllByRecursion (λ (i : IndexFact). length i.widths ≡ length i.attributes + 1) l.indexes
