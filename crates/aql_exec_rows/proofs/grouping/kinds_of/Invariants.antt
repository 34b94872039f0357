use Rattle.std.proofs.Common.{◌≡◌, ◌++◌, Some, map, drop}
use Rattle.aql_plan.specs.Fits.{AllKnown}
use Rattle.aql_aggregate.specs.Staged.{staged}
use Rattle.aql_exec_rows.specs.Settings.{aggregate_trees}
use Rattle.aql_exec_rows.proofs.Parts.{named}
use Rattle.aql_exec_rows.proofs.grouping.kinds_of.Given as goal

-- with the names that are left the aggregates so far are those of all names, where all are known
abbrev pub invariant-loop-item : goal.invariant-loop-item
invariant-loop-item l = AllKnown (aggregate_trees l.aggregates)
    → AllKnown (aggregate_trees (drop l.item-index l.aggregates))
    × (map (λ k. Some (staged k)) l.kinds.items ++ named l.stage (drop l.item-index l.aggregates)
    ≡ named l.stage l.aggregates)
