use Rattle.std.proofs.Common.{map, drop}
use Rattle.std.specs.Prelude.{◌↔◌}
use Rattle.std.specs.List.{AllByRecursion}
use Rattle.aql_value.specs.declared.lists.CollNo.{CollNo}
use Rattle.aql_plan.specs.Fits.{IsEdgeCollection}
use Rattle.aql_plan_check.proofs.collections.are_edge_collections.Given as goal

abbrev pub invariant-loop-coll : goal.invariant-loop-coll
invariant-loop-coll l =
    AllByRecursion (IsEdgeCollection l.facts) (map (λ (c : CollNo). c.0) (drop l.coll-index l.all))
    ↔ AllByRecursion (IsEdgeCollection l.facts) (map (λ (c : CollNo). c.0) l.all)
