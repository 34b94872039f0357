use Rattle.std.proofs.Common.{◌≡◌, ◌+◌, drop}
use Rattle.aql_plan.specs.FirstPlan.{number_among}
use Rattle.aql_build.proofs.clauses.collection_index.Given as goal

abbrev pub invariant-loop-collection : goal.invariant-loop-collection
invariant-loop-collection l = (l.index ≡ l.collection-index)
    × (l.collection-index + number_among (drop l.collection-index l.collections) l.name
    ≡ number_among l.collections l.name)
