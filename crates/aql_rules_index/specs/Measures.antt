-- What falls with each application of a rule, beside the number of nodes, so that its pass ends; no rule's
-- meaning rests on it.
use Rattle.std.specs.Prelude.{ℕ}
use Rattle.aql_plan.specs.Plan.{Node, EnumerateCollection, Filter}
use Rattle.aql_rewrite.specs.Size.{size}

-- use-indexes: the EnumerateCollections
abbrev pub is_enumeration : Node → ℕ
is_enumeration (EnumerateCollection x) = 1
is_enumeration n = 0

-- remove-filter-covered-by-index: the size of conditions
abbrev pub condition_size : Node → ℕ
condition_size (Filter e) = size e
condition_size n = 0

-- use-index-for-sort: nothing
abbrev pub nothing : Node → ℕ
nothing n = 0
