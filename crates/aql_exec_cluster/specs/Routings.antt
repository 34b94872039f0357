-- Which rows come to which shard: from a Scatter all to each one, from a Distribute each to the shard of its
-- keys' values.
use Rattle.std.specs.Prelude.{ℕ, ◌==◌, List, filter, flat_map, option_to_list, slice_get, Bool, true, false}
use Rattle.aql_value.specs.Shards.{shard_of}
use Rattle.aql_meaning.specs.Row.{Row}
use Rattle.aql_meaning.specs.Plain.{AllPlain}
use Rattle.aql_meaning.specs.AtRows.{keys_of}
use Rattle.aql_plan.specs.Plan.{Node, Scatter, Distribute}
use Rattle.aql_plan.specs.View.{expr_trees}
use Rattle.aql_exec_cluster.specs.declared.routing.Routing.{Routing}
use Rattle.aql_exec_cluster.specs.declared.routing.Routing.TheVariants.{ToAll, ByKeys}
use Rattle.aql_exec_cluster.specs.declared.routing.Target.{Target}

-- the node of a collection
abbrev pub node_by : ℕ → Routing → Node
node_by coll (ToAll only) = Scatter coll only
node_by coll (ByKeys keys) = Distribute coll (expr_trees keys)

-- no key holds a subquery
abbrev pub KeysPlain : Routing → Type 0
KeysPlain (ToAll only) = Unit {0}
KeysPlain (ByKeys keys) = AllPlain (expr_trees keys)

abbrev pub is_to_all : Routing → Bool
is_to_all (ToAll only) = true
is_to_all (ByKeys keys) = false

abbrev pub comes_to : Routing → Target → Row → Bool
comes_to (ToAll only) target row = true
comes_to (ByKeys keys) target row = shard_of target.shards (keys_of (expr_trees keys) row) == target.shard

-- the rows that come to a shard, in order
abbrev pub rows_to : Routing → Target → List Row → List Row
rows_to routing target rows = filter (comes_to routing target) rows

-- the rows at these places
abbrev pub rows_at_places : List Row → List ℕ → List Row
rows_at_places rows places = flat_map (λ at. option_to_list (slice_get rows at)) places
