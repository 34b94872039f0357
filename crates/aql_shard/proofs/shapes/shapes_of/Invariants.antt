use Rattle.std.proofs.Common.{◌≡◌, ◌++◌, map, take}
use Rattle.aql_shard.specs.Known.{lookups, sorted_by}
use Rattle.aql_shard.proofs.shapes.shapes_of.Given as goal

abbrev pub invariant-loop-attributes : goal.invariant-loop-attributes
invariant-loop-attributes l =
    l.all ≡ lookups l.info.edge ++ map sorted_by (take l.attributes-index l.info.indexes)
