use Rattle.std.proofs.Common.{◌≡◌, map, take}
use Rattle.aql_shard.specs.Known.{coll_fact}
use Rattle.aql_shard.proofs.known.collect_facts.Given as goal

abbrev pub invariant-loop-i : goal.invariant-loop-i
invariant-loop-i l = l.collections ≡ map (coll_fact l.servers) (take l.i l.catalog)
