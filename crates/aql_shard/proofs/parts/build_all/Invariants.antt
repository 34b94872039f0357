use Rattle.std.proofs.Common.{◌≡◌, map, take}
use Rattle.aql_shard.specs.Parts.{parts_of}
use Rattle.aql_shard.proofs.parts.build_all.Given as goal

abbrev pub invariant-loop-i : goal.invariant-loop-i
invariant-loop-i l = l.all ≡ map (parts_of l.servers) (take l.i l.catalog)
