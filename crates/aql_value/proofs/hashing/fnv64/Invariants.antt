use Rattle.std.proofs.Common.{◌≡◌, take}
use Rattle.aql_value.specs.Shards.{fnv}
use Rattle.aql_value.proofs.hashing.fnv64.Given as goal

abbrev pub invariant-loop-byte : goal.invariant-loop-byte
invariant-loop-byte l = l.hash ≡ fnv (take l.byte-index l.bytes)
