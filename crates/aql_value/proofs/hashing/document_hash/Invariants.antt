use Rattle.std.proofs.Common.{◌≡◌, map, take}
use Rattle.aql_value.specs.View.{datum_of}
use Rattle.aql_value.specs.Contents.{at_name}
use Rattle.aql_value.proofs.hashing.document_hash.Given as goal

abbrev pub invariant-loop-key : goal.invariant-loop-key
invariant-loop-key l = l.values ≡ map (at_name (datum_of l.document)) (take l.key-index l.keys)
