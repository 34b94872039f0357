use Rattle.std.proofs.Common.{◌≡◌, map, take}
use Rattle.aql_value.specs.View.{datum_of}
use Rattle.aql_value.specs.Contents.{at_name}
use Rattle.aql_index.proofs.keys.copy_attributes.Given as goal

abbrev pub invariant-loop-name : goal.invariant-loop-name
invariant-loop-name l = l.keys ≡ map (at_name (datum_of l.document)) (take l.name-index l.names)
