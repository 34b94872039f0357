use Rattle.std.proofs.Common.{◌≡◌, take}
use Rattle.aql_shard.specs.Parts.{indexes_by}
use Rattle.aql_shard.proofs.parts.build_whole.Given as goal

abbrev pub invariant-loop-shape : goal.invariant-loop-shape
invariant-loop-shape l = l.indexes ≡ indexes_by (take l.shape-index l.shapes) l.documents
