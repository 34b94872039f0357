use Rattle.std.proofs.Common.{◌≡◌, ◌≤◌, length, ◌-◌}
use Rattle.std.specs.Io.KnownBytes.{Consumes}
use Rattle.aql_io.proofs.whole.read_all.Given as goal

-- what was read stands in `bytes`, and is no longer than the limit
abbrev pub invariant-chunks : goal.invariant-chunks
invariant-chunks g l = record {
  consumed : Consumes (g.S.Source.left l.initial.source) (g.S.Source.left l.source) l.bytes.items;
  within : length l.bytes.items ≤ l.limit;
  quiet : g.S.Source.faults l.source ≡ g.S.Source.faults l.initial.source;
}

abbrev pub decreases-chunks : goal.decreases-chunks
decreases-chunks g l = l.limit - length l.bytes.items
