use Rattle.std.proofs.Common.{◌≡◌, ◌<◌, ◌-◌, length, take, get_or}
use Rattle.aql_index.specs.Groups.{alike, widest_of}
use Rattle.aql_index.specs.inner.Places.{no_entry}
use Rattle.aql_index.proofs.groups.widest_of.Given as goal

abbrev pub invariant-loop-at : goal.invariant-loop-at
invariant-loop-at l = record {
  most : l.most ≡ widest_of l.width (take l.at l.entries);
  group : 0 < l.at
      → l.group ≡ length (alike l.width (take l.at l.entries) (get_or l.entries (l.at - 1) no_entry));
}
