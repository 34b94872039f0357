use Rattle.std.proofs.Common.{◌≡◌, ◌-◌, ◌<◌, ◌≤◌, length, take, drop}
use Rattle.std.specs.List.{All}
use Rattle.aql_block.specs.Tables.{rows_of}
use Rattle.aql_exec_cluster.specs.Routings.{rows_to, rows_at_places}
use Rattle.aql_exec_cluster.proofs.routing.Routing.places.Given as goal

abbrev pub invariant-loop-at : goal.invariant-loop-at
invariant-loop-at l = record {
  within : All (λ at. at < length (rows_of l.block)) l.places.items;
  few : length l.places.items ≤ l.at - l.from;
  rows : rows_at_places (rows_of l.block) l.places.items
      ≡ rows_to l.self l.target (take (l.at - l.from) (drop l.from (rows_of l.block)));
}
