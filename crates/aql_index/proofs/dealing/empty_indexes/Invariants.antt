use Rattle.std.proofs.Common.{◌≡◌, [], map, take}
use Rattle.aql_index.proofs.dealing.empty_indexes.Given as goal

abbrev pub invariant-loop-room : goal.invariant-loop-room
invariant-loop-room l =
    l.all.items ≡ map (λ _. record { width = l.width; entries = [] }) (take l.room-index l.counts)
