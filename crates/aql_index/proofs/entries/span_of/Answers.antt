use Rattle.std.proofs.Common.{◌≡◌, ◌<◌, ◌≤◌, ◌+◌, ℕ, true, length, get_or, rules, arith}
use Rattle.std.specs.List.{between}
use Rattle.std.specs.Ordering.{is_lt, is_le}
use Rattle.std.proofs.lemmas.List.Edits.{length-between}
use Rattle.std.proofs.lemmas.List.Sorted.{IsPartitionPoint-from_clause}
use Rattle.aql_value.specs.View.{datums_in}
use Rattle.aql_index.specs.inner.Zones.{tail_zone, zone}
use Rattle.aql_index.specs.declared.entries.Entry.{Entry}
use Rattle.aql_index.proofs.Rising.{zones_rise}
use Rattle.aql_index.proofs.MiddlePart.{lower_part, upper_part, selects, low_is_up, near_parted, from_near}
use Rattle.aql_index.proofs.entries.span_of.Goals as goal

pub returns : goal.returns
returns c =
    let entries = c.args.entries.now in
    let from = c.partition_point-from.result in
    let near = c.end_near-end.ensures in
    let end = c.end_near-end.result in
    let count = c.partition_point-count.result in
    let z = zone (tail_zone c.args.tail.now) (datums_in c.args.equal.now) in
    let p = λ (e : Entry). is_le (z e.keys) in
    let rise = zones_rise c.args.tail.now (datums_in c.args.equal.now) entries c.requires.sorted in
    let parted = upper_part z entries rise in
    let low = IsPartitionPoint-from_clause (λ (e : Entry). is_lt (z e.keys)) entries from
    c.partition_point-from.ensures.partitioned (lower_part z entries rise) (λ a r f k. search rules) in
    let front : (k : ℕ) (d : Entry) → k < from → p (get_or entries k d) ≡ true =
    λ k d l. low_is_up _ (low.0 k d (omega arith) l) in
    let high = from_near p entries parted from end near.from near.within front near.above count
    c.partition_point-count.ensures.bound
    (IsPartitionPoint-from_clause p (between from end entries) count
    c.partition_point-count.ensures.partitioned
    (near_parted p entries parted from end near.from near.within front near.above) (λ a r f k. search rules)) in
    let ends : from + count ≤ length entries = omega (
      arith,
      near.from,
      near.within,
      c.partition_point-count.ensures.bound,
      length-between entries from end near.within,
    ) in
    selects z entries rise from (from + count) c.partition_point-from.ensures.bound ends low high
