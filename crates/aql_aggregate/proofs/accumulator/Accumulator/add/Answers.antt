use Rattle.aql_value.specs.View.{datum_of}
use Rattle.aql_aggregate.proofs.Unique.{sorted_more, counted_more}
use Rattle.aql_aggregate.proofs.accumulator.Accumulator.add.Goals as goal

pub returns-in_ok-note-in-SortedUnique : goal.returns-in_ok-note-in-SortedUnique
returns-in_ok-note-in-SortedUnique c kind ts h = sorted_more c.in-SortedUnique.seen c.note.new.seen kind ts
    (datum_of c.args.value.now) c.in_ok-note-in-SortedUnique.ensures (rw c.in-SortedUnique.is at h)

pub returns-in_ok-note-in-CountDistinct : goal.returns-in_ok-note-in-CountDistinct
returns-in_ok-note-in-CountDistinct c kind ts h = counted_more c.in-CountDistinct.seen
    c.note-in-CountDistinct.new.seen kind ts (datum_of c.args.value.now)
    c.in_ok-note-in-CountDistinct.ensures (rw c.in-CountDistinct.is at h)
