-- A source and a sink in memory, as contracts see them. Each passes at most `piece` bytes a call.
-- `until_fault` is how many bytes may still pass before each further call fails; where it is `None`, none
-- fails for that.
use Rattle.std.specs.Prelude.{◌≡◌, ℕ, ◌-◌, ◌<◌, ◌⊎◌, List, ◌++◌, length, take, drop, min, Some, None}
use Rattle.std.specs.declared.option.Option.{Option}
use Rattle.aql_io.specs.Causes.{one_more}

-- a source: the bytes that are left, and how often a read has failed
pub record Reading : Type 0 where
  pub left : List ℕ
  pub piece : ℕ
  pub until_fault : Option ℕ
  pub faults : ℕ

-- a sink: the bytes that were written, the room that is left, and how often a write has failed
pub record Writing : Type 0 where
  pub written : List ℕ
  pub piece : ℕ
  pub until_fault : Option ℕ
  pub room : ℕ
  pub faults : ℕ

-- a number of bytes, cut down to a limit where there is one
abbrev pub count_within : Option ℕ → ℕ → ℕ
count_within None count = count
count_within (Some limit) count = min count limit

-- what is left of a limit once so many bytes passed
abbrev pub limit_after : Option ℕ → ℕ → Option ℕ
limit_after None count = None
limit_after (Some limit) count = Some (limit - count)

-- a read into this much room fails
abbrev pub ReadFails : Reading → ℕ → Type 0
ReadFails source room = (0 < room) × (source.until_fault ≡ Some 0)

-- how many bytes a read into this much room hands out
abbrev pub read_count : Reading → ℕ → ℕ
read_count source room = count_within source.until_fault (min (min room source.piece) (length source.left))

-- the source after a read of so many bytes, and after a read that failed
abbrev pub after_read : Reading → ℕ → Reading
after_read source count = record source {
  left = drop count source.left;
  until_fault = limit_after source.until_fault count;
}

abbrev pub after_failed_read : Reading → Reading
after_failed_read source = record source { faults = one_more source.faults }

-- a write of this many bytes fails
abbrev pub WriteFails : Writing → ℕ → Type 0
WriteFails sink size = (0 < size) × ((sink.until_fault ≡ Some 0) ⊎ (sink.room ≡ 0))

-- how many bytes of a piece of this size are taken
abbrev pub write_count : Writing → ℕ → ℕ
write_count sink size = count_within sink.until_fault (min (min size sink.piece) sink.room)

-- the sink after it took so many bytes of a piece, and after a write that failed
abbrev pub after_write : Writing → List ℕ → ℕ → Writing
after_write sink piece count = record sink {
  written = sink.written ++ take count piece;
  until_fault = limit_after sink.until_fault count;
  room = sink.room - count;
}

abbrev pub after_failed_write : Writing → Writing
after_failed_write sink = record sink { faults = one_more sink.faults }
