-- The adapters over real streams, as contracts see them: the stream, how often it was asked, and how often it
-- failed. A stream that tells no bytes is still counted.
use Rattle.std.specs.Prelude.{ℕ}

pub record ReaderCounts (Stream : Type 0) : Type 0 where
  pub stream : Stream
  pub asked : ℕ
  pub faults : ℕ

-- `unflushed` bytes were taken since the last flush that did not fail
pub record WriterCounts (Stream : Type 0) : Type 0 where
  pub stream : Stream
  pub asked : ℕ
  pub faults : ℕ
  pub unflushed : ℕ
