-- What a read hands out and what a write appends, where the source or the sink tells its bytes.
-- `before` and `after` are the bytes that a source has left, or that a sink has written: `None` tells
-- nothing, and then nothing is said of them.
use Rattle.std.specs.Prelude.{◌≡◌, ℕ, ◌<◌, List, length, take, Result, MatchResult}
use Rattle.std.specs.declared.option.Option.{Option}
use Rattle.std.specs.Io.KnownBytes.{Consumes, Appends, Keeps, IsAtEnd}

-- A read takes as many of the next bytes as it says, none only at the end or where the buffer is empty;
-- a failed one takes nothing, and had room.
pub record ReadsNext {E : Type 0} (before after : Option (List ℕ)) (result : Result ℕ E) (into : List ℕ)
    : Type 0 where
  pub bytes : MatchResult result (λ count. Consumes before after (take count into))
      (λ _. Keeps before after)
  pub ends : MatchResult result (λ count. count ≡ 0 → 0 < length into → IsAtEnd after)
      (λ _. 0 < length into)

-- A write appends as many of the first bytes as it says, one at least unless there are none;
-- a failed one appends nothing, and had bytes to write.
pub record AppendsFirst {E : Type 0} (before after : Option (List ℕ)) (result : Result ℕ E)
    (piece : List ℕ) : Type 0 where
  pub bytes : MatchResult result (λ count. Appends before after (take count piece))
      (λ _. Keeps before after)
  pub some : MatchResult result (λ count. 0 < length piece → 0 < count) (λ _. 0 < length piece)

-- Some of the bytes, from the first on, were appended, and not all of them.
pub record AppendsPrefix (before after : Option (List ℕ)) (bytes : List ℕ) : Type 0 where
  pub count : ℕ
  pub unfinished : count < length bytes
  pub appended : Appends before after (take count bytes)

-- These bytes were handed out, and P holds of them.
pub record HandsOut (before after : Option (List ℕ)) (P : List ℕ → Type 0) : Type 0 where
  pub taken : List ℕ
  pub consumed : Consumes before after taken
  pub holds : P taken
