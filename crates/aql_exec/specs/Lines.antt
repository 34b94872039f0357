-- What is said on links between servers, and which messages were delivered.
use Rattle.std.specs.Prelude.{ℕ, ◌≡◌, ◌+◌, ◌<◌, ◌≤◌, ◌++◌, List, [], ◌∷◌, length}
use Rattle.aql_block.specs.declared.calls.Call.{Call}
use Rattle.aql_block.specs.declared.calls.Step.{Step}
use Rattle.aql_block.specs.declared.calls.Progress.{Progress}
use Rattle.aql_block.specs.declared.calls.Progress.TheVariants.{Waiting, HasMore, Done}
use Rattle.aql_block.specs.Tables.{rows_of}
use Rattle.aql_exec.specs.declared.turns.Message.{Message}
use Rattle.aql_exec.specs.declared.turns.Message.TheVariants.{Ask, Reply}

-- what was said last on a link
pub data Talk : Type 0 where
  fresh : Talk
  asked : Call → Talk
  answered : Progress → Talk

-- whether a link was opened, by what was said last on it: something was said
abbrev pub opened_by : Talk → ℕ
opened_by fresh = 0
opened_by (asked c) = 1
opened_by (answered p) = 1

-- whether it is closed, by what is in flight on it too: the last reply says Done, and was taken
abbrev pub closed_by : {M : Type 0} → Talk → List M → ℕ
closed_by fresh flying = 0
closed_by (asked c) flying = 0
closed_by (answered Waiting) flying = 0
closed_by (answered HasMore) flying = 0
closed_by (answered Done) [] = 1
closed_by (answered Done) (m ∷ flying) = 0

-- a link: what was said last on it, what is in flight, oldest first, and how many rows were skipped and sent
pub record Line : Type 0 where
  pub talk : Talk
  pub flying : List Message
  pub sent : ℕ

abbrev pub no_line : Line
no_line = record { talk = fresh; flying = []; sent = 0 }

-- what an ask on a link may be: all rows are wanted, so many at a time at most
pub record IsAsk (most : ℕ) (c : Call) : Type 0 where
  pub offset : c.offset ≡ 0
  pub some : 1 ≤ c.soft
  pub batch : c.soft ≤ most
  pub hard : c.hard ≡ 18446744073709551615

-- what a reply to an ask may be
pub record IsReply (c : Call) (step : Step) : Type 0 where
  pub skipped : step.skipped ≤ c.offset
  pub rows : length (rows_of step.block) ≤ c.soft
  pub first : 0 < length (rows_of step.block) → step.skipped ≡ c.offset
  pub ready : step.progress ≡ Waiting → ⊥
  pub more : step.progress ≡ HasMore → 0 < step.skipped + length (rows_of step.block)

-- what may be said next, where an ask wants at most `batch` rows at a time: an ask first, then a reply to it,
-- and an ask again unless the reply was the last
abbrev pub Next : ℕ → Talk → Message → Type 0
Next batch fresh (Ask c) = IsAsk batch c
Next batch fresh (Reply step) = ⊥
Next batch (asked d) (Ask c) = ⊥
Next batch (asked d) (Reply step) = IsReply d step
Next batch (answered p) (Ask c) = (p ≡ HasMore) × IsAsk batch c
Next batch (answered p) (Reply step) = ⊥

-- a link after a message was sent on it
abbrev pub with_message : Line → Message → Line
with_message line (Ask c) =
    record { talk = asked c; flying = line.flying ++ Ask c ∷ []; sent = line.sent }
with_message line (Reply step) = record {
  talk = answered step.progress;
  flying = line.flying ++ Reply step ∷ [];
  sent = line.sent + (step.skipped + length (rows_of step.block));
}

-- a message in flight, with its link
pub record Flying : Type 0 where
  pub link : ℕ
  pub message : Message

-- which place was picked, among how many messages in flight
pub record Pick : Type 0 where
  pub among : ℕ
  pub place : ℕ

-- the deliveries so far, and how many messages may still be delivered
pub record Deliveries : Type 0 where
  pub picks : List Pick
  pub left : ℕ
