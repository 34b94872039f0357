-- The log of the messages that servers send each other: what it tells, and which logs there are. Messages
-- have numbers in the order in which they are sent, and links in the order in which they are made.
use Rattle.std.specs.Prelude.{ℕ, ◌≡◌, ◌+◌, ◌<◌, ◌≤◌, ◌++◌, List, [], ◌∷◌, length, map, filter, fold, sum_by, Bool, not, ◌==◌}
use Rattle.std.specs.List.{list_any, position_or_len}
use Rattle.aql_block.specs.declared.calls.Call.{Call}
use Rattle.aql_block.specs.declared.calls.Progress.{Progress}
use Rattle.aql_block.specs.declared.calls.Progress.TheVariants.{Waiting, HasMore}
use Rattle.aql_block.specs.Tables.{rows_of}
use Rattle.aql_exec.specs.declared.turns.Message.{Message}
use Rattle.aql_exec.specs.declared.turns.Message.TheVariants as message
use Rattle.aql_exec.specs.Lines.{Talk, fresh, asked, answered, opened_by, closed_by, IsAsk, Pick}
use Rattle.aql_net.specs.declared.logs.Sort.{Sort}
use Rattle.aql_net.specs.declared.logs.Sort.TheVariants.{Ask, Reply}
use Rattle.aql_net.specs.declared.logs.LogEntry.{LogEntry}
use Rattle.aql_net.specs.declared.logs.LogEntry.TheVariants.{Sent, Taken}

-- ---- what a log tells

-- of a message: all but its rows
abbrev pub sort_of : Message → Sort
sort_of (message.Ask c) = Ask c
sort_of (message.Reply step) = Reply step.skipped (length (rows_of step.block)) step.progress

-- a message that was sent
pub record Dispatch : Type 0 where
  pub number : ℕ
  pub link : ℕ
  pub what : Sort

-- the messages that were sent, in order
abbrev pub sent_in : List LogEntry → List Dispatch
sent_in [] = []
sent_in (Sent n l what ∷ log) = record { number = n; link = l; what = what } ∷ sent_in log
sent_in (Taken n ∷ log) = sent_in log

-- the numbers of those that were taken, in order
abbrev pub taken_in : List LogEntry → List ℕ
taken_in [] = []
taken_in (Sent n l what ∷ log) = taken_in log
taken_in (Taken n ∷ log) = n ∷ taken_in log

abbrev pub is_taken : List LogEntry → ℕ → Bool
is_taken log n = list_any (λ k. k == n) (taken_in log)

-- the messages in flight, oldest first: those that were sent and not taken
abbrev pub in_flight : List LogEntry → List Dispatch
in_flight log = filter (λ m. not (is_taken log m.number)) (sent_in log)

-- what was said on a link, in order
abbrev pub said_on : ℕ → List LogEntry → List Sort
said_on l log = map (λ m. m.what) (filter (λ m. m.link == l) (sent_in log))

-- what was said last on a link
abbrev pub talk_of : Sort → Talk
talk_of (Ask c) = asked c
talk_of (Reply skipped rows progress) = answered progress

abbrev pub talk_on : ℕ → List LogEntry → Talk
talk_on l log = fold (λ _ what. talk_of what) fresh (said_on l log)

-- how many rows the replies on a link skipped and sent
abbrev pub rows_of_sort : Sort → ℕ
rows_of_sort (Ask c) = 0
rows_of_sort (Reply skipped rows progress) = skipped + rows

abbrev pub rows_on : ℕ → List LogEntry → ℕ
rows_on l log = sum_by rows_of_sort (said_on l log)

-- whether a link was opened, as a number: something was said on it
abbrev pub opened_in : ℕ → List LogEntry → ℕ
opened_in l log = opened_by (talk_on l log)

-- whether it is closed: what was said last on it is a reply that says Done, and nothing is in flight on it
abbrev pub closed_in : ℕ → List LogEntry → ℕ
closed_in l log = closed_by (talk_on l log) (filter (λ m. m.link == l) (in_flight log))

-- the place of a message among those in flight after a log, and how many these are
abbrev pub pick_of : List LogEntry → ℕ → Pick
pick_of log n = record {
  among = length (in_flight log);
  place = position_or_len (λ m. m.number == n) (in_flight log);
}

-- what was picked, of each message that was taken, after a log before
abbrev pub picks_after : List LogEntry → List LogEntry → List Pick
picks_after before [] = []
picks_after before (Sent n l what ∷ log) = picks_after (before ++ Sent n l what ∷ []) log
picks_after before (Taken n ∷ log) = pick_of before n ∷ picks_after (before ++ Taken n ∷ []) log

abbrev pub picks_in : List LogEntry → List Pick
picks_in log = picks_after [] log

-- ---- which logs there are

-- a reply to an ask: at most the offset is skipped, at most `soft` rows come, and a row comes only after the
-- whole offset; where there may be more, there is a row or a skip
pub record IsReplyTo (c : Call) (skipped rows : ℕ) (progress : Progress) : Type 0 where
  pub within : skipped ≤ c.offset
  pub soft : rows ≤ c.soft
  pub first : 0 < rows → skipped ≡ c.offset
  pub ready : progress ≡ Waiting → ⊥
  pub more : progress ≡ HasMore → 0 < skipped + rows

-- what may be said next on a link, where an ask wants at most `batch` rows at a time: an ask first, then a
-- reply to it, and an ask again unless it was the last
abbrev pub MaySay : ℕ → Talk → Sort → Type 0
MaySay batch fresh (Ask c) = IsAsk batch c
MaySay batch fresh (Reply skipped rows progress) = ⊥
MaySay batch (asked d) (Ask c) = ⊥
MaySay batch (asked d) (Reply skipped rows progress) = IsReplyTo d skipped rows progress
MaySay batch (answered p) (Ask c) = (p ≡ HasMore) × IsAsk batch c
MaySay batch (answered p) (Reply skipped rows progress) = ⊥

-- a message may be sent: its number is the next, all that was said on its link was taken, this may be said
-- there, and on each link before it something was said
pub record MaySend (batch : ℕ) (log : List LogEntry) (n l : ℕ) (what : Sort) : Type 0 where
  pub number : n ≡ length (sent_in log)
  pub free : filter (λ m. m.link == l) (in_flight log) ≡ []
  pub next : MaySay batch (talk_on l log) what
  pub made : (k : ℕ) → k < l → said_on k log ≡ [] → ⊥

-- what may come next in a log; what is taken is one of those in flight
abbrev pub MayCome : ℕ → List LogEntry → LogEntry → Type 0
MayCome batch log (Sent n l what) = MaySend batch log n l what
MayCome batch log (Taken n) = (pick_of log n).place < (pick_of log n).among

-- a log of links on which each ask wants at most `batch` rows at a time: each entry may come after those
-- before it
abbrev pub IsLog : ℕ → List LogEntry → Type 0
IsLog batch log = (before after : List LogEntry) (entry : LogEntry) → log ≡ before ++ entry ∷ after
    → MayCome batch before entry
