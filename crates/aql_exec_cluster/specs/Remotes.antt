-- A link, as the executor at both of its ends: what it still gives and sends, what it asks, and how far the
-- ask has come, by what was said last on the link and what is in flight.
use Rattle.std.specs.Prelude.{ℕ, zero, suc, ◌≡◌, ◌+◌, ◌<◌, ◌≤◌, ◌++◌, List, [], ◌∷◌, length, Bool, true, false, cond, Option, None, Some}
use Rattle.aql_meaning.specs.Row.{Row}
use Rattle.aql_block.specs.declared.calls.Call.{Call}
use Rattle.aql_block.specs.declared.calls.Step.{Step}
use Rattle.aql_block.specs.declared.calls.Progress.TheVariants.{Waiting, Done}
use Rattle.aql_block.specs.Tables.{Table, rows_of}
use Rattle.aql_exec.specs.declared.turns.Message.{Message}
use Rattle.aql_exec.specs.declared.turns.Message.TheVariants.{Ask, Reply}
use Rattle.aql_exec.specs.Rests.{Counter, Counts, Rest}
use Rattle.aql_exec.specs.Steps.{IsCall, given}
use Rattle.aql_exec.specs.Operators.{on_this}
use Rattle.aql_exec.specs.Lines.{asked, answered, Line, no_line, IsAsk, Next, opened_by}
use Rattle.aql_exec_cluster.specs.declared.remote.Stage.{Stage}
use Rattle.aql_exec_cluster.specs.declared.remote.Stage.TheVariants.{Idle, Sent, Serving, Replied}
use Rattle.aql_exec_cluster.specs.declared.remote.Remote.{Remote}

abbrev pub no_block : Table
no_block = record { registers = []; room = 0; values = [] }

-- before it asks
abbrev pub unlinked : Remote
unlinked = record {
  link = None;
  stage = Idle;
  held = no_block;
  done = false;
  ended = false;
  answer = no_block;
  ready = false;
  waiting = false;
  working = false;
}

-- ---- the link

-- the line of the link, if it is made
abbrev pub on_link : Option ℕ → (ℕ → Line) → Line
on_link None flight = no_line
on_link (Some l) flight = flight l

-- where it is made, this is the link
abbrev pub ThisLink : Option ℕ → ℕ → Type 0
ThisLink None l = Unit {0}
ThisLink (Some k) l = l ≡ k

-- the rows that replies carry
abbrev pub replied : List Message → List Row
replied [] = []
replied (Ask c ∷ messages) = replied messages
replied (Reply step ∷ messages) = given step ++ replied messages

-- ---- what it gives

-- the rows that it took of its input and has not given
abbrev pub kept : Remote → List Message → List Row
kept s messages = rows_of s.held ++ (replied messages ++ rows_of s.answer)

-- the asking end gives the rows, the serving end none
abbrev pub at_end : ℕ → List Row → List Row
at_end zero rows = rows
at_end (suc p) rows = []

-- until its first ask, a link is still to be opened
abbrev pub opens : Option ℕ → ℕ
opens None = 1
opens (Some l) = 0

-- until its last reply came, a link is still to be closed
abbrev pub closes : Bool → ℕ
closes true = 0
closes false = 1

-- what decides what is still due on the link: its number once it is made, whether the last reply came, and how many
-- rows that were taken of the input are to be sent
pub record Due : Type 0 where
  pub link : Option ℕ
  pub done : Bool
  pub unsent : ℕ

abbrev pub due : Remote → Due
due s = record { link = s.link; done = s.done; unsent = length (rows_of s.answer) }

-- beside what its input counts, these rows and those of its input are still to be sent on the link, and the link
-- to be opened and closed unless it was
abbrev pub Sending : Due → Rest → Counts → Type 0
Sending o i d = (l : ℕ) × ThisLink o.link l
    × ((c : Counter) → d c ≡ i.counts c + on_this l (opens o.link) (closes o.done) (o.unsent + length i.rows) c)

abbrev pub gives_rows : Due → List Row → ℕ → Rest → Rest → Type 0
gives_rows o rows p i r = (r.rows ≡ at_end p (rows ++ i.rows)) × Sending o i r.counts

abbrev pub gives_remote : Remote → List Message → ℕ → Rest → Rest → Type 0
gives_remote s messages p i r = gives_rows (due s) (kept s messages) p i r

abbrev pub budget_remote : Remote → List Message → ℕ
budget_remote s messages = length (kept s messages) + cond s.ended 0 1

-- ---- what it asks of its input

abbrev pub serves_of : Stage → Bool
serves_of Idle = false
serves_of Sent = false
serves_of (Serving c) = true
serves_of Replied = false

-- the ask that it serves
abbrev pub Serves : Stage → Call → Type 0
Serves Idle c = ⊥
Serves Sent c = ⊥
Serves (Serving ask) c = ask ≡ c
Serves Replied c = ⊥

abbrev pub ended_remote : Remote → ℕ → Bool
ended_remote s zero = s.ended
ended_remote s (suc k) = false

-- the call by which it asked, no more rows at a time than the ask wants
pub record AsksInput (s : Remote) (c : Call) : Type 0 where
  pub is_ask : IsAsk 10000 c
  pub served : Call
  pub serves : Serves s.stage served
  pub within : c.soft ≤ served.soft
  pub not_ended : s.ended ≡ false
  pub not_waiting : s.waiting ≡ false
  pub not_ready : s.ready ≡ false

abbrev pub Asking : Remote → ℕ → Call → Type 0
Asking s zero c = AsksInput s c
Asking s (suc k) c = ⊥

abbrev pub asks_remote : Remote → ℕ → Call → Type 0
asks_remote s zero c = IsCall c × IsAsk 10000 c × (s.ended ≡ false)
asks_remote s (suc k) c = ⊥

-- ---- how far the ask has come, where no ask wants more rows at a time than the batch

-- none is out
pub record AtIdle (batch : ℕ) (done ended : Bool) (answer : List Row) (line : Line) : Type 0 where
  pub none_flies : line.flying ≡ []
  pub none_answered : answer ≡ []
  pub done_ended : done ≡ true → ended ≡ true
  pub ended_done : ended ≡ true → done ≡ true
  pub may_ask : done ≡ false → (c : Call) → IsAsk batch c → Next batch line.talk (Ask c)

-- it is on its way
pub record AtSent (batch : ℕ) (done ended : Bool) (held answer : List Row) (line : Line) : Type 0 where
  pub ask : Call
  pub is_ask : IsAsk batch ask
  pub is_call : IsCall ask
  pub flies : line.flying ≡ Ask ask ∷ []
  pub said : line.talk ≡ asked ask
  pub none_held : held ≡ []
  pub none_answered : answer ≡ []
  pub not_done : done ≡ false
  pub not_ended : ended ≡ false

-- it was received
pub record AtServing (batch : ℕ) (ask : Call) (done ended ready : Bool) (held answer : List Row)
    (line : Line) : Type 0 where
  pub is_ask : IsAsk batch ask
  pub is_call : IsCall ask
  pub none_flies : line.flying ≡ []
  pub said : line.talk ≡ asked ask
  pub none_held : held ≡ []
  pub not_done : done ≡ false
  pub ended_ready : ended ≡ true → ready ≡ true
  pub unready : ready ≡ false → answer ≡ []
  pub some : ready ≡ true → ended ≡ false → 0 < length answer
  pub few : length answer ≤ ask.soft

-- the reply is on its way
pub record AtReplied (done ended : Bool) (held answer : List Row) (line : Line) : Type 0 where
  pub reply : Step
  pub flies : line.flying ≡ Reply reply ∷ []
  pub said : line.talk ≡ answered reply.progress
  pub ready : reply.progress ≡ Waiting → ⊥
  pub none_held : held ≡ []
  pub none_answered : answer ≡ []
  pub not_done : done ≡ false
  pub ended_done : ended ≡ true → reply.progress ≡ Done
  pub done_ended : reply.progress ≡ Done → ended ≡ true

abbrev pub AtStage : ℕ → Stage → Bool → Bool → Bool → List Row → List Row → Line → Type 0
AtStage batch Idle done ended ready held answer line = AtIdle batch done ended answer line
AtStage batch Sent done ended ready held answer line = AtSent batch done ended held answer line
AtStage batch (Serving ask) done ended ready held answer line =
    AtServing batch ask done ended ready held answer line
AtStage batch Replied done ended ready held answer line = AtReplied done ended held answer line

pub record RemoteIs (s : Remote) (line : Line) (links batch : ℕ) : Type 0 where
  pub stage : AtStage batch s.stage s.done s.ended s.ready (rows_of s.held) (rows_of s.answer) line
  pub link : (l : ℕ) → s.link ≡ Some l → l < links
  -- something was said on it exactly where it is made, and it is where the last reply came
  pub opened : opened_by line.talk + opens s.link ≡ 1
  pub done_opened : s.done ≡ true → opens s.link ≡ 0
