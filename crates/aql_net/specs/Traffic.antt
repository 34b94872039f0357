-- A net as its callers see it: how many rows an ask may want at a time, how many links it has, its log and
-- the messages in flight; and how it changes.
use Rattle.std.specs.Prelude.{ℕ, ◌≡◌, ◌+◌, ◌-◌, ◌^◌, max, ◌++◌, List, [], ◌∷◌, length, map, filter, ◌==◌, remove, slice_get, Some}
use Rattle.aql_plan.specs.Runs.{Dataset}
use Rattle.aql_exec.specs.declared.turns.Message.{Message}
use Rattle.aql_exec.specs.Lines.{Line, Flying, Deliveries}
use Rattle.aql_net.specs.declared.logs.LogEntry.{LogEntry}
use Rattle.aql_net.specs.declared.logs.LogEntry.TheVariants.{Sent, Taken}
use Rattle.aql_net.specs.declared.net.Envelope.{Envelope}
use Rattle.aql_net.specs.Logs.{Dispatch, sort_of, sent_in, taken_in, talk_on, rows_on, picks_in}

pub record Traffic : Type 0 where
  -- how many rows an ask may want at a time
  pub batch : ℕ
  pub links : ℕ
  pub log : List LogEntry
  -- oldest first
  pub flying : List Envelope

abbrev pub no_traffic : ℕ → Traffic
no_traffic batch = record { batch = batch; links = 0; log = []; flying = [] }

-- ---- what is seen of it

-- a message in flight, as a log tells it
abbrev pub dispatch_of : Envelope → Dispatch
dispatch_of e = record { number = e.number; link = e.link; what = sort_of e.message }

-- the messages in flight on a link
abbrev pub messages_on : ℕ → List Envelope → List Message
messages_on l flying = map (λ e. e.message) (filter (λ e. e.link == l) flying)

-- a link: what was said last, what is in flight, and how many rows were skipped and sent
abbrev pub line_on : ℕ → Traffic → Line
line_on l t = record {
  talk = talk_on l t.log;
  flying = messages_on l t.flying;
  sent = rows_on l t.log;
}

abbrev pub flying_of : Envelope → Flying
flying_of e = record { link = e.link; message = e.message }

abbrev pub queue_of : Traffic → List Flying
queue_of t = map flying_of t.flying

-- what was picked, and how many messages may still be delivered: there is a number for so many
abbrev pub deliveries_of : Traffic → Deliveries
deliveries_of t = record { picks = picks_in t.log; left = 2 ^ 64 - 1 - length (taken_in t.log) }

-- the documents of a net that no server holds any for
abbrev pub no_data : Dataset
no_data = record { facts = record { servers = 0; collections = [] }; db = [] }

-- ---- how it changes

-- a message was sent on a link
abbrev pub after_sending : ℕ → Message → Traffic → Traffic
after_sending l m t = record {
  batch = t.batch;
  links = max t.links (l + 1);
  log = t.log ++ Sent (length (sent_in t.log)) l (sort_of m) ∷ [];
  flying = t.flying ++ record { number = length (sent_in t.log); link = l; message = m } ∷ [];
}

-- the message at a place was taken
pub record Takes (place : ℕ) (before after : Traffic) (l : ℕ) (m : Message) : Type 0 where
  pub number : ℕ
  pub was : slice_get before.flying place ≡ Some (record { number = number; link = l; message = m })
  pub is : after ≡ record {
    batch = before.batch;
    links = before.links;
    log = before.log ++ Taken number ∷ [];
    flying = remove before.flying place;
  }
