-- What a net keeps true of its fields.
use Rattle.std.specs.Prelude.{ℕ, ◌≡◌, ◌+◌, ◌<◌, ◌≤◌, List, [], length, map}
use Rattle.aql_net.specs.declared.logs.LogEntry.{LogEntry}
use Rattle.aql_net.specs.declared.net.Envelope.{Envelope}
use Rattle.aql_net.specs.Logs.{sent_in, in_flight, said_on, IsLog}
use Rattle.aql_net.specs.Traffic.{dispatch_of}

pub record IsNet (batch links : ℕ) (log : List LogEntry) (flying : List Envelope)
    (sent capacity : ℕ) : Type 0 where
  pub lawful : IsLog batch log
  pub count : sent ≡ length (sent_in log)
  pub told : in_flight log ≡ map dispatch_of flying
  -- exactly on the links that were made something was said
  pub unused : (l : ℕ) → links ≤ l → said_on l log ≡ []
  pub used : (l : ℕ) → l < links → said_on l log ≡ [] → ⊥
  pub room : length log + length flying ≤ capacity
