-- The documents that servers hold, with what is known of them, as plans see both, and what is counted where a
-- document is handed out.
use Rattle.std.specs.Prelude.{ℕ, ◌+◌, ◌-◌, ◌^◌, min, List, Option}
use Rattle.aql_value.specs.Datum.{Datum}
use Rattle.aql_doc.specs.Held.{database}
use Rattle.aql_plan.specs.Runs.{Dataset, Outside, read}
use Rattle.aql_block.specs.declared.tally.Tally.{Tally}
use Rattle.aql_shard.specs.Holding.{Holding}
use Rattle.aql_shard.specs.Known.{facts_of}

abbrev pub stock : Holding → Dataset
stock h = record { facts = facts_of h.servers h.held; db = database h.held }

-- the documents of a collection, or of one shard of it, in the order in which they are read
abbrev pub documents_read : Dataset → ℕ → Option ℕ → List Datum
documents_read w coll shard = read w coll shard Outside

abbrev pub nothing_counted : Tally
nothing_counted = record { scanned_full = 0; scanned_index = 0; filtered = 0 }

-- one more document was read; the count stays at the largest number of 64 bits
abbrev pub one_read : Tally → Tally
one_read t = record t { scanned_full = min (t.scanned_full + 1) (2 ^ 64 - 1) }

-- one more was found by an index; the count stays at the largest number of 64 bits
abbrev pub one_found : Tally → Tally
one_found t = record t { scanned_index = min (t.scanned_index + 1) (2 ^ 64 - 1) }
