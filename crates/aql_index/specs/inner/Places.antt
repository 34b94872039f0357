-- The places of spans, one by one; for private clauses.
use Rattle.std.specs.Prelude.{ℕ, ◌≡◌, ◌<◌, List, [], length, filter, Bool, true, ◌&&◌, not, nat_lt, slice_index_or}
use Rattle.aql_value.specs.Datum.{Datum}
use Rattle.aql_index.specs.Spans.{IsSpan, spanned}
use Rattle.aql_index.specs.inner.Zones.{lone_zone, in_zone}
use Rattle.aql_index.specs.declared.bounds.Span.{Span}
use Rattle.aql_index.specs.declared.entries.Entry.{Entry}

-- whether a place is in a span
abbrev pub holds : ℕ → Span → Bool
holds place span = nat_lt place span.to && not (nat_lt place span.from)

-- what stands for a span, and for an entry, where there is none
abbrev pub no_span : Span
no_span = record { from = 0; to = 0 }

abbrev pub no_entry : Entry
no_entry = record { keys = []; place = 0 }

-- spans that have a place in common have all in common
abbrev pub AreSpansOnce : List Span → Type 0
AreSpansOnce spans = (i j k m : ℕ) → i < length spans → j < length spans
    → holds k (slice_index_or spans i no_span) ≡ true → holds k (slice_index_or spans j no_span) ≡ true
    → holds m (slice_index_or spans i no_span) ≡ holds m (slice_index_or spans j no_span)

-- a span of exactly the entries whose values pass a test, as a list and place by place
pub record Selects (entries : List Entry) (test : List Datum → Bool) (span : Span) : Type 0 where
  pub within : IsSpan (length entries) span
  pub exactly : spanned entries span ≡ filter (λ (e : Entry). test e.keys) entries
  pub each : (k : ℕ) (d : Entry) → k < length entries
      → holds k span ≡ test (slice_index_or entries k d).keys

-- a span of the entries that have a value of the attribute after the equal ones: one or more
pub record IsSpanOf (entries : List Entry) (equal : List Datum) (span : Span) : Type 0 where
  pub value : Datum
  pub some : span.from < span.to
  pub selects : Selects entries (in_zone (lone_zone value) equal) span
