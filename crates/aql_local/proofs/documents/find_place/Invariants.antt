use Rattle.std.proofs.Common.{◌≡◌, ℕ, List, [], ◌∷◌, find, drop}
use Rattle.aql_value.specs.Datum.{text}
use Rattle.aql_shard.specs.Datasets.{stock}
use Rattle.aql_local.specs.inner.Lookups.{has_id, all_documents}
use Rattle.aql_local.proofs.documents.find_place.Given as goal

abbrev pub invariant-loop-number : goal.invariant-loop-number
invariant-loop-number l = record {
  not_before : (id : List ℕ) → l.values ≡ text id ∷ []
      → find (has_id id) (all_documents (drop l.number (stock l.servers).db))
      ≡ find (has_id id) (all_documents (stock l.servers).db);
}
