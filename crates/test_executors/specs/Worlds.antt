-- A world with one collection, all in one place, and one sorted index over it.
use Rattle.std.specs.Prelude.{ℕ, List, [], ◌∷◌, length, false}
use Rattle.aql_value.specs.Datum.{Datum}
use Rattle.aql_plan.specs.declared.facts.Facts.{Facts}
use Rattle.aql_plan.specs.declared.facts.IndexFact.{IndexFact}
use Rattle.aql_plan.specs.declared.facts.IndexKind.TheVariants.{Sorted}
use Rattle.aql_plan.specs.Runs.{Dataset}

-- an index by these attributes
abbrev pub sorted_by : List (List ℕ) → IndexFact
sorted_by names = record { kind = Sorted; attributes = names; widths = [] }

abbrev pub facts_of : List (List ℕ) → List Datum → Facts
facts_of names documents = record {
  servers = 0;
  collections = (record {
    name = [];
    edge = false;
    documents = length documents;
    shards = 0;
    keys = [];
    indexes = sorted_by names ∷ [];
  }) ∷ [];
}

abbrev pub one_collection : List (List ℕ) → List Datum → Dataset
one_collection names documents = record {
  facts = facts_of names documents;
  db = (record { name = []; edge = false; documents = documents }) ∷ [];
}
