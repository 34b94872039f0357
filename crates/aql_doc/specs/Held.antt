-- What a catalog holds: for each collection, in the order of declaration, how it was declared and its
-- documents in order (AQL fundamentals, Accessing data from collections). `database` leaves out what a
-- query's answer cannot depend on, shards and indexes.
use Rattle.std.specs.Prelude.{ℕ, List, [], ◌∷◌, ◌+◌, Bool, length, map, refl, slice_get, option_map, unwrap_or}
use Rattle.std.specs.Coded.{Coded, code_by, coded×, coded_ℕ, coded_list, coded_bool}
use Rattle.aql_value.specs.Datum.{Datum, coded_bytes, coded_datums}
use Rattle.aql_value.specs.Database.{Database}
use Rattle.aql_doc.specs.declared.info.CollInfo.{CollInfo}

pub record Held : Type 0 where
  pub info : CollInfo
  pub documents : List Datum

abbrev pub database : List Held → Database
database held = map
    (λ (h : Held). record { name = h.info.name; edge = h.info.edge; documents = h.documents }) held

-- the documents of the collection with this number: none where it is not declared
abbrev pub documents_at : List Held → ℕ → List Datum
documents_at held number = unwrap_or (option_map (λ (h : Held). h.documents) (slice_get held number)) []

-- how many documents are held in all
abbrev pub documents_in : List Held → ℕ
documents_in [] = 0
documents_in (h ∷ held) = length h.documents + documents_in held

-- how the logic stores a declaration, and what is held
abbrev Names : Type 0
Names = List (List ℕ)

abbrev coded_names : Coded Names
coded_names = coded_list coded_bytes

abbrev pub coded_info : Coded CollInfo
coded_info =
    code_by (List ℕ × (Bool × (ℕ × (Names × List Names))))
    (coded× coded_bytes (coded× coded_bool (coded× coded_ℕ (coded× coded_names (coded_list coded_names)))))
    (λ c. (c.name, (c.edge, (c.shards, (c.keys, c.indexes)))))
    (λ p. record { name = p.0; edge = p.1.0; shards = p.1.1.0; keys = p.1.1.1.0; indexes = p.1.1.1.1 })
    (λ _. refl)

abbrev pub coded_held : Coded Held
coded_held =
    code_by (CollInfo × List Datum) (coded× coded_info coded_datums)
    (λ h. (h.info, h.documents)) (λ p. record { info = p.0; documents = p.1 }) (λ _. refl)
