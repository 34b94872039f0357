-- Neither a declaration nor a document nor a line of JSON has want of memory as its fault: it comes to a call
-- alone.
use Rattle.std.proofs.Common.{ℕ, List, Bool, true, false, Option, Some, None, Ok, Err, if◌then◌else◌, nat_lt, nat_le, length}
use Rattle.std.specs.Prelude.{Result, ◌&&◌, not, is_some, slice_get, codes, ◌++◌, ◌∷◌, []}
use Rattle.std.specs.Str.{is_utf8}
use Rattle.serde_json.specs.Data.{Data, depth}
use Rattle.serde_json.specs.Read.{read}
use Rattle.aql_value.specs.Datum.{Datum, null, boolean, number, text, array, object}
use Rattle.aql_value.specs.Contents.{members_of}
use Rattle.aql_value.specs.Attributes.{attribute}
use Rattle.aql_value.specs.FromJson.{from_json}
use Rattle.aql_value.specs.JsonLine.{json_line, of_data, or_not_whole, greatest_depth}
use Rattle.aql_value.specs.declared.reading.JsonFault.{JsonFault}
use Rattle.aql_value.specs.declared.reading.JsonFault.TheVariants.{NotJson, TooDeep, NotWhole, Memory as JsonMemory}
use Rattle.aql_doc.specs.Held.{Held, documents_in}
use Rattle.aql_doc.specs.Declarations.{collection_index, declare, add_index, with_index, has_index, change, replace, empty}
use Rattle.aql_doc.specs.Documents as documents
use Rattle.aql_doc.specs.Keys.{is_key, id_of, is_text, rest_after}
use Rattle.aql_doc.specs.KeySet.{has_key}
use Rattle.aql_doc.specs.declared.faults.CatalogFault.{CatalogFault}
use Rattle.aql_doc.specs.declared.faults.CatalogFault.TheVariants.{Twice, TooMany, Memory as CatalogMemory}
use Rattle.aql_doc.specs.declared.faults.DocFault.{DocFault}
use Rattle.aql_doc.specs.declared.faults.DocFault.TheVariants.{NotObject, BadKey, IdMismatch, BadEdge, DuplicateKey, TooMany as DocTooMany, Memory as DocMemory}

-- P of the fault, if there is one
abbrev pub FaultIs : {T E : Type 0} → (E → Type 0) → Result T E → Type 0
FaultIs P (Ok t) = Unit {0}
FaultIs P (Err e) = P e

abbrev pub OfCatalog : CatalogFault → Type 0
OfCatalog Twice = Unit {0}
OfCatalog TooMany = Unit {0}
OfCatalog CatalogMemory = ⊥

abbrev pub OfDocument : DocFault → Type 0
OfDocument NotObject = Unit {0}
OfDocument BadKey = Unit {0}
OfDocument IdMismatch = Unit {0}
OfDocument BadEdge = Unit {0}
OfDocument (DuplicateKey key) = Unit {0}
OfDocument DocTooMany = Unit {0}
OfDocument DocMemory = ⊥

abbrev pub OfJson : JsonFault → Type 0
OfJson NotJson = Unit {0}
OfJson TooDeep = Unit {0}
OfJson NotWhole = Unit {0}
OfJson JsonMemory = ⊥

one_of : {T E : Type 0} (P : E → Type 0) (b : Bool) (r s : Result T E) → FaultIs P r → FaultIs P s
    → FaultIs P (if b then r else s)
one_of P true r s h k = h
one_of P false r s h k = k

changed_is : {E : Type 0} (P : E → Type 0) (held : List Held) (n : ℕ) (f : Held → Result Held E)
    → ((h : Held) → FaultIs P (f h)) → (at : Option Held) → FaultIs P (change held n f at)
changed_is P held n f k None = tt
changed_is P held n f k (Some h) = replaced_is (f h) (k h)
  where
    replaced_is : (r : Result Held _) → FaultIs P r → FaultIs P (replace held n r)
    replaced_is (Ok x) p = tt
    replaced_is (Err e) p = p

-- ---- declarations

pub declared_is : (held : List Held) (name : List ℕ) (edge : Bool) (shards : ℕ) (keys : List (List ℕ))
    → FaultIs OfCatalog (declare held name edge shards keys)
declared_is held name edge shards keys =
    let more : Result (List Held) CatalogFault = Ok (held ++ empty name edge shards keys ∷ []) in
    one_of OfCatalog (is_some (collection_index held name)) (Err Twice)
    (if nat_lt (length held) 64 then more else Err TooMany) tt
    (one_of OfCatalog (nat_lt (length held) 64) more (Err TooMany) tt tt)

with_index_is : (attributes : List (List ℕ)) (h : Held) → FaultIs OfCatalog (with_index h attributes)
with_index_is attributes h =
    let more : Result Held CatalogFault =
    Ok (record h { info = record h.info { indexes = h.info.indexes ++ attributes ∷ [] } }) in
    one_of OfCatalog (has_index h.info.indexes attributes) (Ok h)
    (if nat_lt (length h.info.indexes) 16 then more else Err TooMany) tt
    (one_of OfCatalog (nat_lt (length h.info.indexes) 16) more (Err TooMany) tt tt)

pub indexed_is : (held : List Held) (n : ℕ) (attributes : List (List ℕ))
    → FaultIs OfCatalog (add_index held n attributes)
indexed_is held n attributes =
    changed_is OfCatalog held n (λ h. with_index h attributes) (with_index_is attributes) (slice_get held n)

-- ---- documents

beside_is : (name key : List ℕ) (id : Option Datum) → FaultIs OfDocument (documents.id_beside name key id)
beside_is name key None = tt
beside_is name key (Some id) =
    one_of OfDocument (is_text (id_of name key) id) (Ok key) (Err IdMismatch) tt tt

key_is : (name : List ℕ) (key : Datum) (id : Option Datum)
    → FaultIs OfDocument (documents.key_beside name key id)
key_is name (text key) id =
    one_of OfDocument (is_key key) (documents.id_beside name key id) (Err BadKey) (beside_is name key id) tt
key_is name null id = tt
key_is name (boolean b) id = tt
key_is name (number n) id = tt
key_is name (array items) id = tt
key_is name (object members) id = tt

allowed_is : (key : Option (List ℕ)) → FaultIs OfDocument (documents.key_allowed key)
allowed_is None = tt
allowed_is (Some key) = one_of OfDocument (is_key key) (Ok key) (Err IdMismatch) tt tt

from_id_is : (name : List ℕ) (id : Datum) → FaultIs OfDocument (documents.key_from_id name id)
from_id_is name (text id) = allowed_is (rest_after (id_of name []) id)
from_id_is name null = tt
from_id_is name (boolean b) = tt
from_id_is name (number n) = tt
from_id_is name (array items) = tt
from_id_is name (object members) = tt

given_is : (name : List ℕ) (key id : Option Datum) → FaultIs OfDocument (documents.key_given name key id)
given_is name (Some key) id = key_is name key id
given_is name None (Some id) = from_id_is name id
given_is name None None = tt

with_key_is : (h : Held) (total : ℕ) (fields : List (List ℕ × Datum)) (key : Result (List ℕ) DocFault)
    → FaultIs OfDocument key → FaultIs OfDocument (documents.with_key h total fields key)
with_key_is h total fields (Err e) k = k
with_key_is h total fields (Ok key) k =
    let more : Result Held DocFault =
    Ok (record h { documents = h.documents ++ documents.fill h.info.name key fields ∷ [] }) in
    let room : Result Held DocFault = if nat_lt total 200000 then more else Err DocTooMany in
    let new : Result Held DocFault = if has_key h.documents key then Err (DuplicateKey key) else room in
    one_of OfDocument (h.info.edge && not (documents.has_ends fields)) (Err BadEdge) new tt
    (one_of OfDocument (has_key h.documents key) (Err (DuplicateKey key)) room tt
    (one_of OfDocument (nat_lt total 200000) more (Err DocTooMany) tt tt))

object_is : (h : Held) (total : ℕ) (fields : Option (List (List ℕ × Datum)))
    → FaultIs OfDocument (documents.with_object h total fields)
object_is h total None = tt
object_is h total (Some fields) =
    with_key_is h total fields _
    (given_is h.info.name (attribute (codes "_key") fields) (attribute (codes "_id") fields))

pub added_is : (held : List Held) (n : ℕ) (t : Datum) → FaultIs OfDocument (documents.add held n t)
added_is held n t =
    changed_is OfDocument held n (λ h. documents.with_document h (documents_in held) t)
    (λ h. object_is h (documents_in held) (members_of t)) (slice_get held n)

-- ---- lines of JSON

whole_is : (t : Option Datum) → FaultIs OfJson (or_not_whole t)
whole_is None = tt
whole_is (Some t) = tt

data_is : (d : Option Data) → FaultIs OfJson (of_data d)
data_is None = tt
data_is (Some d) =
    one_of OfJson (nat_le (depth d) greatest_depth) (or_not_whole (from_json d)) (Err TooDeep)
    (whole_is (from_json d)) tt

pub json_is : (line : List ℕ) → FaultIs OfJson (json_line line)
unfolding json_line
json_is line = one_of OfJson (is_utf8 line) (of_data (read line)) (Err NotJson) (data_is (read line)) tt
