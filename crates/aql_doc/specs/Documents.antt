-- The catalog after one more document, or the first fault of the document (AQL fundamentals, Accessing data
-- from collections; Graphs, edges). A document is held with its `_key` and its `_id`: where the key is
-- missing it comes from the id, and where the id is missing it comes from the key. An edge also has `_from`
-- and `_to`.
use Rattle.std.specs.Prelude.{ℕ, List, [], ◌∷◌, ◌++◌, Bool, ◌&&◌, not, Option, Some, None, Result, Ok, Err, if◌then◌else◌, codes, nat_lt, slice_get}
use Rattle.aql_value.specs.Datum.{Datum, text}
use Rattle.aql_value.specs.Attributes.{attribute, with_attribute}
use Rattle.aql_value.specs.Contents.{members_of, record_of}
use Rattle.aql_doc.specs.Keys.{is_key, id_of, is_text, rest_after, is_end}
use Rattle.aql_doc.specs.Held.{Held, documents_in}
use Rattle.aql_doc.specs.KeySet.{has_key}
use Rattle.aql_doc.specs.Declarations.{change}
use Rattle.aql_doc.specs.declared.faults.DocFault.{DocFault}
use Rattle.aql_doc.specs.declared.faults.DocFault.TheVariants.{NotObject, BadKey, IdMismatch, BadEdge, DuplicateKey, TooMany}

-- a key, beside an id that is there or not
abbrev pub id_beside : List ℕ → List ℕ → Option Datum → Result (List ℕ) DocFault
id_beside name key None = Ok key
id_beside name key (Some id) = if is_text (id_of name key) id then Ok key else Err IdMismatch

abbrev pub key_beside : List ℕ → Datum → Option Datum → Result (List ℕ) DocFault
key_beside name (text key) id = if is_key key then id_beside name key id else Err BadKey
key_beside name t id = Err BadKey

-- the key after the name and the slash of an id
abbrev pub key_allowed : Option (List ℕ) → Result (List ℕ) DocFault
key_allowed (Some key) = if is_key key then Ok key else Err IdMismatch
key_allowed None = Err IdMismatch

abbrev pub key_from_id : List ℕ → Datum → Result (List ℕ) DocFault
key_from_id name (text id) = key_allowed (rest_after (id_of name []) id)
key_from_id name t = Err IdMismatch

-- the key that `_key` and `_id` give
abbrev pub key_given : List ℕ → Option Datum → Option Datum → Result (List ℕ) DocFault
key_given name (Some key) id = key_beside name key id
key_given name None (Some id) = key_from_id name id
key_given name None None = Err BadKey

unfoldable pub has_ends : List (List ℕ × Datum) → Bool
has_ends fields = is_end (attribute (codes "_from") fields) && is_end (attribute (codes "_to") fields)

-- the document with its key and its id
unfoldable pub fill : List ℕ → List ℕ → List (List ℕ × Datum) → Datum
fill name key fields =
    record_of
    (with_attribute (codes "_id") (text (id_of name key))
    (with_attribute (codes "_key") (text key) fields))

-- the collection with the document, where so many documents are held in all
abbrev pub with_key : Held → ℕ → List (List ℕ × Datum) → Result (List ℕ) DocFault → Result Held DocFault
with_key h total fields (Err fault) = Err fault
with_key h total fields (Ok key) =
    if h.info.edge && not (has_ends fields) then Err BadEdge
    else (if has_key h.documents key then Err (DuplicateKey key)
    else (if nat_lt total 200000
    then Ok (record h { documents = h.documents ++ fill h.info.name key fields ∷ [] }) else Err TooMany))

abbrev pub with_members : Held → ℕ → List (List ℕ × Datum) → Result Held DocFault
with_members h total fields =
    with_key h total fields
    (key_given h.info.name (attribute (codes "_key") fields) (attribute (codes "_id") fields))

abbrev pub with_object : Held → ℕ → Option (List (List ℕ × Datum)) → Result Held DocFault
with_object h total (Some fields) = with_members h total fields
with_object h total None = Err NotObject

abbrev pub with_document : Held → ℕ → Datum → Result Held DocFault
with_document h total t = with_object h total (members_of t)

abbrev pub add : List Held → ℕ → Datum → Result (List Held) DocFault
add held number t = change held number (λ h. with_document h (documents_in held) t) (slice_get held number)
