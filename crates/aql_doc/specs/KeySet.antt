-- The keys that the documents of a collection take, and a set of them.
use Rattle.std.specs.Prelude.{◌≡◌, ℕ, List, [], Bool, String, bytes_eq, codes}
use Rattle.std.specs.List.{list_any}
use Rattle.std.specs.HashSet.{HashSet, contains_text}
use Rattle.aql_value.specs.Datum.{Datum, text}
use Rattle.aql_value.specs.Contents.{at_name}

-- the bytes of a text, and of nothing else
abbrev pub bytes_of : Datum → List ℕ
bytes_of (text s) = s
bytes_of t = []

-- a held document's key
abbrev pub key_of : Datum → List ℕ
key_of d = bytes_of (at_name d (codes "_key"))

unfoldable pub has_key : List Datum → List ℕ → Bool
has_key documents key = list_any (λ d. bytes_eq key (key_of d)) documents

-- the set has the keys of the documents
abbrev pub Takes : {Y S : Type 0} → HashSet (String Y) S → List Datum → Type 0
Takes taken documents = (key : List ℕ) → contains_text taken key ≡ has_key documents key
