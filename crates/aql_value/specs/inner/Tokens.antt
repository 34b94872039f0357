-- What one pass over the tokens of a line reads; for private clauses.
use Rattle.std.specs.Prelude.{◌≡◌, ◌+◌, ◌≤◌, ℕ, List, Option, Some, length}
use Rattle.json.specs.Token.{Token}
use Rattle.json.specs.Json as grammar
use Rattle.serde_json.specs.Data as json
use Rattle.serde_json.specs.Read.{of_json, of_items, of_members}
use Rattle.aql_value.specs.Datum.{Datum, Datums, Fields, array_of, object_of}
use Rattle.aql_value.specs.FromJson.{from_json, items_from_json, members_from_json}

-- a tree of the grammar is data that stands for the value, and the data nests within the depth
pub record Stands {A B C : Type 0} (of : A → Option B) (from : B → Option C) (nests : B → ℕ) (room : ℕ)
    (tree : A) (value : C) : Type 0 where
  pub json_data : B
  pub of_is : of tree ≡ Some json_data
  pub from_is : from json_data ≡ Some value
  pub within : nests json_data ≤ room

abbrev pub ValueStands : ℕ → Datum → grammar.Json → Type 0
ValueStands room t j = Stands of_json from_json json.depth room j t

abbrev pub ItemsStand : ℕ → Datums → grammar.Items → Type 0
ItemsStand room ts js = Stands of_items items_from_json json.items_depth room js ts

abbrev pub MembersStand : ℕ → Fields → grammar.Members → Type 0
MembersStand room fs ms =
    Stands (λ tree. of_members tree json.no_members) members_from_json json.members_depth room ms fs

-- a tree was read that has the property, and these tokens are left
pub record Reads {A : Type 0} (Is : A → Type 0) (read : Option (A × List Token)) (left : List Token)
    : Type 0 where
  pub tree : A
  pub is : read ≡ Some (tree, left)
  pub stands : Is tree

-- of the 127 levels that `serde_json` opens, 63 stay closed
abbrev pub levels : ℕ → ℕ
levels room = room + 63

abbrev pub ReadsValue : ℕ → List Token → List Token → Datum → Type 0
ReadsValue room tokens left t = Reads (ValueStands room t) (grammar.value (levels room) tokens) left

abbrev pub ReadsItems : ℕ → List Token → List Token → List Datum → Type 0
ReadsItems room tokens left ts =
    Reads (ItemsStand room (array_of ts))
    (grammar.items (grammar.value (levels room)) (length tokens) tokens) left

abbrev pub ReadsMembers : ℕ → List Token → List Token → List (List ℕ × Datum) → Type 0
ReadsMembers room tokens left fs =
    Reads (MembersStand room (object_of fs))
    (grammar.members (grammar.value (levels room)) (length tokens) tokens) left
