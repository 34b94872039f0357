-- The keys of documents and the ids that they make (AQL fundamentals, Accessing data from collections; the
-- manual's document keys). An id is a collection's name, a slash and a key.
use Rattle.std.specs.Prelude.{ℕ, List, ◌∷◌, ◌++◌, ◌-◌, Bool, false, not, ◌&&◌, ◌||◌, nat_lt, nat_le, nat_eq, length, count_by, slice_index, take, drop, codes, bytes_eq, Option, Some, None, if◌then◌else◌}
use Rattle.std.specs.List.{list_any, list_all}
use Rattle.aql_value.specs.Datum.{Datum, text}

abbrev pub is_between : ℕ → ℕ → ℕ → Bool
is_between low high b = nat_le low b && nat_le b high

-- a letter, a digit or one of these characters
unfoldable pub is_key_byte : ℕ → Bool
is_key_byte b = is_between 97 122 b || is_between 65 90 b || is_between 48 57 b
    || list_any (nat_eq b) (codes "_-:.@()+,=;$!*'%")

-- 1 to 254 of these bytes
abbrev pub is_key : List ℕ → Bool
is_key key = nat_lt 0 (length key) && nat_lt (length key) 255 && list_all is_key_byte key

abbrev pub id_of : List ℕ → List ℕ → List ℕ
id_of name key = name ++ 47 ∷ key

-- the value is this text
abbrev pub is_text : List ℕ → Datum → Bool
is_text s (text t) = bytes_eq t s
is_text s t = false

-- what stands after a front, where it is one
abbrev pub rest_after : List ℕ → List ℕ → Option (List ℕ)
rest_after front s = if bytes_eq (take (length front) s) front then Some (drop (length front) s) else None

abbrev pub is_slash : ℕ → Bool
is_slash b = nat_eq b 47

-- one slash, which is neither the first byte nor the last
abbrev pub is_id : List ℕ → Bool
is_id s = nat_eq (count_by is_slash s) 1 && not (is_slash (slice_index s 0))
    && not (is_slash (slice_index s (length s - 1)))

-- what an edge has at `_from` and at `_to`
abbrev pub is_end : Option Datum → Bool
is_end (Some (text s)) = is_id s
is_end v = false
