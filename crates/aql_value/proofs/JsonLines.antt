-- What a line of JSON gives, from what was read of it.
use Rattle.std.proofs.Common.{◌≡◌, ◌≤◌, if◌then◌else◌, ℕ, List, Some, None, Ok, Err, true, false, refl, inl, inr, nat_le, arith}
use Rattle.std.specs.Prelude.{◌⊎◌, IsUtf8, Result, IfOk, IfErr, MatchResult}
use Rattle.std.specs.Str.{is_utf8}
use Rattle.std.proofs.lemmas.Str.{is_utf8-from_IsUtf8, IsUtf8-from_is_utf8}
use Rattle.serde_json.specs.Data.{Data, depth}
use Rattle.serde_json.specs.Read.{read}
use Rattle.aql_value.specs.Datum.{Datum}
use Rattle.aql_value.specs.FromJson.{from_json}
use Rattle.aql_value.specs.JsonLine.{json_line, of_data, greatest_depth, Refuses}
use Rattle.aql_value.specs.View.{datum_of}
use Rattle.aql_value.specs.declared.values.Value.{Value}
use Rattle.aql_value.specs.declared.reading.JsonFault.{JsonFault}
use Rattle.aql_value.specs.declared.reading.JsonFault.TheVariants.{NotJson, TooDeep, NotWhole, Memory}

within : (d : Data) → depth d ≤ greatest_depth → nat_le (depth d) greatest_depth ≡ true
within d h = grind (arith, h)

beyond : (d : Data) → (depth d ≤ greatest_depth → ⊥) → nat_le (depth d) greatest_depth ≡ false
beyond d h = grind (arith, h)

pub read_whole : (d : Data) (t : Datum) (line : List ℕ)
    → IsUtf8 line → read line ≡ Some d → depth d ≤ greatest_depth → from_json d ≡ Some t
    → json_line line ≡ Ok t
unfolding json_line
read_whole d t line u r h w = rw (is_utf8-from_IsUtf8 line u, r, within d h, w) refl

read_part : (d : Data) (line : List ℕ)
    → IsUtf8 line → read line ≡ Some d → depth d ≤ greatest_depth → from_json d ≡ None
    → json_line line ≡ Err NotWhole
unfolding json_line
read_part d line u r h w = rw (is_utf8-from_IsUtf8 line u, r, within d h, w) refl

-- what is turned into a value, or not
abbrev Turned : Data → Result Value JsonFault → Type 0
Turned d r = MatchResult r (λ v. from_json d ≡ Some (datum_of v)) (λ e. Refuses e (from_json d ≡ None))

pub value_is : (d : Data) (line : List ℕ) (r : Result Value JsonFault)
    → IsUtf8 line → read line ≡ Some d → depth d ≤ greatest_depth → Turned d r
    → IfOk r (λ v. json_line line ≡ Ok (datum_of v))
value_is d line (Ok v) u r h w = read_whole d (datum_of v) line u r h w
value_is d line (Err e) u r h w = tt

pub fault_is : (d : Data) (line : List ℕ) (r : Result Value JsonFault)
    → IsUtf8 line → read line ≡ Some d → depth d ≤ greatest_depth → Turned d r
    → IfErr r (λ e. (e ≡ Memory) ⊎ (json_line line ≡ Err e))
fault_is d line (Ok v) u r h w = tt
fault_is d line (Err NotJson) u r h w = absurd w
fault_is d line (Err TooDeep) u r h w = absurd w
fault_is d line (Err NotWhole) u r h w = inr (read_part d line u r h w)
fault_is d line (Err Memory) u r h w = inl refl

pub deep_is : (d : Data) (line : List ℕ)
    → IsUtf8 line → read line ≡ Some d → (depth d ≤ greatest_depth → ⊥) → json_line line ≡ Err TooDeep
unfolding json_line
deep_is d line u r h = rw (is_utf8-from_IsUtf8 line u, r, beyond d h) refl

pub none_is : (line : List ℕ) → (IsUtf8 line → read line ≡ None) → json_line line ≡ Err NotJson
unfolding json_line
none_is line h =
    elim (is_utf8 line)
    as (λ b. is_utf8 line ≡ b → (if b then of_data (read line) else Err NotJson) ≡ Err NotJson) [
      | true ↦ λ u. rw (h (IsUtf8-from_is_utf8 line u)) refl
      | false ↦ λ u. refl
    ] refl
