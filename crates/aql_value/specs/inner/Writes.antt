-- What a private call that writes leaves: the text appended, or a part of it where memory ran out.
use Rattle.std.specs.Prelude.{◌≡◌, List, ℕ, ◌++◌, ◌∷◌, Result, OnOk, OnErr}
use Rattle.json.specs.Print.{quoted}
use Rattle.aql_value.specs.Json.{comma_if, json_text}
use Rattle.aql_value.specs.View.{datum_of}
use Rattle.aql_value.specs.declared.values.Member.{Member}
use Rattle.std.specs.Prelude.{Bool}

abbrev pub Extends : List ℕ → List ℕ → Type 0
Extends old new = (rest : List ℕ) × (new ≡ old ++ rest)

-- the text was appended; where memory ran out, maybe a part of it
abbrev pub Writes : {T E : Type 0} → Result T E → List ℕ → List ℕ → List ℕ → Type 0
Writes r old new text = OnOk r (new ≡ old ++ text) × OnErr r (Extends old new)

abbrev pub member_text : Bool → Member → List ℕ
member_text later m = comma_if later ++ (quoted m.name ++ 58 ∷ json_text (datum_of m.value))
