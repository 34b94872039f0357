-- What some forms of expressions make of the values of their parts: array comparison operators, object
-- literals and the logical operators (AQL fundamentals, Operators and Data types). What the other operators
-- and the functions do stands with their names, in the crate of functions.
use Rattle.std.specs.Prelude.{ℕ, ◌≡◌, List, [], map, Bool, not, ◌&&◌}
use Rattle.std.specs.Bool.{MatchBool}
use Rattle.std.specs.List.{list_any, list_all}
use Rattle.aql_value.specs.Datum.{Datum, boolean}
use Rattle.aql_value.specs.Contents.{record_of, elements}
use Rattle.aql_value.specs.Truth.{truth}
use Rattle.aql_value.specs.declared.operators.BinOp.{BinOp}
use Rattle.aql_value.specs.declared.operators.BinOp.TheVariants.{And, Or}
use Rattle.aql_func.specs.Arguments.{is_array}
use Rattle.aql_func.specs.Objects.{with_all}
use Rattle.aql_func.specs.Operators.{binary}
use Rattle.aql_tree.specs.declared.syntax.QuantKind.{QuantKind}
use Rattle.aql_tree.specs.declared.syntax.QuantKind.TheVariants.{All, Any, None}

-- whether all, any or none of the answers is yes
abbrev pub holds_for : QuantKind → List Bool → Bool
holds_for All answers = list_all (λ b. b) answers
holds_for Any answers = list_any (λ b. b) answers
holds_for None answers = not (list_any (λ b. b) answers)

-- `a ALL op b`, `a ANY op b`, `a NONE op b`: each element of a against b; false where a isn't an array
abbrev pub quantify : QuantKind → BinOp → Datum → Datum → Datum
quantify kind op a b =
    boolean (is_array a && holds_for kind (map (λ element. truth (binary op element b)) (elements a)))

-- an object literal of these members: a repeated name keeps its last value
abbrev pub object_value : List (List ℕ × Datum) → Datum
object_value members = record_of (with_all [] members)

-- `a op e` gives v, where `Right` says which values e has: `&&` and `||` look at e only where they need it
abbrev pub LinkGives : BinOp → (Datum → Type 0) → Datum → Datum → Type 0
LinkGives And Right a v = MatchBool (truth a) (Right v) (v ≡ a)
LinkGives Or Right a v = MatchBool (truth a) (v ≡ a) (Right v)
LinkGives op Right a v = (b : Datum) × Right b × (v ≡ binary op a b)
