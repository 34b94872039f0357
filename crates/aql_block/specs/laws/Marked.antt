-- Marks that say which values are true-like choose the rows that a FILTER keeps.
use Rattle.std.proofs.Common.{◌≡◌, ◌∙◌, List, [], ◌∷◌, Bool, true, false, cond, refl, ap}
use Rattle.std.specs.Prelude.{map}
use Rattle.aql_value.specs.Datum.{Datum}
use Rattle.aql_value.specs.Truth.{truth}
use Rattle.aql_meaning.specs.Clauses.{filter_true}
use Rattle.aql_block.specs.Tables.{marked}

pub marked_step : {X : Type 0} (x : X) (xs : List X) (b : Bool) (marks : List Bool)
    → marked (x ∷ xs) (b ∷ marks) ≡ cond b (x ∷ marked xs marks) (marked xs marks)
marked_step x xs true marks = refl
marked_step x xs false marks = refl

pub marked-truth : {X : Type 0} (xs : List X) (values : List Datum)
    → marked xs (map truth values) ≡ filter_true xs values
marked-truth [] values = refl
marked-truth (x ∷ xs) [] = refl
marked-truth (x ∷ xs) (v ∷ values) =
    marked_step x xs (truth v) (map truth values)
    ∙ ap (λ rest. cond (truth v) (x ∷ rest) rest) (marked-truth xs values)
