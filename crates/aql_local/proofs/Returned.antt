-- What holds of a value that was returned, and a node of three equal parts.
use Rattle.std.proofs.Common.{◌≡◌, ap, ◌∙◌}
use Rattle.std.specs.Prelude.{Result, Ok, Err, IfOk}
use Rattle.aql_exec.specs.Operators.{Operator, OperatorTree, within}

pub if_map : {T E : Type 0} {P Q : T → Type 0} (r : Result T E) → IfOk r P → ((x : T) → P x → Q x) → IfOk r Q
if_map (Ok x) h f = f x h
if_map (Err e) h f = tt

pub within_is : {o o' : Operator} {t t' u u' : OperatorTree} → o ≡ o' → t ≡ t' → u ≡ u'
    → within o t u ≡ within o' t' u'
within_is {o' = o'} {t = t} {t' = t'} {u = u} e f h =
    ap (λ z. within z t u) e ∙ ap (λ z. within o' z u) f ∙ ap (λ z. within o' t' z) h
