-- What is exact of a node is exact of its executor and of its inputs.
use Rattle.std.specs.Prelude.{◌≡◌, Bool, true, false, refl, ◌&&◌}
use Rattle.std.proofs.lemmas.Bool.{false≢true}
use Rattle.aql_exec.specs.Rests.{Exact, Within, Rest, IsOver}
use Rattle.aql_exec.specs.Operators.{Operator, OperatorTree, within, exact_at, exact_tree}

pub and_left : (a b : Bool) → a && b ≡ true → a ≡ true
and_left true b e = refl
and_left false b e = absurd (false≢true e)

pub and_right : (a b : Bool) → a && b ≡ true → b ≡ true
and_right true b e = e
and_right false b e = absurd (false≢true e)

pub exact_node : (o : Operator) (below body : OperatorTree)
    → Within (exact_tree (within o below body)) (exact_at o)
exact_node o below body c h = and_left _ _ (and_left _ _ h)

pub exact_below : (o : Operator) (below body : OperatorTree)
    → Within (exact_tree (within o below body)) (exact_tree below)
exact_below o below body c h = and_right _ _ (and_left _ _ h)

pub exact_body : (o : Operator) (below body : OperatorTree)
    → Within (exact_tree (within o below body)) (exact_tree body)
exact_body o below body c h =
    and_right (exact_at o c && exact_tree below c) (exact_tree body c) h

pub over_weaker : (e f : Exact) (r : Rest) → Within e f → IsOver f r → IsOver e r
over_weaker e f r k h = (h.0, λ c i. h.1 c (k c i))

pub same_exact : {A : Type 0} (f : A → Exact) (a b : A) → a ≡ b → Within (f a) (f b)
same_exact f a b e c h = rw (← e) h
