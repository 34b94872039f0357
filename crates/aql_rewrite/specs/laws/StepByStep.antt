-- Steps one after another.
use Rattle.std.proofs.Common.{Bool}
use Rattle.aql_rewrite.specs.inner.Applications.{Applications, at_once, next}

module _ (A : Type 0) (S : A → A → Type 0) where
  -- what holds at first, and stays at each step, holds at the end
  pub keeps_on : (P : A → Type 0) → ((a d : A) → S a d → P a → P d)
      → {a d : A} {x y : Bool} → Applications A S a d x y → P a → P d
  keeps_on P law at_once p = p
  keeps_on P law (next {m = m} {d = d} k s) p = law m d s (keeps_on P law k p)

  pub joined : {a m d : A} {x y z : Bool} → Applications A S a m x y → Applications A S m d y z
      → Applications A S a d x z
  joined h at_once = h
  joined h (next k s) = next (joined h k) s

-- steps of what something is made of
pub along : (A B : Type 0) (S : A → A → Type 0) (T : B → B → Type 0) (f : A → B)
    → ((a d : A) → S a d → T (f a) (f d)) → {a d : A} {x y : Bool} → Applications A S a d x y
    → Applications B T (f a) (f d) x y
along A B S T f law at_once = at_once
along A B S T f law (next {m = m} {d = d} k s) = next (along A B S T f law k) (law m d s)
