-- Applications of a rule one after another. Two flags tell whether there was one before, and whether there is
-- one by then.
use Rattle.std.specs.Prelude.{Bool, true, false, None}
use Rattle.aql_meaning.specs.Uses.{Uses}
use Rattle.aql_plan.specs.Plan.{Plan}
use Rattle.aql_rewrite.specs.Places.{Rewriting, First}

-- steps one after another
pub data Applications (A : Type 0) (S : A → A → Type 0) : A → A → Bool → Bool → Type 0 where
  at_once : {a : A} {x : Bool} → Applications A S a a x x
  next : {a m d : A} {x y : Bool} → Applications A S a m x y → S m d → Applications A S a d x true

-- one application that renames nothing, in a plan without fragments
abbrev pub Application : Rewriting → Uses → Plan → Plan → Type 0
Application R us p q = First R false us p q None
