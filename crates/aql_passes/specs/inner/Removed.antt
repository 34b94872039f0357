-- A rule that takes nodes away and renames above, applied again and again until it has no place: for the
-- contracts of private functions alone.
use Rattle.std.specs.Prelude.{Bool, true, false, List, [], ◌++◌, Option, option_to_list}
use Rattle.aql_meaning.specs.Uses.{Uses}
use Rattle.aql_plan.specs.Plan.{Plan, Singleton, Over}
use Rattle.aql_rewrite.specs.declared.swap.Rename.{Rename}
use Rattle.aql_rewrite.specs.Places.{Rewriting, First, NoPlace}

module _ (R : Rewriting) where
  -- q is p after applications one after another, each at the first place; the list is what they rename above,
  -- in their order; two flags tell whether there was one before, and whether there is one by then
  pub data Way (us : Uses) : Plan → Plan → List Rename → Bool → Bool → Type 0 where
    at_once : {p : Plan} {x : Bool} → Way us p p [] x x
    next : {p m q : Plan} {rs : List Rename} {r : Option Rename} {x y : Bool} → Way us p m rs x y
        → First R false us m q r → Way us p q (rs ++ option_to_list r) x true

  -- until there is no place
  pub record Removes (p q : Plan) (rs : List Rename) (x y : Bool) : Type 0 where
    pub reached : Way [] p q rs x y
    pub ended : NoPlace R false [] q

  -- the input of the top node has no place
  abbrev pub NoPlaceUnder : Plan → Type 0
  NoPlaceUnder Singleton = Unit {0}
  NoPlaceUnder (Over b n) = NoPlace R false [] b
