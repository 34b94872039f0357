-- What the search says of the input of a plan's top node, and of a node outside fragments whose input has no
-- place.
use Rattle.std.specs.Prelude.{◌≡◌, Bool, false, Option}
use Rattle.aql_meaning.specs.Uses.{Uses}
use Rattle.aql_plan.specs.Plan.{Plan, Over, top}
use Rattle.aql_plan.specs.Needs.{under}
use Rattle.aql_plan.specs.Above.{input_inside}
use Rattle.aql_rewrite.specs.declared.swap.Rename.{Rename}
use Rattle.aql_rewrite.specs.Places.{Rewriting, Stays, NoPlace, NoPlaceAt, First}

module _ (R : Rewriting) where
  -- the input b of the top node of p has no place, or its first place is rewritten
  abbrev pub NoPlaceBelow : Bool → Uses → Plan → Plan → Type 0
  NoPlaceBelow inside us p b = NoPlace R (input_inside (top p) inside) (under (top p) us) b

  abbrev pub FirstBelow : Bool → Uses → Plan → Plan → Plan → Option Rename → Type 0
  FirstBelow inside us p b c r = First R (input_inside (top p) inside) (under (top p) us) b c r

  -- neither the node nor its body has one
  abbrev pub NoPlaceHere : Uses → Plan → Type 0
  NoPlaceHere us p = NoPlaceAt R false (Stays R us p) (top p)

  -- the first place is at the node or in its body
  abbrev pub FirstHere : Uses → Plan → Plan → Option Rename → Type 0
  FirstHere us p q r = (b : Plan) → p ≡ Over b (top p) → NoPlaceBelow false us p b → First R false us p q r
