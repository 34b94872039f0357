-- A part to which a rule was applied again and again at its first place, until there is none: for the
-- contracts of private functions alone.
use Rattle.std.specs.Prelude.{◌≡◌, Bool, true, false, None}
use Rattle.aql_meaning.specs.Uses.{Uses}
use Rattle.aql_plan.specs.Plan.{Plan}
use Rattle.aql_rewrite.specs.inner.Applications.{Applications, Application}
use Rattle.aql_rewrite.specs.Places.{Rewriting, NoPlace}
use Rattle.aql_rewrite.specs.InputPlaces.{NoPlaceHere, FirstHere}

-- q is p after such applications, by what is used above; two flags tell whether there was one before, and
-- whether there is one by then
pub record Finishes (R : Rewriting) (us : Uses) (p q : Plan) (x y : Bool) : Type 0 where
  pub reached : Applications Plan (Application R us) p q x y
  pub ended : NoPlace R false us q

module _ (R : Rewriting) (us : Uses) (p q : Plan) where
  -- one application that renames nothing, at the first place, or none where there is no place
  abbrev pub IsRewritten : Bool → Type 0
  IsRewritten true = Application R us p q
  IsRewritten false = NoPlace R false us p × (q ≡ p)

  -- the same of a node and its body, where the input has no place
  abbrev pub IsRewrittenHere : Bool → Type 0
  IsRewrittenHere true = FirstHere R us p q None
  IsRewrittenHere false = NoPlaceHere R us p × (q ≡ p)
