-- A part to which a rule was applied again and again at its first place, until there is none, whatever is
-- used above: for the contracts of private functions alone. The rule renames nothing.
use Rattle.std.specs.Prelude.{Bool, true, None}
use Rattle.aql_meaning.specs.Uses.{Uses}
use Rattle.aql_plan.specs.Plan.{Plan}
use Rattle.aql_rewrite.specs.Places.{Rewriting, Stays, First, NoPlace}
use Rattle.aql_rewrite.specs.inner.Applications.{Applications}

-- one application, where `inside` tells whether the part stands in a fragment
abbrev pub AppliedOnce : Rewriting → Bool → Uses → Plan → Plan → Type 0
AppliedOnce R inside us p q = First R inside us p q None

-- two flags tell whether there was an application before, and whether there is one by then
pub record IsWalked (R : Rewriting) (inside : Bool) (p q : Plan) (x y : Bool) : Type 0 where
  pub reached : (us : Uses) → Applications Plan (AppliedOnce R inside us) p q x y
  pub ended : (us : Uses) → NoPlace R inside us q

-- one application at the top node, or none where the rule does not apply there
pub data IsRewritten (R : Rewriting) (p : Plan) : Plan → Bool → Bool → Type 0 where
  applied : {q : Plan} {x : Bool} → ((us : Uses) → R us p q None) → IsRewritten R p q x true
  stayed : {x : Bool} → ((us : Uses) → Stays R us p) → IsRewritten R p p x x
