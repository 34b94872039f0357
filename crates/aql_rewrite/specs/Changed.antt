-- Rules that change nothing but the top node of a part.
use Rattle.std.specs.Prelude.{◌≡◌, Bool, true, false, Option, None}
use Rattle.aql_meaning.specs.Uses.{Uses}
use Rattle.aql_plan.specs.Above.{input_inside}
use Rattle.aql_plan.specs.Needs.{under, needs}
use Rattle.aql_plan.specs.Nodes.{body_in}
use Rattle.aql_plan.specs.Plan.{Plan, Over, top}
use Rattle.aql_rewrite.specs.declared.swap.Rename.{Rename}
use Rattle.aql_rewrite.specs.Places.{Rewriting, Stays}

module _ (R : Rewriting) (us : Uses) (p q : Plan) where
  -- one application at the top node, or none where the rule does not apply there
  abbrev pub IsChanged : Bool → Type 0
  IsChanged true = R us p q None
  IsChanged false = Stays R us p × (q ≡ p)

  -- q has the input of p, and uses as much of it; neither node has a body, and the rule does not apply again
  pub record Changes (r : Option Rename) : Type 0 where
    pub nameless : r ≡ None
    pub input : (b : Plan) → p ≡ Over b (top p) → q ≡ Over b (top q)
    pub bare : (body_in (top p) ≡ None) × (body_in (top q) ≡ None)
    pub inside : input_inside (top q) false ≡ input_inside (top p) false
    pub uses : (vs : Uses) → under (top q) vs ≡ under (top p) vs
    pub needed : (vs : Uses) → needs q vs ≡ needs p vs
    pub once : Stays R us q
