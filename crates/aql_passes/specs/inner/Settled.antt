-- Plans in which no node swaps places with the node below it, and applications one after another until there
-- is none.
use Rattle.std.specs.Prelude.{◌≡◌, Bool, false}
use Rattle.aql_meaning.specs.Uses.{Uses}
use Rattle.aql_plan.specs.Nodes.{weight}
use Rattle.aql_plan.specs.Plan.{Plan, Singleton, Over, Node, Subquery}
use Rattle.aql_plan.specs.Shapes.{HasNoFragment}
use Rattle.aql_rewrite.specs.Places.{Rewriting}
use Rattle.aql_rewrite.specs.Exchanged.{goes_below}
use Rattle.aql_rewrite.specs.inner.Applications.{Applications, Application}

module _ (swaps : Node → Node → Bool) where
  abbrev mutual
    -- no node of a plan does, nor one of its bodies
    pub Settled : Plan → Type 0
    Settled Singleton = Unit {0}
    Settled (Over b n) = Settled b × (goes_below swaps b n ≡ false) × SettledIn n

    pub SettledIn : Node → Type 0
    SettledIn (Subquery x s) = Settled s
    SettledIn n = Unit {0}

-- ---- for the contracts of private functions alone

module _ (R : Rewriting) where
  -- q is p after applications until there is no place, whatever is used above; two flags tell whether there
  -- was one before, and whether there is one by then
  pub record Settles (swaps : Node → Node → Bool) (p q : Plan) (x y : Bool) : Type 0 where
    pub reached : (us : Uses) → Applications Plan (Application R us) p q x y
    pub settled : Settled swaps q
    pub lone : HasNoFragment q
    pub nodes : weight q ≡ weight p
