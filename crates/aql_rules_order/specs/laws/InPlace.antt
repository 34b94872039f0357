-- A step in the input of a plan.
use Rattle.std.proofs.Common.{◌≡◌, Bool, true, false, refl, ap, subst}
use Rattle.aql_plan.specs.Plan.{Plan, Over, Node}
use Rattle.aql_rules_order.specs.Readers.{Becomes, InputBecomes}

pub input_becomes : (R : Plan → Plan → Type 0) (b c : Plan) (n : Node) (changed : Bool)
    → Becomes R b c changed → InputBecomes R (Over b n) (Over c n) changed
input_becomes R b c n true h = (b, c, refl, refl, h)
input_becomes R b c n false h = (
  (λ a s e k. let d : a ≡ b = cc in h.0 s (subst (λ (p : Plan). R p s) d k)),
  ap (λ (p : Plan). Over p n) h.1,
)
