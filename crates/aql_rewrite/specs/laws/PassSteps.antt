-- What an application shows of itself holds of applications one after another, and so of a pass and of the
-- plan that it gives.
use Rattle.std.proofs.Common.{◌≡◌, Bool, true, false, refl, sym, subst}
use Rattle.std.specs.Prelude.{None}
use Rattle.aql_plan.specs.declared.facts.Facts.{Facts}
use Rattle.aql_plan.specs.Needs.{result_uses}
use Rattle.aql_plan.specs.Plan.{Plan}
use Rattle.aql_plan.specs.Refines.{Refines}
use Rattle.aql_rewrite.specs.Placed.{IsWhole}
use Rattle.aql_rewrite.specs.Places.{Rewriting, First, NoPlace, Reaches, at_once as reached_at_once, next as then_next, IsPass}
use Rattle.aql_rewrite.specs.Swaps.{SetsNoMore}
use Rattle.aql_rewrite.specs.laws.Steps.{Refining, Keeping, IsStep, some_step, refines_through_answers, sets_self, sets_through}
use Rattle.aql_rewrite.specs.inner.Applications.{Applications, at_once, next}

module _ (R : Rewriting) where
  -- one application that renames nothing, in a plan without fragments
  abbrev Step : Plan → Plan → Type 0
  Step p q = First R false result_uses p q None

  reaches : {p q : Plan} {x y : Bool} → x ≡ false → Applications Plan Step p q x y → Reaches R p q y
  reaches {p = p} e at_once = subst (λ (c : Bool). Reaches R p p c) (sym e) reached_at_once
  reaches e (next k s) = then_next (reaches e k) s

  pub is_pass : (p q : Plan) (x y : Bool) → x ≡ false → Applications Plan Step p q x y
      → NoPlace R false result_uses q → IsPass R p q y
  is_pass p q x y e h k = record { reached = reaches e h; ended = k }

  module _ (facts : Facts) where
    pub record Sound (p q : Plan) : Type 0 where
      pub refines : Refines facts q p
      pub whole : IsWhole false facts q
      pub sets : SetsNoMore p q

    module _ (refines : Refining false facts R) (keeps : Keeping false facts R) where
      one_step : (p q : Plan) → IsWhole false facts p → Step p q → IsStep false facts R p q true
      one_step p q whole h = some_step false facts R refines keeps result_uses p q None refl whole h

      sound : {p q : Plan} {x y : Bool} → IsWhole false facts p → Applications Plan Step p q x y → Sound p q
      sound {p = p} whole at_once = record {
        refines = λ db meets start vs a. a;
        whole = whole;
        sets = sets_self p;
      }
      sound {p = p} whole (next {m = m} {d = q} k h) =
          let before = sound whole k in
          let s = one_step m q before.whole h in record {
            refines = refines_through_answers facts p m q s.refines before.refines;
            whole = s.whole;
            sets = sets_through p m q before.sets s.sets;
          }

    -- the rule is one for plans without fragments
    pub pass_sound : (fragments : Bool) → fragments ≡ false → Refining fragments facts R
        → Keeping fragments facts R → (p q : Plan) (x y : Bool) → IsWhole false facts p
        → Applications Plan Step p q x y → Sound p q
    pass_sound fragments e refines keeps p q x y whole h =
        sound (subst (λ (k : Bool). Refining k facts R) e refines)
        (subst (λ (k : Bool). Keeping k facts R) e keeps) whole h
