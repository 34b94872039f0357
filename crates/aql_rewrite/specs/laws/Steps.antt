-- One application at the first place of a whole plan, and many of them.
use Rattle.std.proofs.Common.{◌≡◌, ◌∙◌, ℕ, ◌≤◌, ◌<◌, List, [], Bool, true, false, true≢false, refl, subst, sym, not, arith}
use Rattle.std.specs.Prelude.{Option, Some, None}
use Rattle.aql_tree.specs.declared.syntax.Ident.{Ident}
use Rattle.aql_meaning.specs.Uses.{Uses}
use Rattle.aql_plan.specs.declared.facts.Facts.{Facts}
use Rattle.aql_plan.specs.Plan.{Plan, Over, Node, Subquery}
use Rattle.aql_plan.specs.Needs.{under, result_uses}
use Rattle.aql_plan.specs.Above.{input_inside}
use Rattle.aql_plan.specs.Variables.{vars_of, set_once, vars_set}
use Rattle.aql_plan.specs.Refines.{Refines}
use Rattle.aql_rewrite.specs.declared.swap.Rename.{Rename}
use Rattle.aql_rewrite.specs.Places.{renamed_by, Rewriting, NoPlace, First, AppliesOnce, Reaches, at_once, next}
use Rattle.aql_rewrite.specs.Placed.{IsWhole, Placed}
use Rattle.aql_rewrite.specs.Swaps.{Replaced, SetsNoMore, KeepsPlaced}
use Rattle.aql_rewrite.specs.laws.PlacedBelow.{whole_placed, placed_body}
use Rattle.aql_rewrite.specs.laws.Standing.{StandsBy, stands_over, stands_result, stands_with}
use Rattle.aql_rewrite.specs.laws.Kept.{keeps_over, keeps_body, whole_kept}
use Rattle.aql_rewrite.specs.laws.Carried.{Carries, first_carried}

-- ---- one application

module _ (k : Bool) (facts : Facts) where
  -- the new part stands for the old one, and a well-formed plan stays so
  abbrev Sound : Bool → List Ident → Uses → Plan → Plan → Option Rename → Type 0
  Sound inside outer us p q r =
      StandsBy k inside facts us p q r × KeepsPlaced k inside facts outer us p q r

  sound_over : (inside : Bool) (outer away : List Ident) (us : Uses) (n : Node) (b c : Plan)
      (r : Option Rename)
      → Placed k inside facts outer away us (Over b n)
      → Sound (input_inside n inside) outer (under n us) b c r
      → Sound inside outer us (Over b n) (Over c (renamed_by r n)) r
  sound_over inside outer away us n b c r placed h = (
    stands_over k inside facts outer away us n b c r placed h.0,
    keeps_over k inside facts outer away us n b c r placed h.0 h.1,
  )

  sound_with : (outer away : List Ident) (us : Uses) (x : Ident) (b s t : Plan) (r : Option Rename)
      → Placed k false facts outer away us (Over b (Subquery x s))
      → Sound false (vars_of outer b) result_uses s t r
      → Sound false outer us (Over b (Subquery x s)) (Over b (Subquery x t)) None
  sound_with outer away us x b s t r placed h = (
    stands_with k facts us x b s t r (placed_body k false facts outer away us x s b placed).numbers h.0,
    keeps_body k false facts outer away us x s t b r placed h.1,
  )

  stands_here : (us : Uses) (p q : Plan) (r : Option Rename) → Replaced k facts us p q r
      → StandsBy k false facts us p q r
  stands_here us p q None h = h
  stands_here us p q (Some r) h = h

  module _ (R : Rewriting) where
    abbrev pub Refining : Type 0
    Refining = (outer away : List Ident) (us : Uses) (p q : Plan) (r : Option Rename)
        → Placed k false facts outer away us p → R us p q r → Replaced k facts us p q r

    abbrev pub Keeping : Type 0
    Keeping = (outer away : List Ident) (us : Uses) (p q : Plan) (r : Option Rename)
        → Placed k false facts outer away us p → R us p q r → KeepsPlaced k false facts outer us p q r

    part_sound : Refining → Keeping → (outer away : List Ident) (us : Uses) (p q : Plan) (r : Option Rename)
        → Placed k false facts outer away us p → First R false us p q r → Sound false outer us p q r
    part_sound refines keeps outer away us p q r placed h =
        first_carried k facts R Sound (record { over = sound_over; with = sound_with })
        (λ outer away us p q r placed h. (
          stands_here us p q r (refines outer away us p q r placed h),
          keeps outer away us p q r placed h,
        )) h outer away placed

    pub part_kept : Refining → Keeping
        → (outer away : List Ident) (us : Uses) (p q : Plan) (r : Option Rename)
        → Placed k false facts outer away us p → First R false us p q r
        → KeepsPlaced k false facts outer us p q r
    part_kept refines keeps outer away us p q r placed h =
        (part_sound refines keeps outer away us p q r placed h).1

    -- the plan after one application, or after none
    pub record IsStep (p q : Plan) (changed : Bool) : Type 0 where
      pub stepped : AppliesOnce R p q changed
      pub refines : Refines facts q p
      pub whole : IsWhole k facts q
      pub sets : SetsNoMore p q

    pub some_step : Refining → Keeping → (us : Uses) (p q : Plan) (r : Option Rename) → us ≡ result_uses
        → IsWhole k facts p → First R false us p q r → IsStep p q true
    some_step refines keeps us p q r e whole h =
        let f = subst (λ (vs : Uses). First R false vs p q r) e h in
        let s = part_sound refines keeps [] [] result_uses p q r (whole_placed k facts p whole) f in record {
          stepped = (r, f);
          refines = stands_result k facts p q r (whole_placed k facts p whole).numbers s.0;
          whole = whole_kept k facts p q r whole s.1;
          sets = s.1.fewer;
        }

    pub no_step : (us : Uses) (p : Plan) → us ≡ result_uses → IsWhole k facts p → NoPlace R false us p
        → IsStep p p false
    no_step us p e whole h = record {
      stepped = (subst (λ (vs : Uses). NoPlace R false vs p) e h, refl);
      refines = λ db meets start vs a. a;
      whole = whole;
      sets = λ z. omega arith;
    }

-- ---- many applications

pub refines_through_answers : (facts : Facts) (p q s : Plan) → Refines facts s q → Refines facts q p
    → Refines facts s p
refines_through_answers facts p q s f g db meets start vs a = g db meets start vs (f db meets start vs a)

pub stepped_first : (R : Rewriting) (p q : Plan) (changed : Bool) → not changed ≡ false
    → AppliesOnce R p q changed → (r : Option Rename) × First R false result_uses p q r
stepped_first R p q true e h = h
stepped_first R p q false e h = absurd (true≢false e)

pub reaches_more : (R : Rewriting) (p q s : Plan) (c changed : Bool) → Reaches R p q c → not changed ≡ false
    → AppliesOnce R q s changed → Reaches R p s true
reaches_more R p q s c changed h e f = next h (stepped_first R q s changed e f).1

-- what holds at first, and stays at each application, holds after all
pub reaches_keeps : (R : Rewriting) (P : Plan → Type 0)
    → ((p q : Plan) (r : Option Rename) → First R false result_uses p q r → P p → P q)
    → {p q : Plan} {changed : Bool} → Reaches R p q changed → P p → P q
reaches_keeps R P law at_once h = h
reaches_keeps R P law (next {q = q} {s = s} {r = r} g f) h = law q s r f (reaches_keeps R P law g h)

pub sets_self : (p : Plan) → SetsNoMore p p
sets_self p z = omega arith

pub sets_through : (p q s : Plan) → SetsNoMore p q → SetsNoMore q s → SetsNoMore p s
sets_through p q s h k z = omega (arith, h z, k z)
