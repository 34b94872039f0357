-- The pass of a rule for a cluster, by its applications one after another.
use Rattle.std.proofs.Common.{◌≡◌, ◌≤◌, [], Bool, true, false, refl}
use Rattle.std.specs.Prelude.{Option, Some, None}
use Rattle.aql_meaning.specs.Uses.{Uses}
use Rattle.aql_plan.specs.declared.facts.Facts.{Facts}
use Rattle.aql_plan.specs.Above.{input_inside}
use Rattle.aql_plan.specs.Needs.{result_uses}
use Rattle.aql_plan.specs.Plan.{Plan, Over, Node}
use Rattle.aql_plan.specs.Refines.{Refines}
use Rattle.aql_plan.specs.WellFormed.{IsWellFormed}
use Rattle.aql_rewrite.specs.declared.swap.Rename.{Rename}
use Rattle.aql_rewrite.specs.Places.{Rewriting, Stays, renamed_by, First, below, here, body, IsPass}
use Rattle.aql_rewrite.specs.Swaps.{SetsNoMore}
use Rattle.aql_rewrite.specs.inner.Applications.{Applications, at_once, next}
use Rattle.aql_rewrite.specs.laws.PassSteps.{is_pass}
use Rattle.aql_rewrite.specs.laws.Steps.{Refining, Keeping, some_step, refines_through_answers, sets_self, sets_through}
use Rattle.aql_rules_cluster.specs.OnShards.{ReadsInFragments, ReadsOnShards}
use Rattle.aql_rules_cluster.specs.inner.Walks.{AppliedOnce, IsWalked}
use Rattle.aql_rules_cluster.specs.laws.Walking.{StaysAtBodies, AddsNoPlace, nowhere}

-- what a rule keeps of a part where it applies: it renames nothing, and no reader comes out of a fragment
pub record KeepsRunning (inside : Bool) (p q : Plan) (r : Option Rename) : Type 0 where
  pub nameless : r ≡ None
  pub readers : ReadsInFragments inside p → ReadsInFragments inside q

-- what a pass gives
pub record Passes (facts : Facts) (R : Rewriting) (p q : Plan) (changed : Bool) : Type 0 where
  pub passed : IsPass R p q changed
  pub refines : Refines facts q p
  pub well_formed : IsWellFormed facts [] q
  pub sets : SetsNoMore p q
  pub on_shards : ReadsOnShards facts p → ReadsOnShards facts q

-- what a rule for a cluster shows of itself
pub record ForCluster (facts : Facts) (R : Rewriting) : Type 0 where
  pub alone : facts.servers ≡ 0 → (us : Uses) (p : Plan) → Stays R us p
  pub refining : Refining true facts R
  pub keeping : Keeping true facts R
  pub running : (us : Uses) (p q : Plan) (r : Option Rename) → R us p q r → KeepsRunning false p q r
  pub bodies : StaysAtBodies R
  pub adds : AddsNoPlace R

module _ (facts : Facts) (R : Rewriting) (rule : ForCluster facts R) where
  -- ---- one application

  running_over : (inside : Bool) (b c : Plan) (n : Node) (r : Option Rename)
      → KeepsRunning (input_inside n inside) b c r
      → KeepsRunning inside (Over b n) (Over c (renamed_by r n)) r
  running_over inside b c n None k = record {
    nameless = refl;
    readers = λ h. (k.readers h.0, h.1);
  }
  running_over inside b c n (Some r) k = let e = k.nameless in absurd (cc)

  once : {inside : Bool} {us : Uses} {p q : Plan} {r : Option Rename} → First R inside us p q r
      → KeepsRunning inside p q r
  once (below {inside = inside} {b = b} {c = c} {n = n} {r = r} h) = running_over inside b c n r (once h)
  once (here {us = us} {b = b} {q = q} {n = n} {r = r} none h) = rule.running us (Over b n) q r h
  once (body none stays h) = let k = once h in record {
    nameless = refl;
    readers = λ g. (g.0, k.readers g.1);
  }

  -- ---- applications one after another

  module _ (servers : 1 ≤ facts.servers) where
    record Sound (p q : Plan) : Type 0 where
      pub refines : Refines facts q p
      pub well_formed : IsWellFormed facts [] q
      pub sets : SetsNoMore p q
      pub running : KeepsRunning false p q None

    sound : {p q : Plan} {x y : Bool} → IsWellFormed facts [] p
        → Applications Plan (AppliedOnce R false result_uses) p q x y → Sound p q
    sound {p = p} well at_once = record {
      refines = λ db meets start vs a. a;
      well_formed = well;
      sets = sets_self p;
      running = record { nameless = refl; readers = λ h. h };
    }
    sound {p = p} well (next {m = m} {d = q} k h) =
        let before = sound well k in
        let s = some_step true facts R rule.refining rule.keeping result_uses m q None refl
        (before.well_formed, servers) h in
        let kept = once h in record {
          refines = refines_through_answers facts p m q s.refines before.refines;
          well_formed = s.whole.0;
          sets = sets_through p m q before.sets s.sets;
          running = record {
            nameless = refl;
            readers = λ g. kept.readers (before.running.readers g);
          };
        }

    pub walked_passes : (p q : Plan) (changed : Bool) → IsWellFormed facts [] p
        → IsWalked R false p q false changed → Passes facts R p q changed
    walked_passes p q changed well h =
        let s = sound well (h.reached result_uses) in record {
          passed = is_pass R p q false changed refl (h.reached result_uses) (h.ended result_uses);
          refines = s.refines;
          well_formed = s.well_formed;
          sets = s.sets;
          on_shards = λ before some. s.running.readers (before some);
        }

  -- ---- without servers

  pub alone_passes : facts.servers ≡ 0 → (p : Plan) → IsWellFormed facts [] p → Passes facts R p p false
  alone_passes e p well = record {
    passed = is_pass R p p false false refl at_once (nowhere R (rule.alone e) false result_uses p);
    refines = λ db meets start vs a. a;
    well_formed = well;
    sets = sets_self p;
    on_shards = λ h. h;
  }
