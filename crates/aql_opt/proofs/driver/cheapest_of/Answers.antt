-- The first candidate is the cheapest one at first; each further one is or is not.
use Rattle.std.proofs.Common.{◌+◌, ◌∷◌, List, map, take, false, refl, sym, subst}
use Rattle.std.proofs.lemmas.List.{take_all}
use Rattle.aql_plan.specs.declared.plan.Plan.{Plan as PlanCode}
use Rattle.aql_plan.specs.Plan.{Plan}
use Rattle.aql_plan.specs.View.{plan_tree}
use Rattle.aql_rewrite.specs.Placed.{IsWhole}
use Rattle.aql_rules_order.specs.StandsFor.{StandsFor}
use Rattle.aql_opt.specs.declared.driver.Candidate.{Candidate}
use Rattle.aql_opt.specs.Chosen.{cost_of}
use Rattle.aql_opt.specs.laws.Cheapest.{Best, best_first, best_stays, best_changes}
use Rattle.aql_opt.specs.laws.Finished.{finished_through}
use Rattle.aql_opt.specs.laws.Tried.{holds_at, tried_more, taken_is, taken_out, less_costs, no_less_costs}
use Rattle.aql_opt.proofs.driver.cheapest_of.Invariants.{IsBestOf}
use Rattle.aql_opt.proofs.driver.cheapest_of.Goals as goal
use Rattle.aql_opt.proofs.driver.cheapest_of.Goals.{then-other-best, else-other-best}

pub finish-requires-in-loop-candidate : goal.finish-requires-in-loop-candidate
finish-requires-in-loop-candidate c =
    let all = c.args.others.now in
    let at = c.loop-candidate.candidate-index in
    holds_at (IsWhole false c.args.facts.now) all at c.replace-candidate.result c.loop-candidate-test.true
    (taken_is all at c.loop-candidate.others c.loop-candidate.invariant.left c.candidate-item.result
    c.replace-candidate.result c.candidate-item.is c.replace-candidate.ensures.value) c.requires.others

pub loop-candidate-init : goal.loop-candidate-init
loop-candidate-init c =
    let facts = c.args.facts.now in
    let first = plan_tree c.args.first in
    let best = c.in_ok-best.best in
    let finished = c.in_ok-best.ensures in record {
      best = record {
        best = best_first facts c.args.rules.now first (plan_tree best.plan) best.applied best.reordered
            finished.reordered finished.runs;
        finished = λ p h k. finished_through facts p first (plan_tree best.plan) h finished.finished;
        cost = finished.cost;
      };
      left = (refl, λ k d h. refl);
    }

pub loop-candidate-preserved : goal.loop-candidate-preserved
loop-candidate-preserved c =
    let facts = c.args.facts.now in
    let rules = c.args.rules.now in
    let first = plan_tree c.args.first in
    let all = c.args.others.now in
    let at = c.loop-candidate.candidate-index in
    let left = c.loop-candidate.others in
    let untaken = c.loop-candidate.invariant.left in
    let item = c.replace-candidate.result in
    let within = c.loop-candidate-test.true in
    let here = taken_is all at left untaken c.candidate-item.result item c.candidate-item.is
    c.replace-candidate.ensures.value in
    let best = c.loop-candidate.best in
    let kept = c.loop-candidate.invariant.best in
    let other = c.in_ok-other.other in
    let finished = c.in_ok-other.ensures in
    let more = tried_more first all at item within here in record {
      best = elim c.if-other-best.branch [
        | then-other-best w ↦ subst (λ (b : Candidate). IsBestOf facts rules c.args.first all (at + 1) b)
            (sym w.best-is) (record {
              best = subst
                  (λ (cs : List Plan). Best facts rules cs (plan_tree other.plan) other.applied other.reordered)
                  more
                  (best_changes facts rules (first ∷ map plan_tree (take at all)) (plan_tree item)
                  (plan_tree best.plan) (plan_tree other.plan) best.applied other.applied best.reordered
                  other.reordered kept.best finished.runs
                  (less_costs other.cost best.cost (cost_of facts (plan_tree other.plan))
                  (cost_of facts (plan_tree best.plan)) finished.cost kept.cost w.if-other-best.true)
                  finished.reordered);
              finished = λ p h k. finished_through facts p (plan_tree item) (plan_tree other.plan)
                  (holds_at (StandsFor facts p) all at item within here k) finished.finished;
              cost = finished.cost;
            })
        | else-other-best w ↦ subst (λ (b : Candidate). IsBestOf facts rules c.args.first all (at + 1) b)
            (sym w.best-is) (record {
              best = subst
                  (λ (cs : List Plan). Best facts rules cs (plan_tree best.plan) best.applied best.reordered)
                  more
                  (best_stays facts rules (first ∷ map plan_tree (take at all)) (plan_tree item)
                  (plan_tree best.plan) (plan_tree other.plan) best.applied other.applied best.reordered
                  kept.best finished.runs
                  (no_less_costs other.cost best.cost (cost_of facts (plan_tree other.plan))
                  (cost_of facts (plan_tree best.plan)) finished.cost kept.cost w.if-other-best.false));
              finished = kept.finished;
              cost = kept.cost;
            })
      ];
      left = taken_out all at left untaken c.replace-candidate.new.dest;
    }

pub returns : goal.returns
returns c =
    let facts = c.args.facts.now in
    let all = c.args.others.now in
    let best = c.loop-candidate.best in
    let kept = c.loop-candidate.invariant.best in record {
      best = subst (λ (cs : List PlanCode). Best facts c.args.rules.now
          (plan_tree c.args.first ∷ map plan_tree cs) (plan_tree best.plan) best.applied best.reordered)
          (take_all c.loop-candidate.candidate-index all c.loop-candidate-test.false) kept.best;
      finished = kept.finished;
      cost = kept.cost;
    }
