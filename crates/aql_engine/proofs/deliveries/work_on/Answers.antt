use Rattle.std.proofs.Common.{◌≡◌, inl, inr, true, sym, ◌∙◌}
use Rattle.std.proofs.Math.Nat.{le_refl}
use Rattle.std.proofs.lemmas.Bool.{false≢true}
use Rattle.aql_exec.specs.Counting.{nothing}
use Rattle.aql_engine.specs.Tree.{Waits, WaitsAt}
use Rattle.aql_exec.specs.laws.Counted.{rises_none, rises_weaker, prefixed_none}
use Rattle.aql_engine.proofs.Inputs.{fewer_wait}
use Rattle.aql_engine.proofs.Leading.{one_zero, zero_one}
use Rattle.aql_engine.proofs.Budgets.{le_more}
use Rattle.aql_engine.proofs.deliveries.work_on.Goals as goal

pub returns-in_default-clause-valid : goal.returns-in_default-clause-valid
returns-in_default-clause-valid g c =
    let x = g.X.Executor in
    let p = g.W.Surroundings in
    fewer_wait x p x.waited (Waits x p) c.args.x.now c.args.below.now c.args.body.now c.args.world.now
    (λ k q. elim q [
      | inl a ↦ a
      | inr a ↦ absurd (false≢true (sym c.in_default.ensures
          ∙ g.met.X.Wired.stuck_serves c.args.x.now k a))
    ]) c.requires.valid

pub returns-in_default-clause-undisturbed : goal.returns-in_default-clause-undisturbed
returns-in_default-clause-undisturbed g c = (
  nothing,
  rises_none g.W.Surroundings c.args.tally.now c.args.world.now,
  λ r h. (r, prefixed_none r, h),
)

pub run_node-requires : goal.run_node-requires
run_node-requires g c =
    let x = g.X.Executor in
    let p = g.W.Surroundings in
    let serves : g.X.Wired.serves c.args.x.now ≡ true = c.in-Some.ensures.0 in
    record {
      valid = fewer_wait x p x.waited (WaitsAt x p 1) c.args.x.now c.args.below.now c.args.body.now
          c.args.world.now (λ k q. elim q [ inl a ↦ a | inr a ↦ absurd (one_zero a.0) ]) c.requires.valid;
      plan = c.requires.plan;
      call = c.in-Some.ensures.1;
      batch = c.in-Some.ensures.3 c.args.world.now c.requires.valid.executor_valid;
      may = g.met.X.Wired.may_serve c.args.x.now _ serves;
      port = inr (g.met.X.Wired.serves_port c.args.x.now serves);
    }

pub returns-clause-may : goal.returns-clause-may
returns-clause-may g c = λ q h. c.in_ok-run_node.ensures.other_ports 0 q zero_one h

pub returns-clause-undisturbed : goal.returns-clause-undisturbed
returns-clause-undisturbed g c =
    let beside = c.in_ok-run_node.ensures.beside one_zero in (
      beside.0,
      rises_weaker g.W.Surroundings _ _ _ _ beside.0 (λ j i. (c.in-Some.ensures.2, i)) beside.1,
      beside.2,
    )

pub returns-clause-budget : goal.returns-clause-budget
returns-clause-budget g c = le_more _ _ _ _ c.in_ok-run_node.ensures.budget (le_refl _)
