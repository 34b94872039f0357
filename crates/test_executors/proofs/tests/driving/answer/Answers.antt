use Rattle.std.proofs.Common.{ℕ, zero, suc}
use Rattle.aql_exec.specs.Operators.{OfSome, arity}
use Rattle.test_executors.proofs.tests.driving.answer.Goals as goal

-- what holds is said of inputs, however many there are
of_some : (n : ℕ) {said : Type 0} → said → OfSome n said
of_some zero h = tt
of_some (suc n) h = h

pub turn-requires-clause-node : goal.turn-requires-clause-node
turn-requires-clause-node g c =
    let i = c.loop-turn.invariant in
    rw (i.stock, i.node) c.requires.node

pub turn-requires-clause-batch : goal.turn-requires-clause-batch
turn-requires-clause-batch g c = rw c.loop-turn.invariant.batch c.requires.batch

pub take-requires-clause-node : goal.take-requires-clause-node
take-requires-clause-node g c = (
  (g.W.Surroundings.stock c.args.world.now).facts,
  rw (c.in_ok-at.ensures.node.node_is, c.loop-turn.invariant.node) c.requires.node,
)

pub take-requires-else-at-eq0-clause-node : goal.take-requires-else-at-eq0-clause-node
take-requires-else-at-eq0-clause-node g c = (
  (g.W.Surroundings.stock c.args.world.now).facts,
  rw (c.in_ok-at.ensures.node.node_is, c.loop-turn.invariant.node) c.requires.node,
)

pub take-requires-clause-asked : goal.take-requires-clause-asked
take-requires-clause-asked g c =
    let asked = rw c.in-Ask.is at c.in_ok-at.ensures.asked in
    of_some (arity (g.X.Executor.node c.turn.new.self))
    (c.in-Ask.ask, asked.3, c.in_ok-step-in-Ask.ensures.bounds)

pub take-requires-else-at-eq0-clause-asked : goal.take-requires-else-at-eq0-clause-asked
take-requires-else-at-eq0-clause-asked g c =
    let asked = rw c.in-Ask.is at c.in_ok-at.ensures.asked in
    of_some (arity (g.X.Executor.node c.turn.new.self))
    (c.in-Ask.ask, asked.3, c.in_ok-step-in-Ask-2.ensures.bounds)
