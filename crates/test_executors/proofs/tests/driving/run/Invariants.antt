use Rattle.std.proofs.Common.{◌≡◌}
use Rattle.test_executors.proofs.tests.driving.run.Given as goal

abbrev pub invariant-loop-call : goal.invariant-loop-call
invariant-loop-call g l = record {
  node : g.X.Executor.node l.x ≡ g.X.Executor.node l.initial.x;
  stock : g.W.Surroundings.stock l.world ≡ g.W.Surroundings.stock l.initial.world;
  batch : g.W.Surroundings.batch l.world ≡ g.W.Surroundings.batch l.initial.world;
  valid : g.X.Executor.valid l.x l.world;
  may : g.X.Executor.may l.x 0 (record { offset = l.offset; soft = l.batch; hard = 18446744073709551615 });
  idle : g.X.Executor.busy l.x → ⊥;
}
