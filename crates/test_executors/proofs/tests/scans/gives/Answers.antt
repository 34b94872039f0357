use Rattle.std.proofs.Common.{refl}
use Rattle.test_executors.specs.Worlds.{facts_of}
use Rattle.test_executors.proofs.tests.scans.gives.Goals as goal

pub run-requires-clause-node : goal.run-requires-clause-node
run-requires-clause-node c =
    let world = c.in_ok-world.world in
    c.in_ok-scan.ensures (facts_of world.names world.documents) refl
