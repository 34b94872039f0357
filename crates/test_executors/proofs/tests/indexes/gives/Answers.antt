use Rattle.test_executors.proofs.tests.indexes.gives.Goals as goal

pub run-requires-clause-node : goal.run-requires-clause-node
run-requires-clause-node c =
    let world = c.in_ok-world.world in
    c.in_ok-index.ensures world.names world.documents world.two
