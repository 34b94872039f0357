use Rattle.std.proofs.Common.{refl}
use Rattle.aql_net.specs.laws.Worlds.{first-beside, first-unused, first-line, first-others}
use Rattle.aql_local.proofs.Nets.{links_of}
use Rattle.aql_local.specs.contracts.world.WorldSurroundings.TheImpl.{ghosts}
use Rattle.aql_local.proofs.world.WorldWires.first.Goals as goal

pub returns-clause-world : goal.returns-clause-world
returns-clause-world c =
    let w = c.args.self.now in
    let w' = record w { net = c.first.new.self } in
    first-beside ghosts w w' w.net w'.net (links_of w) (links_of w') refl c.first.result c.args.message
    c.first.ensures.ok c.first.ensures.err

pub returns-clause-unused : goal.returns-clause-unused
returns-clause-unused c =
    let w = c.args.self.now in
    let w' = record w { net = c.first.new.self } in
    first-unused ghosts w w' w.net w'.net (links_of w) (links_of w') refl c.first.result c.args.message
    c.first.ensures.ok c.first.ensures.unused

pub returns-clause-sent : goal.returns-clause-sent
returns-clause-sent c =
    let w = c.args.self.now in
    let w' = record w { net = c.first.new.self } in
    first-line ghosts w w' w.net w'.net (links_of w) (links_of w') refl c.first.result c.args.message
    c.first.ensures.ok c.first.ensures.unused

pub returns-clause-others : goal.returns-clause-others
returns-clause-others c =
    let w = c.args.self.now in
    let w' = record w { net = c.first.new.self } in
    first-others ghosts w w' w.net w'.net (links_of w) (links_of w') refl c.first.result c.args.message
    c.first.ensures.ok
