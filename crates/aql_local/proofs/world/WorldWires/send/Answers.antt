use Rattle.std.proofs.Common.{refl}
use Rattle.aql_net.specs.laws.Worlds.{send-beside, send-line, others-sent}
use Rattle.aql_local.proofs.Nets.{links_of}
use Rattle.aql_local.specs.contracts.world.WorldSurroundings.TheImpl.{ghosts}
use Rattle.aql_local.proofs.world.WorldWires.send.Goals as goal

pub returns-clause-world : goal.returns-clause-world
returns-clause-world c =
    let w = c.args.self.now in
    let w' = record w { net = c.send.new.self } in
    send-beside ghosts w w' w.net w'.net (links_of w) (links_of w') refl c.args.link c.args.message
    c.in_ok-send.ensures.ok.1

pub returns-clause-sent : goal.returns-clause-sent
returns-clause-sent c =
    let w = c.args.self.now in
    let w' = record w { net = c.send.new.self } in
    send-line ghosts w w' w.net w'.net (links_of w) (links_of w') refl c.args.link c.args.message
    c.in_ok-send.ensures.ok.1

pub returns-clause-others : goal.returns-clause-others
returns-clause-others c =
    let w = c.args.self.now in
    let w' = record w { net = c.send.new.self } in
    others-sent ghosts w w' w.net w'.net (links_of w) (links_of w') refl c.args.link c.args.message
    c.in_ok-send.ensures.ok.1
