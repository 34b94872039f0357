use Rattle.std.proofs.Common.{refl}
use Rattle.aql_net.specs.contracts.worlds.NetSurroundings.TheImpl.{ghosts}
use Rattle.aql_net.specs.Traffic.{Traffic}
use Rattle.aql_net.specs.laws.Worlds.{LinksOf, send-beside, send-line, others-sent}
use Rattle.aql_net.proofs.worlds.NetWires.send.Goals as goal

own : (net : Traffic) → LinksOf ghosts net net
own net = record { batch = refl; links = refl; flight = λ _. refl; deliveries = refl }

pub returns-clause-world : goal.returns-clause-world
returns-clause-world c =
    let net = c.args.self.now in
    let net' = c.send.new.self in
    send-beside ghosts net net' net net' (own net) (own net') refl c.args.link c.args.message
    c.in_ok-send.ensures.ok.1

pub returns-clause-sent : goal.returns-clause-sent
returns-clause-sent c =
    let net = c.args.self.now in
    let net' = c.send.new.self in
    send-line ghosts net net' net net' (own net) (own net') refl c.args.link c.args.message
    c.in_ok-send.ensures.ok.1

pub returns-clause-others : goal.returns-clause-others
returns-clause-others c =
    let net = c.args.self.now in
    let net' = c.send.new.self in
    others-sent ghosts net net' net net' (own net) (own net') refl c.args.link c.args.message
    c.in_ok-send.ensures.ok.1
