use Rattle.std.proofs.Common.{refl}
use Rattle.aql_net.specs.contracts.worlds.NetSurroundings.TheImpl.{ghosts}
use Rattle.aql_net.specs.Traffic.{Traffic}
use Rattle.aql_net.specs.laws.Worlds.{LinksOf, first-beside, first-unused, first-line, first-others}
use Rattle.aql_net.proofs.worlds.NetWires.first.Goals as goal

own : (net : Traffic) → LinksOf ghosts net net
own net = record { batch = refl; links = refl; flight = λ _. refl; deliveries = refl }

pub returns-clause-world : goal.returns-clause-world
returns-clause-world c =
    let net = c.args.self.now in
    let net' = c.first.new.self in
    first-beside ghosts net net' net net' (own net) (own net') refl c.first.result c.args.message
    c.first.ensures.ok c.first.ensures.err

pub returns-clause-unused : goal.returns-clause-unused
returns-clause-unused c =
    let net = c.args.self.now in
    let net' = c.first.new.self in
    first-unused ghosts net net' net net' (own net) (own net') refl c.first.result c.args.message
    c.first.ensures.ok c.first.ensures.unused

pub returns-clause-sent : goal.returns-clause-sent
returns-clause-sent c =
    let net = c.args.self.now in
    let net' = c.first.new.self in
    first-line ghosts net net' net net' (own net) (own net') refl c.first.result c.args.message
    c.first.ensures.ok c.first.ensures.unused

pub returns-clause-others : goal.returns-clause-others
returns-clause-others c =
    let net = c.args.self.now in
    let net' = c.first.new.self in
    first-others ghosts net net' net net' (own net) (own net') refl c.first.result c.args.message
    c.first.ensures.ok
