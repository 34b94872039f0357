use Rattle.std.proofs.Common.{refl}
use Rattle.aql_net.specs.contracts.worlds.NetSurroundings.TheImpl.{ghosts}
use Rattle.aql_net.specs.Traffic.{Traffic}
use Rattle.aql_net.specs.laws.Worlds.{LinksOf, delivered}
use Rattle.aql_net.proofs.worlds.NetMail.deliver.Goals as goal

own : (net : Traffic) → LinksOf ghosts net net
own net = record { batch = refl; links = refl; flight = λ _. refl; deliveries = refl }

pub returns : goal.returns
returns c =
    let net = c.args.self.now in
    let net' = c.deliver.new.self in
    delivered ghosts net net' net net' (own net) (own net') refl refl c.deliver.result c.args.place c.requires
    c.deliver.ensures
