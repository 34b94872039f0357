use Rattle.std.proofs.Common.{refl}
use Rattle.aql_net.specs.laws.Worlds.{delivered}
use Rattle.aql_local.proofs.Nets.{links_of}
use Rattle.aql_local.specs.contracts.world.WorldSurroundings.TheImpl.{ghosts}
use Rattle.aql_local.proofs.world.WorldMail.deliver.Goals as goal

pub returns : goal.returns
returns c =
    let w = c.args.self.now in
    let w' = record w { net = c.deliver.new.self } in
    delivered ghosts w w' w.net w'.net (links_of w) (links_of w') refl refl c.deliver.result c.args.place
    c.requires c.deliver.ensures
