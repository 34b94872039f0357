-- The links of a world are those of its net.
use Rattle.std.proofs.Common.{refl}
use Rattle.aql_net.specs.laws.Worlds.{LinksOf}
use Rattle.aql_local.specs.contracts.world.WorldSurroundings.TheImpl.{ghosts}
use Rattle.aql_local.specs.declared.world.World.{World}

pub links_of : (w : World) → LinksOf ghosts w w.net
links_of w = record { batch = refl; links = refl; flight = λ _. refl; deliveries = refl }
