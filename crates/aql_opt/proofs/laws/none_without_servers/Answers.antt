use Rattle.aql_opt.specs.laws.WithoutServers.{none_without_servers}
use Rattle.aql_opt.proofs.laws.none_without_servers.Goals as goal

pub returns : goal.returns
returns c = none_without_servers
