use Rattle.aql_engine.specs.laws.OneRemote.{used_once, unused, ends_done, none_flies}
use Rattle.aql_engine.proofs.laws.links_are_remotes.Goals as goal

pub returns-clause-one : goal.returns-clause-one
returns-clause-one c w ran run h l = (used_once w ran run h l, unused w ran run h l)

pub returns-clause-ends : goal.returns-clause-ends
returns-clause-ends c w ran run h = (ends_done w ran run h, none_flies w ran run h)
