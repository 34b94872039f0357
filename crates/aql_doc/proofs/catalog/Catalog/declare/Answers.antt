use Rattle.std.proofs.Common.{◌<◌, length, refl, rules}
use Rattle.aql_doc.proofs.Places.{pushed, none_declared}
use Rattle.aql_doc.proofs.catalog.Catalog.declare.Goals as goal

pub invariant_of-self-2 : goal.invariant_of-self-2
invariant_of-self-2 c =
    let few : length c.self.inside.collections.items < 64 = search rules in
    rw c.in_ok-push.ensures.items
    (pushed c.self.inside.collections.items c.new-2.result c.self.inside.total c.self.invariant.0
    c.self.invariant.1 few (rw c.new-2.ensures refl) (rw c.new-2.ensures (rw c.new.ensures
    (none_declared c.args.name c.args.edge c.args.shards c.args.keys c.requires.shards c.requires.keys))))
