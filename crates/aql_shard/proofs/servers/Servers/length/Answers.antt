use Rattle.std.proofs.Common.{map, ap, ◌∙◌}
use Rattle.aql_shard.specs.Holding.{Holding}
use Rattle.aql_shard.specs.Parts.{parts_of}
use Rattle.aql_shard.proofs.Searched.{parts_there, as_many}
use Rattle.aql_shard.proofs.servers.Servers.length.Goals as goal

pub part_at-requires : goal.part_at-requires
part_at-requires c =
    let theirs = c.self.invariant ∙ ap (λ (h : Holding). map (parts_of h.servers) h.held) c.self.view_is in
    parts_there c.args.self.now c.self.inside.parts theirs c.args.coll.0 c.args.shard c.requires

pub returns : goal.returns
returns c =
    let theirs = c.self.invariant ∙ ap (λ (h : Holding). map (parts_of h.servers) h.held) c.self.view_is in
    c.len.ensures ∙ as_many c.args.self.now c.self.inside.parts theirs c.args.coll.0 c.args.shard c.requires
    c.part_at.result.now c.part_at.ensures
