use Rattle.std.proofs.Common.{ap, sym, ◌∙◌}
use Rattle.aql_net.specs.Traffic.{Traffic, messages_on, line_on}
use Rattle.aql_net.proofs.Told.{unused-free, unused-line}
use Rattle.aql_net.proofs.net.Net.first.Goals as goal

pub put-requires-clause-free : goal.put-requires-clause-free
put-requires-clause-free c =
    let net = c.self.inside in
    ap (λ (t : Traffic). messages_on net.links t.flying) (sym c.self.view_is)
    ∙ unused-free net.batch net.links net.log.items net.flying.items net.sent _ c.self.invariant

pub returns-in_err-put-clause-unused : goal.returns-in_err-put-clause-unused
returns-in_err-put-clause-unused c =
    let net = c.self.inside in
    ap (λ (t : Traffic). line_on t.links t) (sym c.self.view_is)
    ∙ unused-line net.batch net.links net.log.items net.flying.items net.sent _ c.self.invariant

pub returns-clause-unused : goal.returns-clause-unused
returns-clause-unused c =
    let net = c.self.inside in
    ap (λ (t : Traffic). line_on t.links t) (sym c.self.view_is)
    ∙ unused-line net.batch net.links net.log.items net.flying.items net.sent _ c.self.invariant
