use Rattle.std.proofs.Common.{◌≡◌, ◌+◌, ◌≤◌, ◌++◌, [], ◌∷◌, length, vec_capacity, ap, sym, ◌∙◌, subst, rules}
use Rattle.aql_exec.specs.Lines.{Next}
use Rattle.aql_net.specs.declared.logs.LogEntry.TheVariants.{Sent}
use Rattle.aql_net.specs.declared.net.Envelope.{Envelope}
use Rattle.aql_net.specs.Logs.{sort_of, talk_on}
use Rattle.aql_net.specs.Traffic.{Traffic, messages_on}
use Rattle.aql_net.proofs.Told.{net-sent}
use Rattle.aql_net.proofs.net.Net.put.Goals as goal

pub invariant_of-self-2 : goal.invariant_of-self-2
invariant_of-self-2 c =
    let net = c.self.inside in
    let l = c.args.link in
    let log : c.enter.new.log.items
    ≡ net.log.items ++ Sent net.sent l (sort_of c.args.message) ∷ [] = search rules in
    let new : Envelope = record { number = net.sent; link = l; message = c.args.message } in
    let flying : c.push.new.self.items ≡ net.flying.items ++ new ∷ [] = search rules in
    let after = vec_capacity c.enter.new.log in
    let room : length net.log.items + (length net.flying.items + 2) ≤ after = search rules in
    rw (c.max-self-inside.ensures, log, flying)
    (net-sent net.batch net.links net.log.items net.flying.items net.sent (vec_capacity net.log) after l
    c.args.message c.self.invariant (search rules)
    (ap (λ (t : Traffic). messages_on l t.flying) c.self.view_is ∙ c.requires.free)
    (subst (λ (t : Traffic). Next t.batch (talk_on l t.log) c.args.message) (sym c.self.view_is)
    c.requires.next)
    room)
