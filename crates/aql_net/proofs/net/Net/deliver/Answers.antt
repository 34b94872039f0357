use Rattle.std.proofs.Common.{◌≡◌, ◌<◌, ◌++◌, [], ◌∷◌, length, vec_capacity, sym, rules, refl}
use Rattle.std.specs.Prelude.{slice_get, Some}
use Rattle.std.proofs.lemmas.Option.{slice_get_read}
use Rattle.aql_net.specs.declared.logs.LogEntry.TheVariants.{Taken}
use Rattle.aql_net.proofs.Told.{net-taken, net-picked}
use Rattle.aql_net.proofs.net.Net.deliver.Goals as goal

pub invariant_of-self : goal.invariant_of-self
invariant_of-self c =
    let net = c.self.inside in
    let x = c.remove-number.result in
    let within : c.args.place < length net.flying.items = search rules in
    let taken : slice_get net.flying.items c.args.place ≡ Some x =
    slice_get_read net.flying.items (length net.flying.items) c.args.place x refl within
    c.remove-number.ensures.value in
    let log : c.enter.new.log.items ≡ net.log.items ++ Taken x.number ∷ [] = search rules in
    rw (log, c.remove-number.ensures.items)
    (net-taken net.batch net.links net.log.items net.flying.items net.sent (vec_capacity net.log) c.args.place
    x c.self.invariant taken (vec_capacity c.enter.new.log) (search rules))

pub returns : goal.returns
returns c =
    let net = c.self.inside in
    let x = c.remove-number.result in
    let within : c.args.place < length net.flying.items = search rules in
    let taken : slice_get net.flying.items c.args.place ≡ Some x =
    slice_get_read net.flying.items (length net.flying.items) c.args.place x refl within
    c.remove-number.ensures.value in
    let log : c.enter.new.log.items ≡ net.log.items ++ Taken x.number ∷ [] = search rules in
    rw (log, c.remove-number.ensures.items, sym c.self.view_is) (
      record { number = x.number; was = taken; is = refl },
      net-picked net.batch net.links net.log.items net.flying.items net.sent (vec_capacity net.log)
          c.args.place x c.self.invariant taken net.links net.flying.items (search rules),
    )
