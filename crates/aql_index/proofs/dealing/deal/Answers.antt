use Rattle.std.proofs.Common.{◌≡◌, ◌∙◌, [], map, ap, ap₂, arith, List}
use Rattle.aql_value.specs.Datum.{Datum}
use Rattle.aql_index.specs.declared.entries.Entry.{Entry}
use Rattle.aql_index.specs.Dealing.{ranked}
use Rattle.aql_index.proofs.Dealt.{is_there, goes_there, is_appended, dealt_next, none_dealt, is_rank, rank_at}
use Rattle.aql_index.proofs.dealing.deal.Goals as goal

pub loop-entry-init : goal.loop-entry-init
loop-entry-init c =
    c.in_ok-all.ensures
    ∙ ap (map (λ _. record { width = c.args.width; entries = [] }))
    (c.as_slice.ensures.value ∙ c.in_ok-ranks.ensures.counts)
    ∙ none_dealt c.args.shards.now c.args.width c.args.entries.now c.args.count

pub index_mut-requires : goal.index_mut-requires
index_mut-requires c =
    let shards = c.args.shards.now in
    let entries = c.args.entries.now in
    let i = c.loop-entry.entry-index in
    let e = c.entry-item.result in
    let place = is_there shards c.args.width entries i e c.loop-entry-test.true c.entry-item.is c.requires.there in
    let there = goes_there shards c.args.width entries i e c.loop-entry-test.true c.entry-item.is c.args.count
    c.loop-entry.all.items c.loop-entry.invariant (c.requires.within e.place 0 place) in
    omega (arith, there)

pub index-requires : goal.index-requires
index-requires c =
    let shards = c.args.shards.now in
    let e = c.entry-item.result in
    let place = is_there shards c.args.width c.args.entries.now c.loop-entry.entry-index e c.loop-entry-test.true
    c.entry-item.is c.requires.there in
    let there = is_rank shards c.in_ok-ranks.ranks.items c.in_ok-ranks.ensures.ranks e.place place in
    omega (arith, there)

pub append-requires : goal.append-requires
append-requires c =
    let shards = c.args.shards.now in
    let entries = c.args.entries.now in
    let i = c.loop-entry.entry-index in
    let e = c.entry-item.result in
    let place = is_there shards c.args.width entries i e c.loop-entry-test.true c.entry-item.is c.requires.there in
    let rank = rank_at shards c.in_ok-ranks.ranks.items c.in_ok-ranks.ensures.ranks e.place place
    c.index.result.now c.index.ensures in
    let new : Entry = record { keys = c.in_ok-keys.keys; place = c.index.result.now } in
    let new_is : new ≡ ranked shards e =
    ap₂ (λ (ks : List Datum) p. record { keys = ks; place = p }) c.in_ok-keys.ensures rank in
    is_appended shards c.args.width entries i e c.loop-entry-test.true c.entry-item.is c.args.count
    c.loop-entry.all.items c.loop-entry.invariant (c.requires.within e.place 0 place) c.index_mut.result.now
    c.index_mut.ensures.value new new_is c.requires.index

pub loop-entry-preserved : goal.loop-entry-preserved
loop-entry-preserved c =
    let shards = c.args.shards.now in
    let entries = c.args.entries.now in
    let i = c.loop-entry.entry-index in
    let e = c.entry-item.result in
    let place = is_there shards c.args.width entries i e c.loop-entry-test.true c.entry-item.is c.requires.there in
    let rank = rank_at shards c.in_ok-ranks.ranks.items c.in_ok-ranks.ensures.ranks e.place place
    c.index.result.now c.index.ensures in
    let new : Entry = record { keys = c.in_ok-keys.keys; place = c.index.result.now } in
    let new_is : new ≡ ranked shards e =
    ap₂ (λ (ks : List Datum) p. record { keys = ks; place = p }) c.in_ok-keys.ensures rank in
    dealt_next shards c.args.width entries i e c.loop-entry-test.true c.entry-item.is c.args.count
    c.loop-entry.all.items c.loop-entry.invariant (c.requires.within e.place 0 place) c.index_mut.result.now
    c.index_mut.ensures.value new new_is c.append.new.self c.in_ok-append.ensures
