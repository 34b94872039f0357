use Rattle.std.proofs.Common.{◌≡◌, ◌∙◌, List, rules, refl, ap, subst, sym, arith}
use Rattle.std.specs.Prelude.{slice_get, option_map, Some, None}
use Rattle.std.proofs.lemmas.Option.{slice_get-get_or, get_or_from_slice_get}
use Rattle.aql_value.specs.Datum.{null}
use Rattle.aql_value.specs.View.{datum_of}
use Rattle.aql_block.specs.declared.tally.Tally.{Tally}
use Rattle.aql_exec.specs.laws.Counted.{rose_same, rose_saturated}
use Rattle.aql_index.specs.Entries.{IndexView}
use Rattle.aql_index.specs.declared.entries.Entry.{Entry}
use Rattle.test_executors.proofs.Indexed.{order_is, order_length, entry_there, entry_names}
use Rattle.test_executors.proofs.tests.shelves.OneCollectionShelf.indexed.Goals as goal

pub overflow_cast-place : goal.overflow_cast-place
overflow_cast-place c =
    let me = c.args.self.now in
    let n = order_length me.names me.documents c.args._coll.0 c.args._index c.args._shard _ c.requires.index in
    let few = me.few in
    let place = c.requires.place in
    omega (arith, n, few, place)

pub unreachable-requires : goal.unreachable-requires
unreachable-requires c =
    let me = c.args.self.now in
    let n = order_length me.names me.documents c.args._coll.0 c.args._index c.args._shard _ c.requires.index in
    let place = c.requires.place in
    entry_there me.names me.documents c.args.place
    (subst (λ (i : IndexView). None ≡ option_map (λ (e : Entry). e.place) (slice_get i.entries c.args.place))
    me.indexed c.in_default.ensures)
    (omega (arith, n, place))

pub unreachable-requires-in_default-get : goal.unreachable-requires-in_default-get
unreachable-requires-in_default-get c =
    let me = c.args.self.now in
    let named = entry_names me.names me.documents c.args.place c.in-Some.at
    (subst (λ (i : IndexView). Some c.in-Some.at
    ≡ option_map (λ (e : Entry). e.place) (slice_get i.entries c.args.place))
    me.indexed c.in-Some.ensures) in
    let f = c.in_default-get.ensures ∙ slice_get-get_or me.documents c.in-Some.at null named.0 in
    cc f

pub returns : goal.returns
returns c =
    let me = c.args.self.now in
    let counts = c.add_indexed-2.ensures in
    let order = order_is me.names me.documents c.args._coll.0 c.args._index c.args._shard _ c.requires.index in
    let named = entry_names me.names me.documents c.args.place c.in-Some.at
    (subst (λ (i : IndexView). Some c.in-Some.at
    ≡ option_map (λ (e : Entry). e.place) (slice_get i.entries c.args.place))
    me.indexed c.in-Some.ensures) in (
      (
        refl,
        (λ _. tt),
        (
          record { stock = refl; deliveries = refl; batch = refl; links = refl; flight = λ l. refl },
          (
            rose_same _ _ (ap (λ (t : Tally). t.scanned_full) counts),
            rose_saturated _ _ _ c.recall_count.ensures (ap (λ (t : Tally). t.scanned_index) counts),
          ),
        ),
      ),
      record {
        document = ap (λ ds. slice_get ds c.args.place) order ∙ named.1
            ∙ ap Some (get_or_from_slice_get me.documents c.in-Some.at (datum_of c.in-Some-get.document.now) null
            (sym c.in-Some-get.ensures));
        tally = search rules;
        counted = tt;
      },
    )
