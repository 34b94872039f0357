use Rattle.std.proofs.Common.{ap}
use Rattle.aql_index.specs.Bounds.{range_of}
use Rattle.aql_index.specs.Entries.{IndexView}
use Rattle.test_executors.proofs.Indexed.{span_found}
use Rattle.test_executors.proofs.tests.shelves.OneCollectionShelf.span.Goals as goal

pub returns-clause-exactly : goal.returns-clause-exactly
returns-clause-exactly c =
    let me = c.args.self.now in
    span_found me.names me.documents c.args._coll.0 c.args._index c.args._shard _ c.requires c.args.equal.now
    (range_of c.args.low.now c.args.high.now) c.range.result me.index.entries
    (ap (λ (i : IndexView). i.entries) me.indexed) c.range.ensures.exactly
