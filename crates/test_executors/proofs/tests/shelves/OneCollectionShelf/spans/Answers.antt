use Rattle.std.proofs.Common.{ap}
use Rattle.aql_value.specs.View.{datum_of}
use Rattle.aql_meaning.specs.Documents.{one_of}
use Rattle.aql_index.specs.Entries.{IndexView}
use Rattle.test_executors.proofs.Indexed.{spans_found}
use Rattle.test_executors.proofs.tests.shelves.OneCollectionShelf.spans.Goals as goal

pub returns-clause-exactly : goal.returns-clause-exactly
returns-clause-exactly c =
    let me = c.args.self.now in
    spans_found me.names me.documents c.args._coll.0 c.args._index c.args._shard _ c.requires c.args.equal.now
    (one_of (datum_of c.args.list.now)) c.in_ok-spans.spans me.index.entries
    (ap (λ (i : IndexView). i.entries) me.indexed) c.in_ok-spans.ensures.exactly
