use Rattle.std.proofs.Common.{◌<◌, ◌∙◌, length, get_or, find, arith}
use Rattle.std.proofs.lemmas.Option.{slice_get-get_or}
use Rattle.aql_value.specs.Database.{documents_of}
use Rattle.aql_value.specs.Datum.{null, text}
use Rattle.aql_doc.specs.Held.{database}
use Rattle.aql_shard.specs.Datasets.{stock}
use Rattle.aql_local.specs.declared.lookups.SystemAttribute.TheVariants.{Id}
use Rattle.aql_local.specs.inner.Lookups.{order_by, has_id, all_documents}
use Rattle.aql_local.proofs.Looked.{is_held}
use Rattle.aql_local.proofs.Places.{first_in_span, none_in_span, found_there, not_there}
use Rattle.aql_local.proofs.documents.find_place.Goals as goal

pub returns-then-span-clause-found : goal.returns-then-span-clause-found
returns-then-span-clause-found c id is =
    let s = c.args.servers.now in
    let db = database s.held in
    let n = c.loop-number.number in
    let span = c.find_span-span.result in
    let order = order_by Id (stock s) n in
    let within = c.find_span-span.ensures.within in
    let inside : span.from < length order = omega (arith, c.if-span.true, within) in
    let at = slice_get-get_or order span.from null inside in
    let below = is_held s.held n _ c.loop-number-test.true c.collections-number-end.ensures in (
      get_or order span.from null,
      at,
      found_there (has_id id) db n (find (has_id id) (all_documents db)) below
          (c.loop-number.invariant.not_before id is) (get_or order span.from null)
          (first_in_span (has_id id) order (documents_of db n) span
          (c.find_span-span.ensures.exactly (text id) is) c.if-span.true ∙ at),
    )

pub loop-number-preserved : goal.loop-number-preserved
loop-number-preserved c =
    let s = c.args.servers.now in
    let db = database s.held in
    let n = c.loop-number.number in
    let span = c.find_span-span.result in
    let below = is_held s.held n _ c.loop-number-test.true c.collections-number-end.ensures in
    record {
      not_before = λ id is. not_there (has_id id) db n (find (has_id id) (all_documents db)) below
          (c.loop-number.invariant.not_before id is)
          (none_in_span (has_id id) (order_by Id (stock s) n) (documents_of db n) span
          (c.find_span-span.ensures.exactly (text id) is) c.if-span.false);
    }
