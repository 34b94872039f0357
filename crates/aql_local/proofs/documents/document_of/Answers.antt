use Rattle.aql_local.specs.declared.lookups.SystemAttribute.TheVariants.{Id}
use Rattle.aql_local.proofs.Looked.{is_known, is_index, is_place}
use Rattle.aql_local.proofs.documents.document_of.Goals as goal

pub indexed-document-requires-clause-index : goal.indexed-document-requires-clause-index
indexed-document-requires-clause-index c =
    let s = c.args.servers.now in
    is_index s.servers s.held c.in-Some.coll.0 Id c.index_by-index.result c.index_by-index.ensures
    (is_known s.servers s.held c.in-Some.coll.0 c.in-Some.ensures.declared)

pub indexed-document-requires-clause-place : goal.indexed-document-requires-clause-place
indexed-document-requires-clause-place c =
    let s = c.args.servers.now in
    let found = c.in-Some.ensures.found c.args.id.now c.in_ok-values.ensures in
    is_place s.servers s.held c.in-Some.coll.0 Id c.index_by-index.result c.index_by-index.ensures
    (is_known s.servers s.held c.in-Some.coll.0 c.in-Some.ensures.declared) c.from.result
    c.in-Some.place found.0 c.from.ensures found.1
