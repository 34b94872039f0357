use Rattle.aql_local.proofs.Looked.{is_searched, found_in}
use Rattle.aql_local.proofs.lookups.find_span.Goals as goal

pub span-requires : goal.span-requires
span-requires c =
    let s = c.args.servers.now in
    is_searched s.servers s.held c.args.coll.0 c.args.attribute c.index_by-index.result
    c.index_by-index.ensures c.requires.index _ c.requires.one

pub returns-clause-exactly : goal.returns-clause-exactly
returns-clause-exactly c value is =
    let s = c.args.servers.now in
    found_in s.servers s.held c.args.coll.0 c.args.attribute c.index_by-index.result
    c.index_by-index.ensures c.requires.index c.args.values.now c.span.result value is c.span.ensures.exactly
