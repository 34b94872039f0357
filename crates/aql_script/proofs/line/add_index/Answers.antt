use Rattle.std.proofs.Common.{inr, ap, ◌∙◌}
use Rattle.aql_doc.specs.Declarations.{collection_index}
use Rattle.aql_script.proofs.StepsOn.{unknown, indexes, not_indexed}
use Rattle.aql_script.proofs.line.add_index.Goals as goal

pub returns-in_default-clause-err : goal.returns-in_default-clause-err
returns-in_default-clause-err c =
    rw c.fault_at.ensures
    (inr (unknown c.args.line c.args.catalog.now c.args.name c.args.attributes
    (c.in_default.ensures.value ∙ ap (collection_index c.args.catalog.now) c.as_str.ensures)))

pub returns-in-Ok-clause-ok : goal.returns-in-Ok-clause-ok
returns-in-Ok-clause-ok c =
    indexes c.args.line c.args.catalog.now c.args.name c.args.attributes c.in-Some.coll.0 _
    (c.in-Some.ensures.value ∙ ap (collection_index c.args.catalog.now) c.as_str.ensures)
    (rw c.into_names.ensures.value at c.in-Ok.ensures.ok)

pub returns-clause-err : goal.returns-clause-err
returns-clause-err c =
    rw c.index_fault.ensures
    (not_indexed c.args.line c.args.catalog.now c.args.name c.args.attributes c.in-Some.coll.0 _
    (c.in-Some.ensures.value ∙ ap (collection_index c.args.catalog.now) c.as_str.ensures)
    (rw c.into_names.ensures.value at c.in-Err.ensures.err))
