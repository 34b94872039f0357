use Rattle.std.proofs.Common.{ap₂, subst, sym, ◌∙◌, List, All}
use Rattle.aql_doc.specs.Held.{Held}
use Rattle.aql_shard.specs.declared.shapes.Shape.{Shape}
use Rattle.aql_shard.specs.Known.{shapes}
use Rattle.aql_shard.specs.inner.Kept.{IsNarrow, facts_by}
use Rattle.aql_shard.proofs.Collected.{all_narrow, facts_are, fact_is}
use Rattle.aql_shard.proofs.known.coll_fact.Goals as goal

pub index_facts-requires : goal.index_facts-requires
index_facts-requires c =
    subst (λ (ss : List Shape). All IsNarrow ss) (sym (c.as_slice-2.ensures ∙ c.in_ok-shapes.ensures))
    (all_narrow c.args.info.now c.requires.declared)

pub returns : goal.returns
returns c =
    let h : Held = record { info = c.args.info.now; documents = c.args.documents.now } in
    fact_is c.args.servers h c.in_ok-copy.field-0 c.len.result c.shard_count.result c.in_ok-copy_texts.field-0
    c.in_ok-index_facts.field-0 c.in_ok-copy.ensures c.len.ensures c.shard_count.ensures
    (c.in_ok-copy_texts.ensures ∙ c.as_slice.ensures)
    (c.in_ok-index_facts.ensures
    ∙ ap₂ facts_by (c.as_slice-2.ensures ∙ c.in_ok-shapes.ensures) (c.as_slice-3.ensures ∙ c.requires.indexes)
    ∙ facts_are c.args.documents.now (shapes c.args.info.now))
