use Rattle.std.proofs.Common.{◌≡◌, ◌<◌, length, arith, inl, inr, ◌∙◌, sym, subst}
use Rattle.aql_value.specs.View.{datum_of}
use Rattle.aql_doc.specs.Held.{documents_in}
use Rattle.aql_doc.specs.Limits.{IsDeclared}
use Rattle.aql_doc.specs.Documents.{with_document}
use Rattle.aql_doc.proofs.Places.{fits_at, set_total, found, documents_found, counted, gives, refuses, unchanged}
use Rattle.aql_doc.proofs.catalog.Catalog.add_document.Goals as goal

pub add-requires : goal.add-requires
add-requires c =
    let are : c.self.inside.collections.items ≡ c.args.self.now = c.self.view_is in
    let lt : c.args.coll.0 < length c.self.inside.collections.items = rw are c.requires in
    fits_at c.self.inside.collections.items c.args.coll.0 _ _ lt
    c.index_mut-collection.ensures.value c.self.invariant.0

pub invariant_of-self : goal.invariant_of-self
invariant_of-self c =
    let are : c.self.inside.collections.items ≡ c.args.self.now = c.self.view_is in
    let lt : c.args.coll.0 < length c.self.inside.collections.items = rw are c.requires in
    set_total c.self.inside.collections.items c.args.coll.0 _ _ c.self.inside.total _ 1 lt
    c.index_mut-collection.ensures.value c.self.invariant.0 c.self.invariant.1 (omega arith)
    (omega (arith, c.in-Ok.ensures.room.0)) c.in-Ok.ensures.room.1
    (subst IsDeclared (sym c.in-Ok.ensures.info))

pub returns-in-Ok-clause-ok : goal.returns-in-Ok-clause-ok
returns-in-Ok-clause-ok c =
    let are : c.self.inside.collections.items ≡ c.args.self.now = c.self.view_is in
    let lt : c.args.coll.0 < length c.self.inside.collections.items = rw are c.requires in
    let there = found _ _ _ _ are lt c.index_mut-collection.ensures.value in (
      c.in-Ok.ensures.ok.0 ∙ documents_found c.args.self.now c.args.coll.0 _ there,
      gives _ _ c.args.coll.0 _ c.add.new.self
          (λ h. with_document h (documents_in c.args.self.now) (datum_of c.args.doc))
          are there
          (counted _ _ c.index_mut-collection.result.now _ (datum_of c.args.doc) are c.self.invariant.0
          ∙ c.in-Ok.ensures.ok.1),
    )

pub returns-in-Err-clause-err : goal.returns-in-Err-clause-err
returns-in-Err-clause-err c =
    let are : c.self.inside.collections.items ≡ c.args.self.now = c.self.view_is in
    let lt : c.args.coll.0 < length c.self.inside.collections.items = rw are c.requires in
    let there = found _ _ _ _ are lt c.index_mut-collection.ensures.value in
    elim (c.in-Err.ensures.err) [
      | inl m ↦ inl m
      | inr w ↦ inr
          (refuses _ c.args.coll.0 _
          (λ h. with_document h (documents_in c.args.self.now) (datum_of c.args.doc))
          c.in-Err.fault there
          (counted _ _ c.index_mut-collection.result.now _ (datum_of c.args.doc) are c.self.invariant.0
          ∙ w))
    ]

pub returns-in-Err-clause-unchanged : goal.returns-in-Err-clause-unchanged
returns-in-Err-clause-unchanged c =
    let are : c.self.inside.collections.items ≡ c.args.self.now = c.self.view_is in
    let lt : c.args.coll.0 < length c.self.inside.collections.items = rw are c.requires in
    unchanged _ _ c.args.coll.0 _ c.add.new.self are lt c.index_mut-collection.ensures.value
    c.in-Err.ensures.unchanged
