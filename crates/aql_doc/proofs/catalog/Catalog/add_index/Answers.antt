use Rattle.std.proofs.Common.{◌≡◌, ◌<◌, length, arith, inl, inr, ap}
use Rattle.std.specs.Prelude.{Err, ◌⊎◌}
use Rattle.aql_doc.specs.Declarations.{with_index, add_index}
use Rattle.aql_doc.specs.declared.faults.CatalogFault.TheVariants.{Memory}
use Rattle.aql_doc.proofs.Places.{set_total, found, gives, refuses, unchanged, on_ok, on_err, if_err, kept_within}
use Rattle.aql_doc.proofs.catalog.Catalog.add_index.Goals as goal

pub invariant_of-self : goal.invariant_of-self
invariant_of-self c =
    let are : c.self.inside.collections.items ≡ c.args.self.now = c.self.view_is in
    let lt : c.args.coll.0 < length c.self.inside.collections.items = rw are c.requires.coll in
    set_total c.self.inside.collections.items c.args.coll.0 _ _ _ _ 0 lt c.index_mut-collection.ensures.value
    c.self.invariant.0 c.self.invariant.1 (omega arith)
    (let most = c.self.invariant.1.documents in let total = c.self.invariant.0 in omega arith)
    (let same = ap length c.add_index.ensures.documents in omega (arith, same))
    (kept_within c.add_index.result c.index_mut-collection.result.now c.add_index.new.self c.args.attributes
    c.add_index.ensures.ok c.add_index.ensures.unchanged c.requires.attributes)

pub returns-clause-ok : goal.returns-clause-ok
returns-clause-ok c =
    let are : c.self.inside.collections.items ≡ c.args.self.now = c.self.view_is in
    let lt : c.args.coll.0 < length c.self.inside.collections.items = rw are c.requires.coll in
    let there = found _ _ _ _ are lt c.index_mut-collection.ensures.value in
    on_ok c.add_index.result _ _
    (gives _ _ c.args.coll.0 _ c.add_index.new.self (λ h. with_index h c.args.attributes) are there)
    c.add_index.ensures.ok

pub returns-clause-err : goal.returns-clause-err
returns-clause-err c =
    let are : c.self.inside.collections.items ≡ c.args.self.now = c.self.view_is in
    let lt : c.args.coll.0 < length c.self.inside.collections.items = rw are c.requires.coll in
    let there = found _ _ _ _ are lt c.index_mut-collection.ensures.value in
    if_err c.add_index.result
    (λ e. (e ≡ Memory) ⊎ (with_index c.index_mut-collection.result.now c.args.attributes ≡ Err e))
    (λ e. (e ≡ Memory) ⊎ (add_index c.args.self.now c.args.coll.0 c.args.attributes ≡ Err e))
    (λ e h. elim h [
      | inl m ↦ inl m
      | inr w ↦ inr (refuses _ c.args.coll.0 _ (λ h. with_index h c.args.attributes) e there w)
    ])
    c.add_index.ensures.err

pub returns-clause-unchanged : goal.returns-clause-unchanged
returns-clause-unchanged c =
    let are : c.self.inside.collections.items ≡ c.args.self.now = c.self.view_is in
    let lt : c.args.coll.0 < length c.self.inside.collections.items = rw are c.requires.coll in
    on_err c.add_index.result _ _
    (unchanged _ _ c.args.coll.0 _ c.add_index.new.self are lt c.index_mut-collection.ensures.value)
    c.add_index.ensures.unchanged
