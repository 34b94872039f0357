use Rattle.std.proofs.Common.{◌≡◌, ◌≤◌, ap, sym, ◌∙◌, arith, length, bytes_eq}
use Rattle.aql_doc.specs.Held.{Held}
use Rattle.aql_doc.specs.Declarations.{collection_index}
use Rattle.aql_doc.proofs.Places.{place_here, place_none, some_held}
use Rattle.aql_doc.proofs.catalog.Catalog.find.Goals as goal

pub returns-then-is_named-clause-within : goal.returns-then-is_named-clause-within
returns-then-is_named-clause-within c =
    let all : length c.deref-collection-items.result.now ≡ length c.args.self.now =
    ap length (c.deref-collection-items.ensures.value ∙ c.self.view_is) in
    omega (arith, all, c.loop-i-test.true)

pub returns-then-is_named-clause-value : goal.returns-then-is_named-clause-value
returns-then-is_named-clause-value c =
    place_here c.args.name.now c.deref-collection-items.result.now c.loop-i.i c.collection-item.result
    c.loop-i-test.true (λ k m. c.loop-i.invariant k _ m)
    (ap (λ (h : Held). bytes_eq h.info.name c.args.name.now) (sym c.collection-item.is)
    ∙ sym c.is_named.ensures ∙ c.if-is_named.true)
    ∙ ap (λ hs. collection_index hs c.args.name.now) (c.deref-collection-items.ensures.value ∙ c.self.view_is)

pub returns-clause-value : goal.returns-clause-value
returns-clause-value c =
    let all : length c.deref-collection-items.result.now ≤ c.loop-i.i = c.loop-i-test.false in
    place_none c.args.name.now c.deref-collection-items.result.now some_held
    (λ k m. c.loop-i.invariant k some_held (omega (arith, m, all)))
    ∙ ap (λ hs. collection_index hs c.args.name.now) (c.deref-collection-items.ensures.value ∙ c.self.view_is)
