use Rattle.std.proofs.Common.{◌≡◌, ◌<◌, true, false, inr, ap, ◌∙◌, arith}
use Rattle.std.specs.Prelude.{is_some}
use Rattle.aql_doc.specs.Declarations.{collection_index}
use Rattle.aql_script.specs.LineEffects.{shards_of}
use Rattle.aql_script.proofs.StepsOn.{found, declared_twice, many_shards, declares, not_declared}
use Rattle.aql_script.proofs.line.declare.Goals as goal

pub returns-then-is_some-clause-err : goal.returns-then-is_some-clause-err
returns-then-is_some-clause-err c =
    let there : is_some (collection_index c.args.catalog.now c.args.name) ≡ true =
    found c.find.result (λ n. n.0) _ _ _
    (c.find.ensures.value ∙ ap
    (collection_index c.args.catalog.now) c.as_str.ensures) c.is_some.ensures c.if-is_some.true in
    rw c.fault_at.ensures
    (inr (declared_twice c.args.line c.args.catalog.now c.args.edge c.args.name c.args.options there))

pub returns-then-shards-gt-SHARDS-clause-err : goal.returns-then-shards-gt-SHARDS-clause-err
returns-then-shards-gt-SHARDS-clause-err c =
    let free : is_some (collection_index c.args.catalog.now c.args.name) ≡ false =
    found c.find.result (λ n. n.0) _ _ _
    (c.find.ensures.value ∙ ap
    (collection_index c.args.catalog.now) c.as_str.ensures) c.is_some.ensures c.if-is_some.false in
    let many : 32 < shards_of c.args.options =
    omega (arith, c.if-shards-gt-SHARDS.true, c.shards_of-shards.ensures.value) in
    inr (many_shards c.args.line c.args.catalog.now c.args.edge c.args.name c.args.options free many)

pub returns-in-Ok-clause-ok : goal.returns-in-Ok-clause-ok
returns-in-Ok-clause-ok c =
    let free : is_some (collection_index c.args.catalog.now c.args.name) ≡ false =
    found c.find.result (λ n. n.0) _ _ _
    (c.find.ensures.value ∙ ap
    (collection_index c.args.catalog.now) c.as_str.ensures) c.is_some.ensures c.if-is_some.false in
    declares c.args.line c.args.catalog.now c.args.edge c.args.name c.args.options _ _ _ free
    c.if-shards-gt-SHARDS.false c.shards_of-shards.ensures.value c.in_ok-keys.ensures.value
    c.in-Ok.ensures.ok.1

pub returns-in-Err-clause-err : goal.returns-in-Err-clause-err
returns-in-Err-clause-err c =
    let free : is_some (collection_index c.args.catalog.now c.args.name) ≡ false =
    found c.find.result (λ n. n.0) _ _ _
    (c.find.ensures.value ∙ ap
    (collection_index c.args.catalog.now) c.as_str.ensures) c.is_some.ensures c.if-is_some.false in
    rw c.declare_fault.ensures
    (not_declared c.args.line c.args.catalog.now c.args.edge c.args.name c.args.options _ _ _ free
    c.if-shards-gt-SHARDS.false c.shards_of-shards.ensures.value c.in_ok-keys.ensures.value
    c.in-Err.ensures.err)
