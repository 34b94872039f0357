use Rattle.std.proofs.Common.{◌≡◌, Ok, Err, length, refl, sym, ap, ◌∙◌, subst, arith}
use Rattle.std.specs.List.{insert}
use Rattle.std.proofs.lemmas.List.Edits.{insert_end}
use Rattle.aql_value.specs.inner.NameSearch.{IsSearchResult}
use Rattle.aql_value.specs.Fields.{fields_in}
use Rattle.aql_value.specs.declared.values.Member.{Member}
use Rattle.aql_value.specs.laws.Kept.{replaced, inserted, named_at, place_within, place_up_to}
use Rattle.aql_value.proofs.attributes.set_in.Goals as goal

pub returns-in-Ok-clause-ok : goal.returns-in-Ok-clause-ok
returns-in-Ok-clause-ok c =
    let q = subst
    (λ k. IsSearchResult (Ok c.in-Ok.at) k (fields_in c.deref.result.now)) c.as_str.ensures c.in-Ok.ensures in
    let p = subst (λ es. IsSearchResult (Ok c.in-Ok.at) c.args.name (fields_in es)) c.deref.ensures.value q in
    let i = place_within c.args.entries.now.items c.in-Ok.at p.0 in
    let n = ap (λ (m : Member). m.name) c.index_mut.ensures.value
    ∙ named_at c.args.name c.args.entries.now.items c.in-Ok.at c.index_mut.result.now i p.2 in
    replaced c.args.name c.args.value c.args.entries.now.items c.in-Ok.at
    (record { name = c.index_mut.result.now.name; value = c.args.value }) n refl i p.1 p.2

pub returns-in_ok-insert-in-Err-clause-ok : goal.returns-in_ok-insert-in-Err-clause-ok
returns-in_ok-insert-in-Err-clause-ok c =
    let q = subst
    (λ k. IsSearchResult (Err c.in-Err.at) k (fields_in c.deref.result.now)) c.as_str.ensures c.in-Err.ensures
    in
    let p = subst
    (λ es. IsSearchResult (Err c.in-Err.at) c.args.name (fields_in es)) c.deref.ensures.value q in
    ap fields_in c.in_ok-insert-in-Err.ensures.items
    ∙ inserted c.args.name c.args.value c.args.entries.now.items c.in-Err.at
    (place_up_to c.args.entries.now.items c.in-Err.at p.0) p.1 p.2

pub returns-in_ok-push-in-Err-clause-ok : goal.returns-in_ok-push-in-Err-clause-ok
returns-in_ok-push-in-Err-clause-ok c =
    let q = subst
    (λ k. IsSearchResult (Err c.in-Err.at) k (fields_in c.deref.result.now)) c.as_str.ensures c.in-Err.ensures
    in
    let p = subst
    (λ es. IsSearchResult (Err c.in-Err.at) c.args.name (fields_in es)) c.deref.ensures.value q in
    let last : c.in-Err.at ≡ length c.args.entries.now.items = grind arith in
    let member : Member = record { name = c.args.name; value = c.args.value } in
    ap fields_in (c.in_ok-push-in-Err.ensures.items ∙ sym (insert_end c.args.entries.now.items member)
    ∙ ap (λ i. insert c.args.entries.now.items i member) (sym last))
    ∙ inserted c.args.name c.args.value c.args.entries.now.items c.in-Err.at
    (place_up_to c.args.entries.now.items c.in-Err.at p.0) p.1 p.2
