use Rattle.std.proofs.Common.{◌≡◌, ◌==◌, false, length, sym, ◌∙◌, true≢false, rules, arith}
use Rattle.std.specs.List.{list_any, before_first, after_first}
use Rattle.std.proofs.lemmas.Str.Pattern.{contains_char}
use Rattle.aql_func.specs.Objects.{is_slash}
use Rattle.aql_func.specs.laws.Identifiers.{id_is, no_slash}
use Rattle.aql_func.proofs.objects.sides.Goals as goal

pub returns-else-contains-clause-found : goal.returns-else-contains-clause-found
returns-else-contains-clause-found c =
    let id = c.args.id.now in
    let p : c.in-Some.collection.now ≡ before_first is_slash id = search rules in
    let q : c.in-Some.key.now ≡ after_first is_slash id = search rules in
    let g : (length c.in-Some.collection.now == 0) ≡ false = search rules in
    let h : (length c.in-Some.key.now == 0) ≡ false = search rules in
    let k : list_any is_slash c.in-Some.key.now ≡ false =
    no_slash c.in-Some.key.now (λ k l e. true≢false
    (sym ((contains_char 47 c.in-Some.key.now c.contains.result c.contains.ensures.cases
    (omega arith)).1 k l e) ∙ c.if-contains.false)) in
    sym (id_is id c.in-Some.collection.now c.in-Some.key.now p q g h k)
