use Rattle.std.proofs.Common.{◌≡◌, ◌≢◌, ◌<◌, ◌∷◌, ◌++◌, ap, ◌∙◌, arith, rules, length}
use Rattle.std.proofs.lemmas.List.{nil_from_length}
use Rattle.std.proofs.lemmas.List.Elements.{All-from_get_or}
use Rattle.std.proofs.lemmas.Str.Pattern.{split_parts}
use Rattle.aql_lex.specs.Characters.{backtick}
use Rattle.aql_lex.specs.laws.Names.{quoted_takes, empty_name_takes, open_name_takes}
use Rattle.aql_lex.proofs.scans.quoted_name.Goals as goal

pub returns-then-is_empty-clause-takes : goal.returns-then-is_empty-clause-takes
returns-then-is_empty-clause-takes c =
    let parts =
    rw c.in-Some.is at
    (split_parts backtick c.args.inner.now c.split_once.result c.split_once.ensures.cases
    (omega arith)) in
    let none : length c.in-Some.name.now ≡ 0 = search (rules, c.is_empty.ensures, c.if-is_empty.true) in
    empty_name_takes _ _ _ c.requires
    (parts.0 ∙ ap (λ q. q ++ backtick ∷ c.in-Some.rest.now) (nil_from_length _ none))

pub returns-in-None-clause-takes : goal.returns-in-None-clause-takes
returns-in-None-clause-takes c =
    let parts =
    rw c.in-None.is at
    (split_parts backtick c.args.inner.now c.split_once.result c.split_once.ensures.cases
    (omega arith)) in
    open_name_takes _ _ c.requires (All-from_get_or (λ b. b ≢ backtick) _ 0 parts)

pub returns-in_ok-new-in-Some-clause-takes : goal.returns-in_ok-new-in-Some-clause-takes
returns-in_ok-new-in-Some-clause-takes c =
    let parts =
    rw c.in-Some.is at
    (split_parts backtick c.args.inner.now c.split_once.result c.split_once.ensures.cases
    (omega arith)) in
    let some : 0 < length c.in-Some.name.now = search (rules, c.is_empty.ensures, c.if-is_empty.false) in
    let takes = quoted_takes _ _ _ _ c.requires parts.0 (All-from_get_or (λ b. b ≢ backtick) _ 0 parts.1)
    some in
    rw c.in_ok-new-in-Some.ensures takes
