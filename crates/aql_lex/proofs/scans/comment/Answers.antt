use Rattle.std.proofs.Common.{◌≡◌, ◌≢◌, ◌∷◌, [], sym, ap, ◌∙◌, arith}
use Rattle.std.proofs.lemmas.List.Elements.{All-from_get_or}
use Rattle.std.proofs.lemmas.Str.Pattern.{split_parts, split_text_parts}
use Rattle.aql_lex.specs.Characters.{slash, star, line_feed}
use Rattle.aql_lex.proofs.Cuts.{first_close}
use Rattle.aql_lex.specs.laws.Names.{line_takes, last_line_takes, block_takes, open_comment_takes}
use Rattle.aql_lex.proofs.scans.comment.Goals as goal

pub returns-in-Some-split_once-clause-takes : goal.returns-in-Some-split_once-clause-takes
returns-in-Some-split_once-clause-takes c =
    let strip = c.in-Some.ensures.cases in
    let begins : c.args.text.now ≡ slash ∷ slash ∷ c.in-Some.words.now =
    strip.1.1 ∙ ap (λ q. slash ∷ slash ∷ q) (sym strip.2) in
    let parts =
    rw c.in-Some-split_once.is at
    (split_parts line_feed c.in-Some.words.now c.split_once.result c.split_once.ensures.cases
    (omega arith)) in
    line_takes _ _ _ _ begins parts.0 (All-from_get_or (λ b. b ≢ line_feed) _ 0 parts.1)

pub returns-in-None-clause-takes : goal.returns-in-None-clause-takes
returns-in-None-clause-takes c =
    let strip = c.in-Some.ensures.cases in
    let begins : c.args.text.now ≡ slash ∷ slash ∷ c.in-Some.words.now =
    strip.1.1 ∙ ap (λ q. slash ∷ slash ∷ q) (sym strip.2) in
    let parts =
    rw c.in-None.is at
    (split_parts line_feed c.in-Some.words.now c.split_once.result c.split_once.ensures.cases
    (omega arith)) in
    last_line_takes _ _ begins (All-from_get_or (λ b. b ≢ line_feed) _ 0 parts)

pub returns-in-Some-split_once-2-clause-takes : goal.returns-in-Some-split_once-2-clause-takes
returns-in-Some-split_once-2-clause-takes c =
    let strip = c.in_ok-words.ensures.cases in
    let begins : c.args.text.now ≡ slash ∷ star ∷ c.in_ok-words.words.now =
    strip.1.1 ∙ ap (λ q. slash ∷ star ∷ q) (sym strip.2) in
    let parts =
    rw c.in-Some-split_once-2.is at
    (split_text_parts (star ∷ slash ∷ []) c.in_ok-words.words.now c.split_once-2.result
    c.split_once-2.ensures.cases) in
    let found = c.in-Some-split_once-2.ensures.cases in
    block_takes _ _ _ _ begins (first_close _ _ _ found.0 parts found.6 found.2.0)

pub returns-in-None-split_once-clause-takes : goal.returns-in-None-split_once-clause-takes
returns-in-None-split_once-clause-takes c =
    let strip = c.in_ok-words.ensures.cases in
    let begins : c.args.text.now ≡ slash ∷ star ∷ c.in_ok-words.words.now =
    strip.1.1 ∙ ap (λ q. slash ∷ star ∷ q) (sym strip.2) in
    let parts =
    rw c.in-None-split_once.is at
    (split_text_parts (star ∷ slash ∷ []) c.in_ok-words.words.now c.split_once-2.result
    c.split_once-2.ensures.cases) in
    open_comment_takes _ _ begins parts
