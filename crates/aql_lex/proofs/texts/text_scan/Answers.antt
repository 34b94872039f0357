use Rattle.std.proofs.Common.{◌≡◌, ◌<◌, ◌∷◌, ◌++◌, ℕ, List, true, ap, ◌∙◌, subst, arith}
use Rattle.std.specs.Prelude.{string_bytes, encode_utf8}
use Rattle.std.proofs.lemmas.Bool.Decides.{nat_tests}
use Rattle.aql_lex.specs.Characters.{backslash, is_quote}
use Rattle.aql_lex.specs.Texts.{Writes}
use Rattle.aql_lex.specs.laws.Quotes.{Continues, continues_here, goes_plain, goes_escaped, ascii_front}
use Rattle.aql_lex.specs.laws.Quotes.{text_takes, open_text_takes, bad_escape_takes}
use Rattle.aql_lex.proofs.texts.text_scan.Goals as goal

small_quote : (q : ℕ) → is_quote q ≡ true → q < 128
small_quote q h = grind (arith, nat_tests)

-- what the text is written as up to a character of ASCII
writes_up_to : (q c d : ℕ) (inner value left after : List ℕ) → Continues q inner value left → d < 128 → c ≡ d
    → left ≡ encode_utf8 c ++ after → Writes q inner value (d ∷ after)
writes_up_to q c d inner value left after so_far small e split =
    subst (Writes q inner value)
    (ascii_front d left after small (split ∙ ap (λ x. encode_utf8 x ++ after) e))
    (continues_here q inner value left so_far)

pub returns-then-character-quote-clause-takes : goal.returns-then-character-quote-clause-takes
returns-then-character-quote-clause-takes c =
    let w =
    writes_up_to c.args.quote c.in-Some.character c.args.quote _ _ _ _ c.loop-character.invariant.so_far
    (small_quote _ c.requires.quote) c.if-character-quote.true c.in-Some.ensures.split in
    let takes = text_takes c.args.quote _ _ c.requires.quote c.requires.split _ _ w in
    rw c.in_ok-from_string.ensures takes

pub loop-character-preserved-in-Some-escape : goal.loop-character-preserved-in-Some-escape
loop-character-preserved-in-Some-escape c =
    let slash : c.loop-character.left.now ≡ backslash ∷ c.in-Some.after.now =
    ascii_front backslash _ _ (omega arith)
    (c.in-Some.ensures.split ∙ ap (λ x. encode_utf8 x ++ c.in-Some.after.now)
    c.if-character-eq92.true) in
    record {
      utf8 = c.in-Some-escape.ensures.utf8;
      within = omega (arith, c.in-Some.ensures.shorter, c.in-Some-escape.ensures.shorter);
      so_far = goes_escaped c.args.quote _ _ _ _ _ _ _ c.loop-character.invariant.so_far slash
          c.in-Some-escape.ensures.value c.in_ok-push-in-Some-escape.ensures.bytes;
    }

pub returns-in-None-clause-takes : goal.returns-in-None-clause-takes
returns-in-None-clause-takes c =
    let w = writes_up_to c.args.quote c.in-Some.character backslash _ _ _ _ c.loop-character.invariant.so_far
    (omega arith) c.if-character-eq92.true c.in-Some.ensures.split in
    let slash : c.loop-character.left.now ≡ backslash ∷ c.in-Some.after.now =
    ascii_front backslash _ _ (omega arith)
    (c.in-Some.ensures.split ∙ ap (λ x. encode_utf8 x ++ c.in-Some.after.now)
    c.if-character-eq92.true) in
    bad_escape_takes c.args.quote _ _ c.requires.quote c.requires.split _ c.in-Some.after.now
    c.loop-character.left.now w c.in-None.ensures.value slash

pub loop-character-preserved : goal.loop-character-preserved
loop-character-preserved c = record {
  utf8 = c.in-Some.ensures.utf8;
  within = omega (arith, c.in-Some.ensures.shorter);
  so_far = goes_plain c.args.quote _ _ _ _ _ _ c.requires.quote c.if-character-quote.false
      c.if-character-eq92.false c.loop-character.invariant.so_far c.in-Some.ensures.split
      c.in_ok-push.ensures.bytes;
}

pub returns-clause-takes : goal.returns-clause-takes
returns-clause-takes c =
    let w = continues_here c.args.quote _ _ _ c.loop-character.invariant.so_far in
    open_text_takes c.args.quote _ _ c.requires.quote c.requires.split _
    (subst (Writes c.args.quote c.args.inner.now (string_bytes c.loop-character.value))
    c.in_default.ensures.split w)
