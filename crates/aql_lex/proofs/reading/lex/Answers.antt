use Rattle.std.proofs.Common.{ap, arith}
use Rattle.std.proofs.Common.{length, refl, inl}
use Rattle.std.specs.Prelude.{Ok, Err}
use Rattle.aql_lex.specs.declared.faults.LexFault.TheVariants as LexFault
use Rattle.std.proofs.lemmas.List.Elements.{All-push}
use Rattle.aql_lex.specs.Tokens.{IsUnsigned}
use Rattle.aql_lex.specs.laws.Readings.{token_unsigned, few_more, past_separator, past_token, stops_here}
use Rattle.aql_lex.specs.laws.Readings.{ends_here, same_fault, not_both, one_stop, one_reading}
use Rattle.aql_lex.proofs.reading.lex.Goals as goal

pub loop-character-preserved-in-Ok-Separator : goal.loop-character-preserved-in-Ok-Separator
loop-character-preserved-in-Ok-Separator c =
    let takes = rw c.in-Ok-Separator.field-0-is at c.in-Ok-Separator.ensures.takes in
    let leaves = rw c.in-Ok-Separator.field-0-is at c.in-Ok-Separator.ensures.leaves in
    record {
      utf8 = leaves.0;
      within = omega (arith, leaves.1);
      few = omega (arith, leaves.1);
      unsigned = c.loop-character.invariant.unsigned;
      so_far = past_separator c.args.text.now _ _ _ c.loop-character.invariant.so_far takes;
    }

pub loop-character-preserved : goal.loop-character-preserved
loop-character-preserved c =
    let takes = rw c.in-Ok-Token.field-0-is at c.in-Ok-Token.ensures.takes in
    let leaves = rw c.in-Ok-Token.field-0-is at c.in-Ok-Token.ensures.leaves in
    let pushed = c.in_ok-push-in-Ok-Token.ensures.ok in
    record {
      utf8 = leaves.0;
      within = omega (arith, leaves.1);
      few = few_more c.loop-character.tokens _ _ _ _ _ pushed c.loop-character.invariant.few leaves.1;
      unsigned =
          rw pushed
          (All-push (λ token. IsUnsigned token.kind) _ _ c.loop-character.invariant.unsigned
          (token_unsigned _ _ _ takes.2.stands));
      so_far =
          rw pushed
          (past_token c.args.text.now _ _ _ _ c.loop-character.invariant.so_far takes.0 takes.1 takes.2);
    }

pub returns-in-Ok-Fault-clause-fault : goal.returns-in-Ok-Fault-clause-fault
returns-in-Ok-Fault-clause-fault c place kind e =
    let takes = rw c.in-Ok-Fault.field-0-is at c.in-Ok-Fault.ensures.takes in
    let found = stops_here c.args.text.now _ _ _ _ c.loop-character.invariant.so_far takes.0 takes.1 in
    same_fault c.args.text.now _ place _ kind e found

pub returns-in-Ok-Fault-clause-tokens : goal.returns-in-Ok-Fault-clause-tokens
returns-in-Ok-Fault-clause-tokens c tokens lexes =
    let takes = rw c.in-Ok-Fault.field-0-is at c.in-Ok-Fault.ensures.takes in
    let found = stops_here c.args.text.now _ _ _ _ c.loop-character.invariant.so_far takes.0 takes.1 in
    absurd (not_both c.args.text.now tokens _ _ lexes found)

pub returns-in-Ok-Fault-clause-stops : goal.returns-in-Ok-Fault-clause-stops
returns-in-Ok-Fault-clause-stops c place kind stops =
    let takes = rw c.in-Ok-Fault.field-0-is at c.in-Ok-Fault.ensures.takes in
    let found = stops_here c.args.text.now _ _ _ _ c.loop-character.invariant.so_far takes.0 takes.1 in
    let one = one_stop c.args.text.now _ place _ kind found stops in
    inl (λ i. Err (LexFault.At (one.0 i) (one.1 i)))

pub returns-clause-found : goal.returns-clause-found
returns-clause-found c =
    ends_here c.args.text.now _ _ c.loop-character.invariant.so_far c.in_default.ensures.split

pub returns-clause-tokens : goal.returns-clause-tokens
returns-clause-tokens c tokens lexes =
    let found = ends_here c.args.text.now _ _ c.loop-character.invariant.so_far c.in_default.ensures.split in
    inl (ap Ok (one_reading (length c.args.text.now) _ _ _ _ _ _ refl found lexes).0)

pub returns-clause-stops : goal.returns-clause-stops
returns-clause-stops c place kind stops =
    let found = ends_here c.args.text.now _ _ c.loop-character.invariant.so_far c.in_default.ensures.split in
    absurd (not_both c.args.text.now _ place kind found stops)
