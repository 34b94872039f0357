use Rattle.std.proofs.Common.{◌++◌, ap, ◌∙◌}
use Rattle.std.specs.Prelude.{encode_utf8}
use Rattle.aql_func.proofs.Encoded.{encode_more}
use Rattle.aql_func.proofs.texts.text_of.Goals as goal

pub loop-c-preserved : goal.loop-c-preserved
loop-c-preserved c =
    c.in_ok-push.ensures.bytes ∙ ap (λ l. l ++ encode_utf8 c.c-item.result) c.loop-c.invariant
    ∙ encode_more c.args.characters.now c.loop-c.c-index c.c-item.result c.loop-c-test.true c.c-item.is
