use Rattle.std.proofs.Common.{◌≡◌, drop, sym, ap, ◌∙◌, arith, take_all, length-drop}
use Rattle.fast_float.specs.Text.{scan}
use Rattle.aql_value.proofs.OnePass.{positive_read, negative_read}
use Rattle.aql_value.proofs.tokens.whole_number.Goals as goal

pub returns-then-has_minus : goal.returns-then-has_minus
returns-then-has_minus c =
    let s = c.as_bytes-bytes.result.now in
    let same : s ≡ c.args.text.now = c.as_bytes-bytes.ensures.value in
    let rest : c.scan.result ≡ scan (drop 1 s) =
    c.scan.ensures.parts ∙ ap scan (take_all _ (drop 1 s) (omega (arith, length-drop 1 s))) in
    rw (← same) (negative_read s _ c.negative.result (sym c.if-has_minus.ensures.value) rest c.negative.ensures)

pub returns-else-has_minus : goal.returns-else-has_minus
returns-else-has_minus c =
    let s = c.as_bytes-bytes.result.now in
    let same : s ≡ c.args.text.now = c.as_bytes-bytes.ensures.value in
    rw (← same)
    (positive_read s _ c.to_i64.result (sym c.if-has_minus.ensures.value) c.scan-else-has_minus.ensures.parts
    c.to_i64.ensures)
