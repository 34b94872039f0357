use Rattle.std.proofs.Common.{◌≡◌, ◌<◌, ℕ, true, sym, ap, ◌∙◌, subst, rules, arith}
use Rattle.std.specs.Char.{is_ascii_digit}
use Rattle.std.specs.List.{prefix_len, list_all}
use Rattle.std.specs.Str.Parse.{digits_value}
use Rattle.std.proofs.lemmas.Str.Parse.{IsNumeralModel, numerals_by_value, parse_signed_digits}
use Rattle.std.proofs.lemmas.Int.{to_z-of_z, fits_signed_from_abs}
use Rattle.std.specs.Prelude.{FitsSigned, pos}
use mir.Syntax.{w64}
use Rattle.aql_lex.specs.Numbers.{is_fraction}
use Rattle.aql_lex.specs.laws.Runs.{cut_is_run}
use Rattle.aql_lex.proofs.Cuts.{digits_boundary}
use Rattle.aql_lex.specs.laws.Digits.{fraction_takes, number_takes, large_takes, run_is_digits, some_digits}
use Rattle.aql_lex.proofs.scans.number.Goals as goal

own : IsNumeralModel (λ ds. list_all is_ascii_digit ds ≡ true) (digits_value 10)
own = numerals_by_value _ (search rules)

fits : (n : ℕ) → n < 9223372036854775808 → FitsSigned w64 (pos n)
fits n small = fits_signed_from_abs w64 (pos n) small

pub split_at-requires : goal.split_at-requires
split_at-requires c =
    digits_boundary c.args.text.now _ c.utf8.text
    (c.digits_len.ensures.value ∙ ap (prefix_len is_ascii_digit) c.as_bytes.ensures.value)

pub returns-then-is_fraction-clause-takes : goal.returns-then-is_fraction-clause-takes
returns-then-is_fraction-clause-takes c =
    let run =
    cut_is_run is_ascii_digit c.args.text.now _ _ _
    (c.digits_len.ensures.value ∙ ap (prefix_len is_ascii_digit) c.as_bytes.ensures.value)
    c.split_at.ensures.front c.split_at.ensures.back in
    fraction_takes _ _ _ c.requires run
    (ap is_fraction (sym c.as_bytes-2.ensures.value) ∙ sym c.is_fraction.ensures
    ∙ c.if-is_fraction.true)

pub returns-in-Ok-clause-takes : goal.returns-in-Ok-clause-takes
returns-in-Ok-clause-takes c =
    let run =
    cut_is_run is_ascii_digit c.args.text.now _ _ _
    (c.digits_len.ensures.value ∙ ap (prefix_len is_ascii_digit) c.as_bytes.ensures.value)
    c.split_at.ensures.front c.split_at.ensures.back in
    let parsed =
    rw c.in-Ok.is at
    (parse_signed_digits own w64 c.split_at.result.0.now c.parse.result c.parse.ensures.value.0
    run.passes) in
    let small : digits_value 10 c.split_at.result.0.now < 9223372036854775808 = parsed.0.1 in
    rw
    (to_z-of_z w64 c.in-Ok.number
    (subst (λ z. FitsSigned w64 z) (sym parsed.1)
    (fits (digits_value 10 c.split_at.result.0.now) small)))
    (number_takes _ _ _ c.requires run c.in-Ok.number
    (ap is_fraction (sym c.as_bytes-2.ensures.value) ∙ sym c.is_fraction.ensures
    ∙ c.if-is_fraction.false) (omega arith) parsed.1)

pub returns-in-Err-clause-takes : goal.returns-in-Err-clause-takes
returns-in-Err-clause-takes c =
    let run =
    cut_is_run is_ascii_digit c.args.text.now _ _ _
    (c.digits_len.ensures.value ∙ ap (prefix_len is_ascii_digit) c.as_bytes.ensures.value)
    c.split_at.ensures.front c.split_at.ensures.back in
    let parsed =
    rw c.in-Err.is at
    (parse_signed_digits own w64 c.split_at.result.0.now c.parse.result c.parse.ensures.value.0
    run.passes) in
    let some = some_digits _ (run_is_digits _ _ _ c.requires run) in
    let apart : digits_value 10 c.split_at.result.0.now < 9223372036854775808 → ⊥ =
    λ small. parsed (some, small) in
    large_takes _ _ _ c.requires run
    (ap is_fraction (sym c.as_bytes-2.ensures.value) ∙ sym c.is_fraction.ensures
    ∙ c.if-is_fraction.false) (omega arith)
