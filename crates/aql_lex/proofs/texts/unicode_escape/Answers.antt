use Rattle.std.proofs.Common.{◌≡◌, ◌<◌, ◌≤◌, ℕ, true, arith}
use Rattle.std.specs.Char.Utf16.{is_high_surrogate}
use Rattle.std.proofs.lemmas.Bool.Decides.{nat_tests}
use Rattle.aql_lex.specs.laws.Quotes.{pair_gives}
use Rattle.aql_lex.proofs.texts.unicode_escape.Goals as goal

is_high : (unit : ℕ) → 55296 ≤ unit → unit < 56320 → is_high_surrogate unit ≡ true
is_high unit low high = grind (arith, nat_tests)

pub returns-clause-value : goal.returns-clause-value
returns-clause-value c =
    let high : is_high_surrogate c.in_ok-unit.unit ≡ true =
    is_high c.in_ok-unit.unit (omega arith) (omega arith) in
    pair_gives c.args.text.now _ _ _ c.in_ok-unit.ensures.value high c.split_at.ensures.back
    c.in_ok-second_half.ensures.value
