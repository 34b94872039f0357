-- Numbers.
use Rattle.std.proofs.Common.{◌≡◌, ℕ, ◌<◌, ◌≤◌, Bool, true, false, List, [], ◌∷◌, ◌++◌}
use Rattle.std.proofs.Common.{length, refl, sym, ap, ◌∙◌, subst, arith, ⊎_elim, ◌⊎◌, inl}
use Rattle.std.proofs.Common.{inr, pos, ℤ}
use Rattle.std.specs.Prelude.{◌==◌, ◌&&◌, if◌then◌else◌}
use Rattle.std.specs.Char.{is_ascii_digit}
use Rattle.std.specs.List.{list_all}
use Rattle.std.proofs.lemmas.Bool.Decides.{nat_tests}
use Rattle.aql_lex.specs.declared.kinds.TokenKind.{TokenKind}
use Rattle.aql_lex.specs.declared.kinds.TokenKind.TheVariants as k
use Rattle.aql_lex.specs.declared.faults.LexKind.{LexKind}
use Rattle.aql_lex.specs.declared.faults.LexKind.TheVariants as f
use Rattle.aql_lex.specs.Characters.{begins}
use Rattle.aql_lex.specs.Numbers.{largest, are_digits, value_of, begins_digit, begins_signed, is_exponent}
use Rattle.aql_lex.specs.Numbers.{is_fraction}
use Rattle.aql_lex.specs.Tokens.{IsToken}
use Rattle.aql_lex.specs.Faults.{Breaks, Faults}
use Rattle.aql_lex.specs.Reading.{NoSeparator, NoFault, IsLongest}
use Rattle.aql_lex.specs.laws.Runs.{IsRun, run_longest, one_run}
use Rattle.aql_lex.specs.laws.Classes.{digit, front, front_begins, class-digit, class-tick}
use Rattle.aql_lex.specs.laws.Classes.{class-quote, class-slash, token_front, no_separator}
use Rattle.aql_lex.specs.laws.Separators.{no_fault}

pub all_digits : (digits : List ℕ) → are_digits digits ≡ true → list_all is_ascii_digit digits ≡ true
all_digits [] h = absurd (cc)
all_digits (b ∷ more) h = h

pub digit_token : (kind : TokenKind) (text rest : List ℕ) → IsToken kind text rest → front text ≡ digit
    → (digits : List ℕ)
    × ((are_digits digits ≡ true) × (value_of digits ≤ largest) × (kind ≡ k.Number (pos (value_of digits)))
    × (text ≡ digits ++ rest))
digit_token (k.Number number) text rest t h = (t.0, (t.1.0, t.1.1, ap k.Number t.1.2, t.1.3))
digit_token kind text rest t h = let here = token_front kind text rest t in absurd (cc)

-- what after digits makes them a fraction is no digit
fraction_stops : (rest : List ℕ) → is_fraction rest ≡ true → begins_digit rest ≡ false
fraction_stops [] h = refl
fraction_stops (b ∷ rest) h = by_byte b (begins_digit rest) (begins_signed rest) h
  where
    by_byte : (b : ℕ) (t u : Bool) → (if b == 46 then t else (is_exponent b && u)) ≡ true
        → is_ascii_digit b ≡ false
    by_byte b t u h = grind (arith, nat_tests)

-- the listed fault of these digits, which the rest is after
abbrev pub DigitFault : LexKind → List ℕ → List ℕ → Type 0
DigitFault kind digits rest =
    ((kind ≡ f.Fraction) × (is_fraction rest ≡ true))
    ⊎ ((kind ≡ f.NumberTooLarge) × (is_fraction rest ≡ false) × (largest < value_of digits))

pub digit_breaks : (kind : LexKind) (text at : List ℕ) → Breaks kind text at → front text ≡ digit
    → (digits : List ℕ)
    × ((rest : List ℕ)
    × ((are_digits digits ≡ true) × (begins_digit rest ≡ false) × (text ≡ digits ++ rest) × (at ≡ text)
    × DigitFault kind digits rest))
digit_breaks kind text at (Breaks.open_text {quote = q} h w) e = let here = class-quote q h in absurd (cc)
digit_breaks kind text at (Breaks.open_name name none) e = let here = class-tick in absurd (cc)
digit_breaks kind text at (Breaks.open_comment unclosed) e = let here = class-slash in absurd (cc)
digit_breaks kind text at (Breaks.bad_escape {quote = q} h w bad) e =
    let here = class-quote q h in absurd (cc)
digit_breaks kind text at (Breaks.fraction digits rest h tail) e =
    (digits, (rest, (h, fraction_stops rest tail, refl, refl, inl (refl, tail))))
digit_breaks kind text at (Breaks.too_large digits rest h stop whole large) e =
    (digits, (rest, (h, stop, refl, refl, inr (refl, whole, large))))

pub run_is_digits : (text run rest : List ℕ) → begins_digit text ≡ true → IsRun is_ascii_digit text run rest
    → are_digits run ≡ true
run_is_digits text [] rest h run =
    let same = ap (begins is_ascii_digit) run.splits in let stop = run.stops in absurd (cc)
run_is_digits text (b ∷ run) rest h cut = cut.passes

module _ (text run rest : List ℕ) (h : begins_digit text ≡ true) (cut : IsRun is_ascii_digit text run rest)
  where
    digit_first : front text ≡ digit
    digit_first = front_begins is_ascii_digit digit class-digit text h

    digits_no_separator : NoSeparator text
    digits_no_separator = let first = digit_first in no_separator text (λ e. absurd (cc)) (λ e. absurd (cc))

    pub fraction_takes : is_fraction rest ≡ true → NoSeparator text × Faults f.Fraction text text
    fraction_takes tail = (
      digits_no_separator,
      subst (λ q. Faults f.Fraction q q) (sym cut.splits)
          (Faults.breaks (Breaks.fraction run rest (run_is_digits text run rest h cut) tail)),
    )

    pub large_takes : is_fraction rest ≡ false → largest < value_of run
        → NoSeparator text × Faults f.NumberTooLarge text text
    large_takes whole large = (
      digits_no_separator,
      subst (λ q. Faults f.NumberTooLarge q q) (sym cut.splits)
          (Faults.breaks
          (Breaks.too_large run rest (run_is_digits text run rest h cut) cut.stops whole large)),
    )

    pub number_takes : (number : ℤ) → is_fraction rest ≡ false → value_of run ≤ largest
        → number ≡ pos (value_of run) → NoSeparator text × NoFault text × IsLongest (k.Number number) text
        rest
    number_takes number whole small is =
        let t : IsToken (k.Number number) text rest =
        (run, (run_is_digits text run rest h cut, small, is, cut.splits)) in (
          digits_no_separator,
          no_fault (k.Number number) text rest t
              (λ fault at b.
              let u = digit_breaks fault text at b digit_first in
              let same = one_run is_ascii_digit run u.0 rest u.1.0 (sym cut.splits ∙ u.1.1.2) cut.passes
              (all_digits u.0 u.1.1.0) cut.stops u.1.1.1 in
              ⊎_elim
              (λ d. let e = ap is_fraction same.1 ∙ d.1 in absurd (cc))
              (λ d. let e = ap value_of same.0 in let over = d.2 in absurd (omega arith))
              u.1.1.4),
          record {
            stands = t;
            longest = λ other after t.
                let u = digit_token other text after t digit_first in
                run_longest is_ascii_digit run u.0 rest after (sym cut.splits ∙ u.1.3) (all_digits u.0 u.1.0)
                cut.stops;
          },
        )

pub some_digits : (digits : List ℕ) → are_digits digits ≡ true → 0 < length digits
some_digits [] h = absurd (cc)
some_digits (b ∷ more) h = omega arith
