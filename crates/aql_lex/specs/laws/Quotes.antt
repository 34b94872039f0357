-- Texts between quotes.
use Rattle.std.proofs.Common.{◌≡◌, ◌≢◌, ℕ, suc, ◌+◌, ◌-◌, ◌<◌, ◌≤◌, true, false, List, [], ◌∷◌}
use Rattle.std.proofs.Common.{◌++◌, length, get_or, drop, Some, None, refl, sym, ap, ◌∙◌}
use Rattle.std.proofs.Common.{subst, arith, append_assoc, ⊎_elim, ◌⊎◌, inl, inr}
use Rattle.std.specs.Prelude.{◌==◌, encode_utf8, IsUtf8}
use Rattle.std.specs.Str.{IsCharBoundary}
use Rattle.std.specs.Char.Utf16.{is_high_surrogate}
use Rattle.std.proofs.lemmas.Bool.Decides.{nat_tests, eqb_tells}
use Rattle.std.proofs.lemmas.List.{append-nil, drop-drop}
use Rattle.std.proofs.lemmas.Str.{IsCharBoundary-after_ascii, inside_one, encode_ascii}
use Rattle.aql_lex.specs.declared.kinds.TokenKind.{TokenKind}
use Rattle.aql_lex.specs.declared.kinds.TokenKind.TheVariants as k
use Rattle.aql_lex.specs.declared.faults.LexKind.{LexKind}
use Rattle.aql_lex.specs.declared.faults.LexKind.TheVariants as f
use Rattle.aql_lex.specs.Characters.{is_quote, backslash}
use Rattle.aql_lex.specs.Texts.{Writes, escape, code_unit, second_half, unicode_escape}
use Rattle.aql_lex.specs.Tokens.{IsToken}
use Rattle.aql_lex.specs.Faults.{Breaks, Faults}
use Rattle.aql_lex.specs.Reading.{NoSeparator, NoFault, IsLongest}
use Rattle.aql_lex.specs.inner.Scans.{EndsInAscii}
use Rattle.aql_lex.specs.laws.Classes.{quote, front, digits_front, class-tick, class-quote, class-slash}
use Rattle.aql_lex.specs.laws.Classes.{token_front, no_separator}
use Rattle.aql_lex.specs.laws.Separators.{no_fault}

-- ---- escapes

pub pair_gives : (text rest : List ℕ) (unit character : ℕ) → code_unit text ≡ Some (unit, drop 4 text)
    → is_high_surrogate unit ≡ true → rest ≡ drop 4 text
    → second_half unit rest ≡ Some (character, drop 6 rest)
    → unicode_escape (code_unit text) ≡ Some (character, drop 10 text)
pair_gives text rest unit character e high cut half =
    let first : unicode_escape (code_unit text) ≡ second_half unit (drop 4 text) =
    ap unicode_escape e ∙ rw high refl in
    let second : second_half unit (drop 4 text) ≡ Some (character, drop 6 (drop 4 text)) =
    subst (λ q. second_half unit q ≡ Some (character, drop 6 q)) cut half in
    first ∙ second ∙ ap (λ q. Some (character, q)) (drop-drop 6 4 text)

pub ascii_boundary : (text : List ℕ) (n : ℕ) → IsUtf8 text → EndsInAscii text n → IsCharBoundary text n
ascii_boundary text n u ends =
    let some : 0 < n = ends.0 in
    let within : n ≤ length text = ends.1 in
    let same : n - 1 + 1 ≡ n = omega arith in
    subst (IsCharBoundary text) same (IsCharBoundary-after_ascii text (n - 1) u (omega arith) ends.2)

-- ---- what texts write

-- after an opening quote nothing more is written: the end, the closing quote, or a backslash that begins no
-- escape
abbrev pub Halts : ℕ → List ℕ → Type 0
Halts q [] = Unit {0}
Halts q (b ∷ text) = (b ≡ q) ⊎ ((b ≡ backslash) × (escape text ≡ None))

eq_test : (b c : ℕ) → b ≡ c → (b == c) ≡ false → ⊥
eq_test b c e h = ⊎_elim (λ t. let same = t.0 in absurd (cc)) (λ t. t.1 e) (eqb_tells b c)

quote_apart : (q : ℕ) → is_quote q ≡ true → q ≡ backslash → ⊥
quote_apart q h e = grind (arith, nat_tests)

halt_plain : (q b : ℕ) (text : List ℕ) → Halts q (b ∷ text) → (b == q) ≡ false → (b == backslash) ≡ false → ⊥
halt_plain q b text (inl e) h g = eq_test b q e h
halt_plain q b text (inr e) h g = eq_test b backslash e.0 g

halt_escape : (q c : ℕ) (text after : List ℕ) → is_quote q ≡ true → Halts q (backslash ∷ text)
    → escape text ≡ Some (c, after) → ⊥
halt_escape q c text after h (inl e) g = quote_apart q h (sym e)
halt_escape q c text after h (inr e) g = let none = e.1 in absurd (cc)

same_pair : (x y : ℕ × List ℕ) → Some x ≡ Some y → (x.0 ≡ y.0) × (x.1 ≡ y.1)
same_pair x y e = let pair : x ≡ y = cc in (ap (λ p. p.0) pair, ap (λ p. p.1) pair)

-- a text is written in one way up to where it halts
pub one_writing : (q : ℕ) → is_quote q ≡ true → (text same v w r s : List ℕ) → text ≡ same
    → Writes q text v r → Writes q same w s → Halts q r → Halts q s → (v ≡ w) × (r ≡ s)
one_writing q h text same v w r s e Writes.nothing Writes.nothing stop end = (refl, e)
one_writing q h text same v w r s e Writes.nothing (Writes.plain {b = b} {text = t} g i more) stop end =
    absurd (halt_plain q b t (subst (Halts q) e stop) g i)
one_writing q h text same v w r s e Writes.nothing
    (Writes.escaped {character = c} {text = t} {after = a} g more) stop end =
    absurd (halt_escape q c t a h (subst (Halts q) e stop) g)
one_writing q h text same v w r s e (Writes.plain {b = b} {text = t} g i more) Writes.nothing stop end =
    absurd (halt_plain q b t (subst (Halts q) (sym e) end) g i)
one_writing q h text same v w r s e (Writes.plain {b = b} {text = t} {value = x} g i more)
    (Writes.plain {b = c} {text = u} {value = y} j l again) stop end =
    let first : b ≡ c = cc in
    let after : t ≡ u = cc in
    let rest = one_writing q h t u x y r s after more again stop end in
    (λ k. first k ∷ rest.0 k, rest.1)
one_writing q h text same v w r s e (Writes.plain {b = b} g i more) (Writes.escaped j again) stop end =
    let first : b ≡ backslash = cc in absurd (eq_test b backslash first i)
one_writing q h text same v w r s e (Writes.escaped {character = c} {text = t} {after = a} g more)
    Writes.nothing stop end = absurd (halt_escape q c t a h (subst (Halts q) (sym e) end) g)
one_writing q h text same v w r s e (Writes.escaped j again) (Writes.plain {b = b} g i more) stop end =
    let first : b ≡ backslash = cc in absurd (eq_test b backslash first i)
one_writing q h text same v w r s e
    (Writes.escaped {character = c} {text = t} {after = a} {value = x} g more)
    (Writes.escaped {character = d} {text = u} {after = b} {value = y} i again) stop end =
    let after : t ≡ u = cc in
    let pair = same_pair (c, a) (d, b) (sym g ∙ ap escape after ∙ i) in
    let rest = one_writing q h a b x y r s pair.1 more again stop end in
    (λ k. encode_utf8 (pair.0 k) ++ rest.0 k, rest.1)

-- ---- what begins with a quote

pub quote_token : (kind : TokenKind) (text rest : List ℕ) → IsToken kind text rest → front text ≡ quote
    → (value : List ℕ)
    × ((q : ℕ)
    × ((inner : List ℕ)
    × ((kind ≡ k.Text value) × (is_quote q ≡ true) × Writes q inner value (q ∷ rest)
    × (text ≡ q ∷ inner))))
quote_token (k.Text value) text rest t h = (value, (t.0, (t.1.0, (refl, t.1.1.0, t.1.1.1, t.1.1.2))))
quote_token kind text rest t h = let here = token_front kind text rest t in absurd (cc)

-- the listed fault of a text that is written up to here
abbrev pub QuoteFault : LexKind → List ℕ → List ℕ → List ℕ → Type 0
QuoteFault kind text stop at =
    ((kind ≡ f.OpenString) × (stop ≡ []) × (at ≡ text))
    ⊎ ((after : List ℕ)
    × ((kind ≡ f.BadEscape) × (stop ≡ backslash ∷ after) × (escape after ≡ None) × (at ≡ stop)))

pub quote_breaks : (kind : LexKind) (text at : List ℕ) → Breaks kind text at → front text ≡ quote
    → (value : List ℕ)
    × ((q : ℕ)
    × ((inner : List ℕ)
    × ((stop : List ℕ)
    × ((is_quote q ≡ true) × Writes q inner value stop × (text ≡ q ∷ inner)
    × QuoteFault kind text stop at))))
quote_breaks kind text at (Breaks.open_text {quote = q} {inner = i} {value = v} h w) e =
    (v, (q, (i, ([], (h, w, refl, inl (refl, refl, refl))))))
quote_breaks kind text at (Breaks.open_name name none) e = let here = class-tick in absurd (cc)
quote_breaks kind text at (Breaks.open_comment unclosed) e = let here = class-slash in absurd (cc)
quote_breaks kind text at (Breaks.bad_escape {quote = q} {inner = i} {value = v} {after = a} h w bad) e =
    (v, (q, (i, (backslash ∷ a, (h, w, refl, inr (a, (refl, refl, bad, refl)))))))
quote_breaks kind text at (Breaks.fraction digits rest h tail) e =
    let here = digits_front digits rest h in absurd (cc)
quote_breaks kind text at (Breaks.too_large digits rest h stop whole large) e =
    let here = digits_front digits rest h in absurd (cc)

pub fault_halts : (kind : LexKind) (q : ℕ) (text stop at : List ℕ) → QuoteFault kind text stop at
    → Halts q stop
fault_halts kind q text stop at (inl u) = subst (Halts q) (sym u.1) tt
fault_halts kind q text stop at (inr u) = subst (Halts q) (sym u.1.1) (inr (refl, u.1.2))

module _ (q : ℕ) (text inner : List ℕ) (h : is_quote q ≡ true) (e : text ≡ q ∷ inner) where
  quote_first : front text ≡ quote
  quote_first = ap front e ∙ class-quote q h

  quote_no_separator : NoSeparator text
  quote_no_separator = let first = quote_first in no_separator text (λ g. absurd (cc)) (λ g. absurd (cc))

  same_text : (p : ℕ) (other : List ℕ) → text ≡ p ∷ other → (p ≡ q) × (other ≡ inner)
  same_text p other g = let both : p ∷ other ≡ q ∷ inner = sym g ∙ e in (cc, cc)

  pub text_takes : (value rest : List ℕ) → Writes q inner value (q ∷ rest) → NoSeparator text × NoFault text
      × IsLongest (k.Text value) text rest
  text_takes value rest w =
      let t : IsToken (k.Text value) text rest = (q, (inner, (h, w, e))) in (
        quote_no_separator,
        no_fault (k.Text value) text rest t
            (λ fault at b.
            let u = quote_breaks fault text at b quote_first in
            let same = same_text u.1.0 u.1.1.0 u.1.1.1.1.2 in
            let again : Writes q inner u.0 u.1.1.1.0 =
            subst (λ x. Writes q x u.0 u.1.1.1.0) same.1
            (subst (λ p. Writes p u.1.1.0 u.0 u.1.1.1.0) same.0 u.1.1.1.1.1) in
            let stops =
            (one_writing q h inner inner value u.0 (q ∷ rest) u.1.1.1.0 refl w again (inl refl)
            (fault_halts fault q text u.1.1.1.0 at u.1.1.1.1.3)).1 in
            no_closing fault text u.1.1.1.0 at rest (sym stops) u.1.1.1.1.3),
        record {
          stands = t;
          longest = λ other after t.
              let u = quote_token other text after t quote_first in
              let same = same_text u.1.0 u.1.1.0 u.1.1.1.3 in
              let again : Writes q inner u.0 (q ∷ after) =
              subst (λ x. Writes q x u.0 (q ∷ after)) same.1
              (subst (λ p. Writes p u.1.1.0 u.0 (p ∷ after)) same.0 u.1.1.1.2) in
              let stops =
              (one_writing q h inner inner value u.0 (q ∷ rest) (q ∷ after) refl w again (inl refl)
              (inl refl)).1 in
              let long = ap length stops in omega arith;
        },
      )
    where
      no_closing : (fault : LexKind) (text stop at rest : List ℕ) → stop ≡ q ∷ rest
          → QuoteFault fault text stop at → ⊥
      no_closing fault text stop at rest g (inl u) = let none = u.1 in absurd (cc)
      no_closing fault text stop at rest g (inr u) = let at : q ≡ backslash =
          let both : q ∷ rest ≡ backslash ∷ u.0 = sym g ∙ u.1.1 in cc in quote_apart q h at

  pub open_text_takes : (value : List ℕ) → Writes q inner value []
      → NoSeparator text × Faults f.OpenString text text
  open_text_takes value w = (
    quote_no_separator,
    subst (λ x. Faults f.OpenString x x) (sym e)
        (Faults.breaks (Breaks.open_text h w)),
  )

  pub bad_escape_takes : (value after at : List ℕ) → Writes q inner value (backslash ∷ after)
      → escape after ≡ None → at ≡ backslash ∷ after → NoSeparator text × Faults f.BadEscape text at
  bad_escape_takes value after at w bad place = (
    quote_no_separator,
    subst (λ x. Faults f.BadEscape x at) (sym e)
        (subst (λ x. Faults f.BadEscape (q ∷ inner) x) (sym place)
        (Faults.breaks (Breaks.bad_escape h w bad))),
  )

-- ---- the loop over a text's characters

-- what is written from here on is written after this value
abbrev pub Continues : ℕ → List ℕ → List ℕ → List ℕ → Type 0
Continues q text value left = (more rest : List ℕ) → Writes q left more rest
    → Writes q text (value ++ more) rest

pub continues_here : (q : ℕ) (text value left : List ℕ) → Continues q text value left
    → Writes q text value left
continues_here q text value left so_far =
    subst (λ v. Writes q text v left) (append-nil value) (so_far [] left Writes.nothing)

plain_run : (q : ℕ) (bytes text value rest : List ℕ)
    → ((i : ℕ) → i < length bytes → ((get_or bytes i 0 == q) ≡ false)
    × ((get_or bytes i 0 == backslash) ≡ false)) → Writes q text value rest
    → Writes q (bytes ++ text) (bytes ++ value) rest
plain_run q [] text value rest each w = w
plain_run q (b ∷ bytes) text value rest each w =
    let here = each 0 (omega arith) in
    Writes.plain here.0 here.1 (plain_run q bytes text value rest (λ i within. each (suc i) (omega arith)) w)

-- the bytes of a character that is neither a quote nor a backslash are neither
plain_bytes : (q c : ℕ) → is_quote q ≡ true → c ≢ q → c ≢ backslash → (i : ℕ) → i < length (encode_utf8 c)
    → ((get_or (encode_utf8 c) i 0 == q) ≡ false) × ((get_or (encode_utf8 c) i 0 == backslash) ≡ false)
plain_bytes q c h other plain i within =
    let inside : get_or (encode_utf8 c) i 0 < 128 → c ≡ get_or (encode_utf8 c) i 0 =
    inside_one c [] (encode_utf8 c) i (sym (append-nil (encode_utf8 c))) within in
    let small : q < 128 = grind (arith, nat_tests) in (
      not_same (get_or (encode_utf8 c) i 0) q small other inside,
      not_same (get_or (encode_utf8 c) i 0)
          backslash (omega arith) plain inside,
    )
  where
    not_same : (b d : ℕ) → d < 128 → c ≢ d → (b < 128 → c ≡ b) → (b == d) ≡ false
    not_same b d small apart inside =
        ⊎_elim (λ t. let same : b ≡ d = t.1 in let low : b < 128 = omega arith in
        absurd (apart (inside low ∙ same))) (λ t. t.0) (eqb_tells b d)

pub goes_plain : (q c : ℕ) (text value new left after : List ℕ) → is_quote q ≡ true → c ≢ q → c ≢ backslash
    → Continues q text value left → left ≡ encode_utf8 c ++ after → new ≡ value ++ encode_utf8 c
    → Continues q text new after
goes_plain q c text value new left after h other plain so_far e is more rest w =
    let run = plain_run q (encode_utf8 c) after more rest (plain_bytes q c h other plain) w in
    subst (λ v. Writes q text v rest)
    (sym (ap (λ v. v ++ more) is ∙ append_assoc value (encode_utf8 c) more))
    (so_far (encode_utf8 c ++ more) rest
    (subst (λ l. Writes q l (encode_utf8 c ++ more) rest) (sym e) run))

pub goes_escaped : (q c : ℕ) (text value new left after next : List ℕ) → Continues q text value left
    → left ≡ backslash ∷ after → escape after ≡ Some (c, next) → new ≡ value ++ encode_utf8 c
    → Continues q text new next
goes_escaped q c text value new left after next so_far e h is more rest w =
    subst (λ v. Writes q text v rest)
    (sym (ap (λ v. v ++ more) is ∙ append_assoc value (encode_utf8 c) more))
    (so_far (encode_utf8 c ++ more) rest
    (subst (λ l. Writes q l (encode_utf8 c ++ more) rest) (sym e) (Writes.escaped h w)))

-- a text that begins with an ASCII character begins with its byte
pub ascii_front : (c : ℕ) (text rest : List ℕ) → c < 128 → text ≡ encode_utf8 c ++ rest → text ≡ c ∷ rest
ascii_front c text rest small e = e ∙ ap (λ x. x ++ rest) (encode_ascii c small)
