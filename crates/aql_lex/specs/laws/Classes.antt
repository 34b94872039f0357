-- What may stand at a place, by the class of its first byte.
use Rattle.std.proofs.Common.{◌≡◌, ◌≢◌, ℕ, Bool, true, false, List, [], ◌∷◌}
use Rattle.std.proofs.Common.{◌++◌, refl, ap, ◌∙◌, arith, ◌⊎◌, inl, inr}
use Rattle.std.specs.Prelude.{◌==◌, if◌then◌else◌}
use Rattle.std.specs.Char.{is_ascii_digit}
use Rattle.std.proofs.lemmas.Bool.Decides.{nat_tests, eqb_tells}
use Rattle.aql_lex.specs.declared.kinds.TokenKind.{TokenKind}
use Rattle.aql_lex.specs.declared.kinds.TokenKind.TheVariants as k
use Rattle.aql_lex.specs.declared.faults.LexKind.{LexKind}
use Rattle.aql_lex.specs.Characters.{begins, is_blank, is_letter, is_quote, slash}
use Rattle.aql_lex.specs.Characters.{backtick}
use Rattle.aql_lex.specs.Vocabulary.{is_word, spelling_of}
use Rattle.aql_lex.specs.Numbers.{are_digits}
use Rattle.aql_lex.specs.Tokens.{Separates, IsToken}
use Rattle.aql_lex.specs.Faults.{Breaks}
use Rattle.aql_lex.specs.inner.Scans.{begins_comment, is_other}
use Rattle.aql_lex.specs.laws.Runs.{and_left}
use Rattle.aql_lex.specs.laws.Spellings.{symbol_begins}

pub data Class : Type 0 where
  blank : Class
  letter : Class
  digit : Class
  quote : Class
  tick : Class
  other : Class

unfoldable pub class : ℕ → Class
class b =
    if is_blank b then blank
    else
    (if is_letter b then letter else
    (if is_ascii_digit b then digit else
    (if is_quote b then quote else (if b == backtick then tick else other))))

-- the class of the first byte
abbrev pub front : List ℕ → Class
front [] = other
front (b ∷ text) = class b

pub class-blank : (b : ℕ) → is_blank b ≡ true → class b ≡ blank
unfolding class
class-blank b h = rw h refl

pub class-letter : (b : ℕ) → is_letter b ≡ true → class b ≡ letter
unfolding class
class-letter b h = let not_blank : is_blank b ≡ false = grind (arith, nat_tests) in rw (not_blank, h) refl

pub class-digit : (b : ℕ) → is_ascii_digit b ≡ true → class b ≡ digit
unfolding class
class-digit b h =
    let not_blank : is_blank b ≡ false = grind (arith, nat_tests) in
    let not_letter : is_letter b ≡ false = grind (arith, nat_tests) in
    rw (not_blank, not_letter, h) refl

pub class-quote : (b : ℕ) → is_quote b ≡ true → class b ≡ quote
unfolding class
class-quote b h =
    let not_blank : is_blank b ≡ false = grind (arith, nat_tests) in
    let not_letter : is_letter b ≡ false = grind (arith, nat_tests) in
    let not_digit : is_ascii_digit b ≡ false = grind (arith, nat_tests) in
    rw (not_blank, not_letter, not_digit, h) refl

pub class-tick : class backtick ≡ tick
unfolding class
class-tick = refl

pub class-slash : class slash ≡ other
unfolding class
class-slash = refl

pub class-other : (b : ℕ) → is_other b ≡ true → class b ≡ other
unfolding class
class-other b h =
    let not_blank : is_blank b ≡ false = grind (arith, nat_tests) in
    let not_letter : is_letter b ≡ false = grind (arith, nat_tests) in
    let not_digit : is_ascii_digit b ≡ false = grind (arith, nat_tests) in
    let not_quote : is_quote b ≡ false = grind (arith, nat_tests) in
    let not_tick : (b == backtick) ≡ false = grind (arith, nat_tests) in
    rw (not_blank, not_letter, not_digit, not_quote, not_tick) refl

-- a text that begins with a character of a class
pub front_begins : (p : ℕ → Bool) (c : Class) → ((b : ℕ) → p b ≡ true → class b ≡ c) → (text : List ℕ)
    → begins p text ≡ true → front text ≡ c
front_begins p c says [] h = absurd (cc)
front_begins p c says (b ∷ text) h = says b h

-- ---- tokens

abbrev pub kind_class : TokenKind → Class
kind_class (k.Word word) = letter
kind_class (k.Keyword keyword) = letter
kind_class (k.Quoted name) = tick
kind_class (k.Number number) = digit
kind_class (k.Text value) = quote
kind_class (k.Symbol symbol) = other

pub word_front : (word rest : List ℕ) → is_word word ≡ true → front (word ++ rest) ≡ letter
word_front [] rest h = absurd (cc)
word_front (b ∷ more) rest h = class-letter b (and_left (is_letter b) _ h)

pub digits_front : (digits rest : List ℕ) → are_digits digits ≡ true → front (digits ++ rest) ≡ digit
digits_front [] rest h = absurd (cc)
digits_front (b ∷ more) rest h = class-digit b (and_left (is_ascii_digit b) _ h)

pub other_front : (spelling rest : List ℕ) → begins is_other spelling ≡ true
    → front (spelling ++ rest) ≡ other
other_front [] rest h = absurd (cc)
other_front (b ∷ more) rest h = class-other b h

pub token_front : (kind : TokenKind) (text rest : List ℕ) → IsToken kind text rest
    → front text ≡ kind_class kind
token_front (k.Word word) text rest t = ap front t.2 ∙ word_front word rest t.0
token_front (k.Keyword keyword) text rest t = ap front t.1.2 ∙ word_front t.0 rest t.1.0
token_front (k.Quoted name) text rest t = ap front t.2 ∙ class-tick
token_front (k.Number number) text rest t = ap front t.1.3 ∙ digits_front t.0 rest t.1.0
token_front (k.Text value) text rest t = ap front t.1.1.2 ∙ class-quote t.0 t.1.1.0
token_front (k.Symbol symbol) text rest t =
    ap front t ∙ other_front (spelling_of symbol) rest (symbol_begins symbol)

-- ---- separators

pub separates_front : (text rest : List ℕ) → Separates text rest
    → (front text ≡ blank) ⊎ (begins_comment text ≡ true)
separates_front text rest (Separates.blank {b = b} h) = inl (class-blank b h)
separates_front text rest (Separates.line words none) = inr refl
separates_front text rest (Separates.last_line words none) = inr refl
separates_front text rest (Separates.block closes) = inr refl

pub comment_front : (text : List ℕ) → begins_comment text ≡ true → front text ≡ other
comment_front [] h = absurd (cc)
comment_front (a ∷ []) h = absurd (cc)
comment_front (a ∷ b ∷ text) h =
    let at : a ≡ slash = by_test (eqb_tells a slash) (and_left (a == slash) _ h) in
    ap class at ∙ class-slash
  where
    by_test : (((a == slash) ≡ true) × (a ≡ slash)) ⊎ (((a == slash) ≡ false) × (a ≢ slash))
        → (a == slash) ≡ true → a ≡ slash
    by_test (inl t) e = t.1
    by_test (inr t) e = absurd (cc)

-- no separator begins with a character of another class
pub no_separator : (text : List ℕ) → (front text ≡ blank → ⊥) → (front text ≡ other → ⊥) → (rest : List ℕ)
    → Separates text rest → ⊥
no_separator text first second rest s = by_front (separates_front text rest s)
  where
    by_front : (front text ≡ blank) ⊎ (begins_comment text ≡ true) → ⊥
    by_front (inl e) = first e
    by_front (inr e) = second (comment_front text e)

-- ---- faults

pub breaks_front : (kind : LexKind) (text at : List ℕ) → Breaks kind text at
    → (front text ≡ quote) ⊎ ((front text ≡ tick) ⊎ ((front text ≡ digit) ⊎ (begins_comment text ≡ true)))
breaks_front kind text at (Breaks.open_text {quote = q} h w) = inl (class-quote q h)
breaks_front kind text at (Breaks.open_name name none) = inr (inl class-tick)
breaks_front kind text at (Breaks.open_comment unclosed) = inr (inr (inr refl))
breaks_front kind text at (Breaks.bad_escape {quote = q} h w bad) = inl (class-quote q h)
breaks_front kind text at (Breaks.fraction digits rest h tail) = inr (inr (inl (digits_front digits rest h)))
breaks_front kind text at (Breaks.too_large digits rest h stop whole large) =
    inr (inr (inl (digits_front digits rest h)))

pub no_breaks : (text : List ℕ) → (front text ≡ quote → ⊥) → (front text ≡ tick → ⊥)
    → (front text ≡ digit → ⊥) → (begins_comment text ≡ true → ⊥) → (kind : LexKind) (at : List ℕ)
    → Breaks kind text at → ⊥
no_breaks text a b c d kind at s = by_front (breaks_front kind text at s)
  where
    by_front : (front text ≡ quote)
        ⊎ ((front text ≡ tick) ⊎ ((front text ≡ digit) ⊎ (begins_comment text ≡ true))) → ⊥
    by_front (inl e) = a e
    by_front (inr (inl e)) = b e
    by_front (inr (inr (inl e))) = c e
    by_front (inr (inr (inr e))) = d e
