-- Words, quoted names and symbols.
use Rattle.std.proofs.Common.{◌≡◌, ◌≢◌, ℕ, ◌<◌, true, false, List, [], ◌∷◌, ◌++◌}
use Rattle.std.proofs.Common.{length, refl, sym, ap, ◌∙◌, subst, arith, ⊎_elim}
use Rattle.std.specs.Prelude.{All}
use Rattle.std.specs.List.{list_all}
use Rattle.std.proofs.lemmas.List.Elements.{All-nil}
use Rattle.aql_lex.specs.declared.kinds.TokenKind.{TokenKind}
use Rattle.aql_lex.specs.declared.kinds.TokenKind.TheVariants as k
use Rattle.aql_lex.specs.declared.vocabulary.Symbol.{Symbol}
use Rattle.aql_lex.specs.declared.faults.LexKind.{LexKind}
use Rattle.aql_lex.specs.declared.faults.LexKind.TheVariants as f
use Rattle.aql_lex.specs.Characters.{begins, line_feed, star, slash, backtick, is_letter, is_word_part}
use Rattle.aql_lex.specs.Vocabulary.{is_word, spelling_of}
use Rattle.aql_lex.specs.Tokens.{ClosesFirst, Separates, IsToken}
use Rattle.aql_lex.specs.Faults.{Breaks, Faults}
use Rattle.aql_lex.specs.Reading.{NoSeparator, NoFault, IsLongest}
use Rattle.aql_lex.specs.inner.Scans.{begins_comment, is_other, NoSymbol, IsLongestSymbol}
use Rattle.aql_lex.specs.laws.Runs.{IsRun, run_longest, and_left, and_right, and_both, one_split, no_split}
use Rattle.aql_lex.specs.laws.Classes.{letter, tick, other, front, front_begins, digits_front}
use Rattle.aql_lex.specs.laws.Classes.{separates_front, class-letter, class-tick, class-quote, class-slash}
use Rattle.aql_lex.specs.laws.Classes.{class-other, token_front, no_separator, no_breaks}
use Rattle.aql_lex.specs.laws.Classes.{comment_front}
use Rattle.aql_lex.specs.laws.Separators.{no_fault, blank_apart, not_star}

-- ---- words

pub word_parts : (word : List ℕ) → is_word word ≡ true → list_all is_word_part word ≡ true
word_parts [] h = absurd (cc)
word_parts (b ∷ more) h = and_both (is_word_part b) _ (rw (and_left (is_letter b) _ h) refl)
    (and_right (is_letter b) _ h)

pub letter_token : (kind : TokenKind) (text rest : List ℕ) → IsToken kind text rest → front text ≡ letter
    → (word : List ℕ) × ((is_word word ≡ true) × (text ≡ word ++ rest))
letter_token (k.Word word) text rest t h = (word, (t.0, t.2))
letter_token (k.Keyword keyword) text rest t h = (t.0, (t.1.0, t.1.2))
letter_token kind text rest t h = let here = token_front kind text rest t in absurd (cc)

pub run_is_word : (text run rest : List ℕ) → begins is_letter text ≡ true → IsRun is_word_part text run rest
    → is_word run ≡ true
run_is_word text [] rest h run =
    let first : front text ≡ letter = front_begins is_letter letter class-letter text h in
    absurd (none text rest h run.splits run.stops)
  where
    none : (text rest : List ℕ) → begins is_letter text ≡ true → text ≡ rest
        → begins is_word_part rest ≡ false → ⊥
    none [] rest h e stop = absurd (cc)
    none (b ∷ text) rest h e stop =
        let part : is_word_part b ≡ true = rw h refl in let same = ap (begins is_word_part) e in absurd (cc)
run_is_word text (b ∷ run) rest h cut =
    and_both (is_letter b) _ (sym (ap (begins is_letter) cut.splits) ∙ h)
    (and_right (is_word_part b) _ cut.passes)

pub word_takes : (kind : TokenKind) (text run rest : List ℕ) → begins is_letter text ≡ true
    → IsRun is_word_part text run rest → IsToken kind text rest → NoSeparator text × NoFault text
    × IsLongest kind text rest
word_takes kind text run rest h cut t =
    let first : front text ≡ letter = front_begins is_letter letter class-letter text h in (
      no_separator text (λ e. absurd (cc)) (λ e. absurd (cc)),
      no_fault kind text rest t
          (no_breaks text (λ e. absurd (cc)) (λ e. absurd (cc)) (λ e. absurd (cc))
          (λ e. let at = comment_front text e in absurd (cc))),
      record {
        stands = t;
        longest = λ other after u.
            let w = letter_token other text after u first in
            run_longest is_word_part run w.0 rest after (sym cut.splits ∙ w.1.1) (word_parts w.0 w.1.0)
            cut.stops;
      },
    )

-- ---- quoted names

pub tick_token : (kind : TokenKind) (text rest : List ℕ) → IsToken kind text rest → front text ≡ tick
    → (name : List ℕ)
    × ((kind ≡ k.Quoted name) × (0 < length name) × All (λ b. b ≢ backtick) name
    × (text ≡ backtick ∷ name ++ backtick ∷ rest))
tick_token (k.Quoted name) text rest t h = (name, (refl, t.0, t.1, t.2))
tick_token kind text rest t h = let here = token_front kind text rest t in absurd (cc)

pub tick_breaks : (kind : LexKind) (text at : List ℕ) → Breaks kind text at → front text ≡ tick
    → (name : List ℕ)
    × ((kind ≡ f.OpenString) × All (λ b. b ≢ backtick) name × (text ≡ backtick ∷ name) × (at ≡ text))
tick_breaks kind text at (Breaks.open_text {quote = q} h w) e = let here = class-quote q h in absurd (cc)
tick_breaks kind text at (Breaks.open_name name none) e = (name, (refl, none, refl, refl))
tick_breaks kind text at (Breaks.open_comment unclosed) e = let here = class-slash in absurd (cc)
tick_breaks kind text at (Breaks.bad_escape {quote = q} h w bad) e = let here = class-quote q h in absurd (cc)
tick_breaks kind text at (Breaks.fraction digits rest h tail) e =
    let here = digits_front digits rest h in absurd (cc)
tick_breaks kind text at (Breaks.too_large digits rest h stop whole large) e =
    let here = digits_front digits rest h in absurd (cc)

tick_first : (text inner : List ℕ) → text ≡ backtick ∷ inner → front text ≡ tick
tick_first text inner e = ap front e ∙ class-tick

tick_no_separator : (text inner : List ℕ) → text ≡ backtick ∷ inner → NoSeparator text
tick_no_separator text inner e =
    let first = tick_first text inner e in no_separator text (λ h. absurd (cc)) (λ h. absurd (cc))

pub quoted_takes : (text inner name rest : List ℕ) → text ≡ backtick ∷ inner
    → inner ≡ name ++ backtick ∷ rest → All (λ b. b ≢ backtick) name → 0 < length name
    → NoSeparator text × NoFault text × IsLongest (k.Quoted name) text rest
quoted_takes text inner name rest e splits none some =
    let t : IsToken (k.Quoted name) text rest = (some, none, e ∙ ap (λ q. backtick ∷ q) splits) in
    let first = tick_first text inner e in (
      tick_no_separator text inner e,
      no_fault (k.Quoted name) text rest t
          (λ fault at b.
          let u = tick_breaks fault text at b first in
          let same : u.0 ≡ inner = let both : backtick ∷ u.0 ≡ backtick ∷ inner = sym u.1.2 ∙ e in cc in
          no_split backtick u.0 name rest (same ∙ splits) u.1.1),
      record {
        stands = t;
        longest = λ other after t.
            let u = tick_token other text after t first in
            let same : u.0 ++ backtick ∷ after ≡ inner =
            let both : backtick ∷ u.0 ++ backtick ∷ after ≡ backtick ∷ inner = sym u.1.3 ∙ e in cc in
            let ends = (one_split backtick name u.0 rest after (sym splits ∙ sym same) none u.1.2).1 in
            let long = ap length ends in omega arith;
      },
    )

pub empty_name_takes : (text inner rest : List ℕ) → text ≡ backtick ∷ inner → inner ≡ backtick ∷ rest
    → NoSeparator text × Faults f.BadChar text text
empty_name_takes text inner rest e splits =
    let first = tick_first text inner e in (
      tick_no_separator text inner e,
      subst (λ q. Faults f.BadChar q q) (sym e)
          (Faults.bad_char
          (λ other after t.
          let u = tick_token other (backtick ∷ inner) after t class-tick in
          let same : u.0 ++ backtick ∷ after ≡ inner =
          let both : backtick ∷ u.0 ++ backtick ∷ after ≡ backtick ∷ inner = sym u.1.3 in cc in
          let none =
          (one_split backtick [] u.0 rest after (sym splits ∙ sym same) (All-nil (λ b. b ≢ backtick))
          u.1.2).0 in
          let long = ap length none in let some = u.1.1 in absurd (omega arith))
          (λ fault at b.
          let u = tick_breaks fault (backtick ∷ inner) at b class-tick in
          let same : u.0 ≡ inner = let both : backtick ∷ u.0 ≡ backtick ∷ inner = sym u.1.2 in cc in
          no_split backtick u.0 [] rest (same ∙ splits) u.1.1)),
    )

pub open_name_takes : (text inner : List ℕ) → text ≡ backtick ∷ inner → All (λ b. b ≢ backtick) inner
    → NoSeparator text × Faults f.OpenString text text
open_name_takes text inner e none = (
  tick_no_separator text inner e,
  subst (λ q. Faults f.OpenString q q) (sym e)
      (Faults.breaks (Breaks.open_name inner none)),
)

-- ---- comments and symbols

pub line_takes : (text inner words rest : List ℕ) → text ≡ slash ∷ slash ∷ inner
    → inner ≡ words ++ line_feed ∷ rest → All (λ b. b ≢ line_feed) words → Separates text rest
line_takes text inner words rest e splits none =
    subst (λ q. Separates q rest) (sym (e ∙ ap (λ q. slash ∷ slash ∷ q) splits)) (Separates.line words none)

pub last_line_takes : (text inner : List ℕ) → text ≡ slash ∷ slash ∷ inner → All (λ b. b ≢ line_feed) inner
    → Separates text []
last_line_takes text inner e none = subst (λ q. Separates q []) (sym e) (Separates.last_line inner none)

pub block_takes : (text inner words rest : List ℕ) → text ≡ slash ∷ star ∷ inner
    → ClosesFirst inner words rest → Separates text rest
block_takes text inner words rest e closes = subst (λ q. Separates q rest) (sym e) (Separates.block closes)

no_comment : (text inner rest : List ℕ) → text ≡ slash ∷ star ∷ inner
    → ((words more : List ℕ) → inner ≢ words ++ star ∷ slash ∷ more) → Separates text rest → ⊥
no_comment text inner rest e none (Separates.blank {b = b} h) = let at : b ≡ slash = cc in blank_apart b h at
no_comment text inner rest e none (Separates.line words free) = let at : slash ≡ star = cc in not_star at
no_comment text inner rest e none (Separates.last_line words free) = let at : slash ≡ star = cc in not_star at
no_comment text inner rest e none (Separates.block {text = t} {words = w} {rest = r} closes) =
    let same : t ≡ inner = cc in none w r (sym same ∙ closes.closes)

pub open_comment_takes : (text inner : List ℕ) → text ≡ slash ∷ star ∷ inner
    → ((words more : List ℕ) → inner ≢ words ++ star ∷ slash ∷ more)
    → NoSeparator text × Faults f.OpenComment text text
open_comment_takes text inner e none = (
  (λ rest s. no_comment text inner rest e none s),
  subst (λ q. Faults f.OpenComment q q) (sym e)
      (Faults.breaks (Breaks.open_comment none)),
)

pub other_token : (kind : TokenKind) (text rest : List ℕ) → IsToken kind text rest → front text ≡ other
    → (symbol : Symbol) × ((kind ≡ k.Symbol symbol) × (text ≡ spelling_of symbol ++ rest))
other_token (k.Symbol symbol) text rest t h = (symbol, (refl, t))
other_token kind text rest t h = let here = token_front kind text rest t in absurd (cc)

module _ (text : List ℕ) (h : begins is_other text ≡ true) (plain : begins_comment text ≡ false) where
  other_first : front text ≡ other
  other_first = front_begins is_other other class-other text h

  other_no_separator : NoSeparator text
  other_no_separator rest s =
      let first = other_first in
      ⊎_elim (λ e. absurd (cc)) (λ e. absurd (cc)) (separates_front text rest s)

  other_no_breaks : (kind : LexKind) (at : List ℕ) → Breaks kind text at → ⊥
  other_no_breaks =
      let first = other_first in no_breaks text (λ e. absurd (cc)) (λ e. absurd (cc)) (λ e. absurd (cc))
      (λ e. absurd (cc))

  pub symbol_takes : (symbol : Symbol) (rest : List ℕ) → IsLongestSymbol text symbol rest
      → NoSeparator text × NoFault text × IsLongest (k.Symbol symbol) text rest
  symbol_takes symbol rest found =
      let t : IsToken (k.Symbol symbol) text rest = found.stands in (
        other_no_separator,
        no_fault (k.Symbol symbol) text rest t other_no_breaks,
        record {
          stands = t;
          longest = λ kind after t.
              let u = other_token kind text after t other_first in
              found.longest u.0 after u.1.1;
        },
      )

  pub no_symbol_takes : NoSymbol text → NoSeparator text × Faults f.BadChar text text
  no_symbol_takes none = (other_no_separator, bad text h other_first none other_no_breaks)
    where
      bad : (text : List ℕ) → begins is_other text ≡ true → front text ≡ other → NoSymbol text
          → ((kind : LexKind) (at : List ℕ) → Breaks kind text at → ⊥) → Faults f.BadChar text text
      bad [] h first none fine = absurd (cc)
      bad (b ∷ text) h first none fine =
          Faults.bad_char (λ kind rest t. let u = other_token kind (b ∷ text) rest t first in
          none u.0 rest u.1.1) fine
