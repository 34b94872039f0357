-- A text that consists of blanks, words, numbers and symbols has the tokens that these pieces are.
use Rattle.std.proofs.Common.{◌≡◌, ℕ, ◌+◌, ◌-◌, ◌≤◌, Bool, true, false, List, [], ◌∷◌, ◌++◌, length, take}
use Rattle.std.proofs.Common.{Option, Some, None, refl, sym, ap, ◌∙◌, subst, arith, map, length-append, pos}
use Rattle.std.specs.Prelude.{◌&&◌, ◌||◌, not, nat_le, is_some, find}
use Rattle.std.specs.Char.{to_ascii_lowercase, is_ascii_digit}
use Rattle.std.specs.List.{list_all}
use Rattle.std.specs.Str.{bytes_eq}
use Rattle.std.proofs.lemmas.Bool.{not-true}
use Rattle.std.proofs.lemmas.Bool.Decides.{nat_tests}
use Rattle.aql_lex.specs.declared.kinds.Token.{Token}
use Rattle.aql_lex.specs.declared.kinds.TokenKind.{TokenKind}
use Rattle.aql_lex.specs.declared.kinds.TokenKind.TheVariants as kind
use Rattle.aql_lex.specs.declared.vocabulary.Keyword.{Keyword}
use Rattle.aql_lex.specs.declared.vocabulary.Keyword.TheVariants as k
use Rattle.aql_lex.specs.declared.vocabulary.Symbol.{Symbol}
use Rattle.aql_lex.specs.declared.vocabulary.Symbol.TheVariants as s
use Rattle.aql_lex.specs.Characters.{begins, is_blank, is_letter, is_word_part}
use Rattle.aql_lex.specs.Vocabulary.{is_word, name_of, IsReserved, spelling_of}
use Rattle.aql_lex.specs.Numbers.{largest, are_digits, value_of, begins_digit, is_fraction}
use Rattle.aql_lex.specs.Tokens.{Separates}
use Rattle.aql_lex.specs.Reading.{NoSeparator, NoFault, IsLongest, Reads, Lexes}
use Rattle.aql_lex.specs.inner.Scans.{begins_comment, is_other}
use Rattle.aql_lex.specs.laws.Runs.{and_left, and_right, and_both, IsRun}
use Rattle.aql_lex.specs.laws.Names.{word_takes, symbol_takes, word_parts}
use Rattle.aql_lex.specs.laws.Digits.{all_digits, number_takes}
use Rattle.aql_lex.specs.laws.Spellings.{symbol_begins, every_keyword, keyword_of, keyword_of-name, every_symbol, symbol_of, symbol_of-spelling}

-- ---- which keyword a word is, and which symbol a spelling is

is_short : (symbol : Symbol) → nat_le (length (spelling_of symbol)) 2 ≡ true
unfolding spelling_of
is_short s.Equal = refl
is_short _ = refl

-- ---- pieces

pub data Piece : Type 0 where
  blank : ℕ → Piece
  word : List ℕ → Piece
  keyword : Keyword → Piece
  number : List ℕ → Piece
  symbol : Symbol → Piece

abbrev pub spelling : Piece → List ℕ
spelling (blank b) = b ∷ []
spelling (word w) = w
spelling (keyword named) = name_of named
spelling (number digits) = digits
spelling (symbol sign) = spelling_of sign

abbrev pub spelled : List Piece → List ℕ
spelled [] = []
spelled (p ∷ ps) = spelling p ++ spelled ps

-- a token of a text of `size` bytes
abbrev pub token_at : ℕ → TokenKind → List ℕ → List ℕ → Token
token_at size what text rest =
    record { start = size - length text; end = size - length rest; kind = what }

abbrev pub tokens_of : ℕ → List Piece → List Token
tokens_of size [] = []
tokens_of size (blank b ∷ ps) = tokens_of size ps
tokens_of size (word w ∷ ps) = token_at size (kind.Word w) (w ++ spelled ps) (spelled ps) ∷ tokens_of size ps
tokens_of size (keyword named ∷ ps) =
    token_at size (kind.Keyword named) (name_of named ++ spelled ps) (spelled ps) ∷ tokens_of size ps
tokens_of size (number digits ∷ ps) =
    token_at size (kind.Number (pos (value_of digits))) (digits ++ spelled ps) (spelled ps)
    ∷ tokens_of size ps
tokens_of size (symbol sign ∷ ps) =
    token_at size (kind.Symbol sign) (spelling_of sign ++ spelled ps) (spelled ps) ∷ tokens_of size ps

-- no longer symbol stands at the front of the text
abbrev pub is_longest : Symbol → List ℕ → Bool
is_longest sign rest =
    nat_le 2 (length (spelling_of sign)) || not (is_some (symbol_of (take 2 (spelling_of sign ++ rest))))

-- the piece is what is taken at the front of a text where this rest is after it
abbrev pub is_whole : Piece → List ℕ → Bool
is_whole (blank b) rest = is_blank b
is_whole (word w) rest =
    is_word w && (not (begins is_word_part rest) && not (is_some (keyword_of (map to_ascii_lowercase w))))
is_whole (keyword named) rest = is_word (name_of named) && not (begins is_word_part rest)
is_whole (number digits) rest =
    are_digits digits
    && (not (begins_digit rest) && (not (is_fraction rest) && nat_le (value_of digits) largest))
is_whole (symbol sign) rest =
    not (begins_comment (spelling_of sign ++ rest)) && is_longest sign rest

abbrev pub are_whole : List Piece → Bool
are_whole [] = true
are_whole (p ∷ ps) = is_whole p (spelled ps) && are_whole ps

-- what is known of a token that is taken
abbrev Taken : TokenKind → List ℕ → List ℕ → Type 0
Taken what text rest = NoSeparator text × NoFault text × IsLongest what text rest

begins_front : (p : ℕ → Bool) (xs ys : List ℕ) → begins p xs ≡ true → begins p (xs ++ ys) ≡ true
begins_front p [] ys h = absurd (cc)
begins_front p (x ∷ xs) ys h = h

-- ---- words

word_begins : (w : List ℕ) → is_word w ≡ true → begins is_letter w ≡ true
word_begins [] h = absurd (cc)
word_begins (b ∷ more) h = and_left (is_letter b) _ h

word_run : (w rest : List ℕ) → is_word w ≡ true → not (begins is_word_part rest) ≡ true
    → IsRun is_word_part (w ++ rest) w rest
word_run w rest is stop = record { splits = refl; passes = word_parts w is; stops = not-true _ stop }

not_reserved : (w : List ℕ) → not (is_some (keyword_of (map to_ascii_lowercase w))) ≡ true
    → (named : Keyword) → IsReserved w named → ⊥
not_reserved w h named e =
    let found : keyword_of (map to_ascii_lowercase w) ≡ Some named =
    ap keyword_of (sym e) ∙ keyword_of-name named in
    let none : not (is_some (Some named)) ≡ true = sym (ap (λ o. not (is_some o)) found) ∙ h in
    absurd (cc)

word_taken : (w rest : List ℕ) → is_whole (word w) rest ≡ true → Taken (kind.Word w) (w ++ rest) rest
word_taken w rest h =
    let is = and_left (is_word w) _ h in
    let more = and_right (is_word w) _ h in
    let stop = and_left (not (begins is_word_part rest)) _ more in
    let free = and_right (not (begins is_word_part rest)) _ more in
    word_takes (kind.Word w) (w ++ rest) w rest (begins_front is_letter w rest (word_begins w is))
    (word_run w rest is stop) (is, not_reserved w free, refl)

keyword_taken : (named : Keyword) (rest : List ℕ) → is_whole (keyword named) rest ≡ true
    → Taken (kind.Keyword named) (name_of named ++ rest) rest
keyword_taken named rest h =
    let is = and_left (is_word (name_of named)) _ h in
    let stop = and_right (is_word (name_of named)) _ h in
    word_takes (kind.Keyword named) (name_of named ++ rest) (name_of named) rest
    (begins_front is_letter (name_of named) rest (word_begins (name_of named) is))
    (word_run (name_of named) rest is stop) (name_of named, (is, refl, refl))

-- ---- numbers

digits_begin : (digits : List ℕ) → are_digits digits ≡ true → begins_digit digits ≡ true
digits_begin [] h = absurd (cc)
digits_begin (b ∷ more) h = and_left (is_ascii_digit b) _ h

small_enough : (n most : ℕ) → nat_le n most ≡ true → n ≤ most
small_enough n most h = grind (arith, nat_tests)

number_taken : (digits rest : List ℕ) → is_whole (number digits) rest ≡ true
    → Taken (kind.Number (pos (value_of digits))) (digits ++ rest) rest
number_taken digits rest h =
    let are = and_left (are_digits digits) _ h in
    let more = and_right (are_digits digits) _ h in
    let stop = and_left (not (begins_digit rest)) _ more in
    let last = and_right (not (begins_digit rest)) _ more in
    let whole = and_left (not (is_fraction rest)) _ last in
    let small = and_right (not (is_fraction rest)) _ last in
    let first = begins_front is_ascii_digit digits rest (digits_begin digits are) in
    number_takes (digits ++ rest) digits rest first
    (record { splits = refl; passes = all_digits digits are; stops = not-true _ stop })
    (pos (value_of digits)) (not-true _ whole) (small_enough (value_of digits) largest small) refl

-- ---- symbols

-- a symbol of two characters at the front of the text
two_characters : (text after : List ℕ) (other : Symbol) (x y : ℕ) → spelling_of other ≡ x ∷ y ∷ []
    → text ≡ spelling_of other ++ after → symbol_of (take 2 text) ≡ Some other
two_characters text after other x y is e =
    let front : take 2 text ≡ x ∷ y ∷ [] = ap (take 2) (e ∙ ap (λ q. q ++ after) is) in
    ap symbol_of (front ∙ sym is) ∙ symbol_of-spelling other

some_length : (xs : List ℕ) → begins is_other xs ≡ true → 1 ≤ length xs
some_length [] h = absurd (cc)
some_length (x ∷ xs) h = omega arith

none_longer : (sign other : Symbol) (rest after : List ℕ) → is_longest sign rest ≡ true
    → spelling_of sign ++ rest ≡ spelling_of other ++ after → length rest ≤ length after
none_longer sign other rest after h e = by_spelling (spelling_of other) refl
  where
    same : length (spelling_of sign) + length rest ≡ length (spelling_of other) + length after
    same =
        sym (length-append (spelling_of sign) rest) ∙ ap length e
        ∙ length-append (spelling_of other) after

    some : 1 ≤ length (spelling_of sign)
    some = some_length (spelling_of sign) (symbol_begins sign)

    by_test : (t : Bool) → nat_le 2 (length (spelling_of sign)) ≡ t → length (spelling_of other) ≡ 2
        → symbol_of (take 2 (spelling_of sign ++ rest)) ≡ Some other → length rest ≤ length after
    by_test true two long found =
        let enough = small_enough 2 (length (spelling_of sign)) two in let sum = same in omega arith
    by_test false one long found =
        let none : not (is_some (symbol_of (take 2 (spelling_of sign ++ rest)))) ≡ true = rw one at h in
        let is = ap (λ o. not (is_some o)) found in
        absurd (cc)

    by_spelling : (xs : List ℕ) → spelling_of other ≡ xs → length rest ≤ length after
    by_spelling [] is = let none = ap length is in let sum = same in omega arith
    by_spelling (x ∷ []) is = let one = ap length is in let sum = same in let least = some in omega arith
    by_spelling (x ∷ y ∷ []) is =
        by_test (nat_le 2 (length (spelling_of sign))) refl (ap length is)
        (two_characters (spelling_of sign ++ rest) after other x y is e)
    by_spelling (x ∷ y ∷ z ∷ more) is =
        let long = ap length is in
        let short = small_enough (length (spelling_of other)) 2 (is_short other) in
        absurd (omega arith)

symbol_taken : (sign : Symbol) (rest : List ℕ) → is_whole (symbol sign) rest ≡ true
    → Taken (kind.Symbol sign) (spelling_of sign ++ rest) rest
symbol_taken sign rest h =
    let plain = and_left (not (begins_comment (spelling_of sign ++ rest))) _ h in
    let alone = and_right (not (begins_comment (spelling_of sign ++ rest))) _ h in
    symbol_takes (spelling_of sign ++ rest)
    (begins_front is_other (spelling_of sign) rest (symbol_begins sign)) (not-true _ plain) sign rest
    (record { stands = refl; longest = λ other after e. none_longer sign other rest after alone e })

-- ---- all of them

with_token : (size : ℕ) (what : TokenKind) (text rest : List ℕ) (tokens : List Token) → Taken what text rest
    → Reads size rest tokens None → Reads size text (token_at size what text rest ∷ tokens) None
with_token size what text rest tokens t more = Reads.token t.0 t.1 t.2 more

pub pieces_read : (size : ℕ) (ps : List Piece) → are_whole ps ≡ true
    → Reads size (spelled ps) (tokens_of size ps) None
pieces_read size [] h = Reads.over
pieces_read size (blank b ∷ ps) h =
    Reads.separator (Separates.blank (and_left (is_blank b) _ h))
    (pieces_read size ps (and_right (is_blank b) _ h))
pieces_read size (word w ∷ ps) h =
    with_token size _ _ _ _ (word_taken w (spelled ps) (and_left (is_whole (word w) (spelled ps)) _ h))
    (pieces_read size ps (and_right (is_whole (word w) (spelled ps)) _ h))
pieces_read size (keyword named ∷ ps) h =
    with_token size _ _ _ _
    (keyword_taken named (spelled ps) (and_left (is_whole (keyword named) (spelled ps)) _ h))
    (pieces_read size ps (and_right (is_whole (keyword named) (spelled ps)) _ h))
pieces_read size (number digits ∷ ps) h =
    with_token size _ _ _ _
    (number_taken digits (spelled ps) (and_left (is_whole (number digits) (spelled ps)) _ h))
    (pieces_read size ps (and_right (is_whole (number digits) (spelled ps)) _ h))
pieces_read size (symbol sign ∷ ps) h =
    with_token size _ _ _ _
    (symbol_taken sign (spelled ps) (and_left (is_whole (symbol sign) (spelled ps)) _ h))
    (pieces_read size ps (and_right (is_whole (symbol sign) (spelled ps)) _ h))

pub pieces_lex : (text : List ℕ) (ps : List Piece) → spelled ps ≡ text → are_whole ps ≡ true
    → Lexes text (tokens_of (length text) ps)
pieces_lex text ps e h =
    subst (λ q. Reads (length text) q (tokens_of (length text) ps) None) e (pieces_read (length text) ps h)
