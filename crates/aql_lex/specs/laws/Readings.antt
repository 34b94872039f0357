-- A text has one reading.
use Rattle.std.proofs.Common.{◌≡◌, ℕ, ◌+◌, ◌-◌, ◌<◌, ◌≤◌, true, List, [], ◌∷◌}
use Rattle.std.proofs.Common.{◌++◌, length, Option, Some, None, refl, sym, ap, ◌∙◌, subst, arith}
use Rattle.std.proofs.Common.{append_assoc, length-append, ◌⊎◌, inl, inr, pos}
use Rattle.std.specs.Prelude.{Result, Err, ◌≤ℤ◌}
use Rattle.std.proofs.lemmas.Int.{ints}
use Rattle.std.specs.Char.{is_ascii_digit}
use Rattle.std.proofs.lemmas.List.{append-nil}
use Rattle.aql_lex.specs.declared.kinds.Token.{Token}
use Rattle.aql_lex.specs.declared.kinds.TokenKind.{TokenKind}
use Rattle.aql_lex.specs.declared.kinds.TokenKind.TheVariants as k
use Rattle.aql_lex.specs.declared.faults.LexKind.{LexKind}
use Rattle.aql_lex.specs.declared.faults.LexKind.TheVariants as f
use Rattle.aql_lex.specs.declared.faults.LexFault.{LexFault}
use Rattle.aql_lex.specs.declared.faults.LexFault.TheVariants as answer
use Rattle.aql_lex.specs.Characters.{backtick, begins}
use Rattle.aql_lex.specs.Vocabulary.{IsReserved, spelling_of}
use Rattle.aql_lex.specs.Numbers.{is_fraction, value_of}
use Rattle.aql_lex.specs.Texts.{Writes}
use Rattle.aql_lex.specs.Tokens.{Separates, IsToken, IsUnsigned}
use Rattle.aql_lex.specs.Faults.{Breaks, Faults}
use Rattle.aql_lex.specs.Reading.{NoSeparator, NoFault, IsLongest, Reads, Lexes, Stops}
use Rattle.aql_lex.specs.inner.Scans.{begins_comment, is_other}
use Rattle.aql_lex.specs.laws.Runs.{one_split, one_end, one_run}
use Rattle.aql_lex.specs.laws.Spellings.{one_keyword, one_symbol, symbol_begins}
use Rattle.aql_lex.specs.laws.Classes.{Class, front, digits_front, class-quote, class-tick, comment_front}
use Rattle.aql_lex.specs.laws.Classes.{token_front, breaks_front}
use Rattle.aql_lex.specs.laws.Separators.{one_separator}
use Rattle.aql_lex.specs.laws.Names.{tick_breaks}
use Rattle.aql_lex.specs.laws.Digits.{digit_breaks, DigitFault, all_digits}
use Rattle.aql_lex.specs.laws.Quotes.{one_writing, quote_breaks, QuoteFault, fault_halts}

-- ---- one token

-- tokens that leave as much after them are one
one_kind : (a b : TokenKind) (text rest more : List ℕ) → IsToken a text rest → IsToken b text more
    → length rest ≡ length more → (a ≡ b) × (rest ≡ more)
one_kind (k.Word w) (k.Word v) text rest more t u long =
    let both = one_end w v rest more (sym t.2 ∙ u.2) long in (ap k.Word both.0, both.1)
one_kind (k.Word w) (k.Keyword x) text rest more t u long =
    let both = one_end w u.0 rest more (sym t.2 ∙ u.1.2) long in
    absurd (t.1 x (subst (λ q. IsReserved q x) (sym both.0) u.1.1))
one_kind (k.Keyword x) (k.Word w) text rest more t u long =
    let both = one_end t.0 w rest more (sym t.1.2 ∙ u.2) long in
    absurd (u.1 x (subst (λ q. IsReserved q x) both.0 t.1.1))
one_kind (k.Keyword x) (k.Keyword y) text rest more t u long =
    let both = one_end t.0 u.0 rest more (sym t.1.2 ∙ u.1.2) long in
    (ap k.Keyword (one_keyword u.0 x y (subst (λ q. IsReserved q x) both.0 t.1.1) u.1.1), both.1)
one_kind (k.Quoted n) (k.Quoted m) text rest more t u long =
    let splits : n ++ backtick ∷ rest ≡ m ++ backtick ∷ more =
    let both : backtick ∷ n ++ backtick ∷ rest ≡ backtick ∷ m ++ backtick ∷ more = sym t.2 ∙ u.2 in
    cc in
    let both = one_split backtick n m rest more splits t.1 u.1 in
    (ap k.Quoted both.0, both.1)
one_kind (k.Number x) (k.Number y) text rest more t u long =
    let both = one_end t.0 u.0 rest more (sym t.1.3 ∙ u.1.3) long in
    (ap k.Number (t.1.2 ∙ ap (λ digits. pos (value_of digits)) both.0 ∙ sym u.1.2), both.1)
one_kind (k.Text v) (k.Text w) text rest more t u long =
    let both : t.0 ∷ t.1.0 ≡ u.0 ∷ u.1.0 = sym t.1.1.2 ∙ u.1.1.2 in
    let opening : u.0 ≡ t.0 = cc in
    let inner : u.1.0 ≡ t.1.0 = cc in
    let again : Writes t.0 t.1.0 w (t.0 ∷ more) =
    subst (λ x. Writes t.0 x w (t.0 ∷ more)) inner
    (subst (λ q. Writes q u.1.0 w (q ∷ more)) opening u.1.1.1) in
    let one = one_writing t.0 t.1.1.0 t.1.0 t.1.0 v w (t.0 ∷ rest) (t.0 ∷ more) refl t.1.1.1 again
    (inl refl) (inl refl) in
    (ap k.Text one.0, let ends = one.1 in cc)
one_kind (k.Symbol x) (k.Symbol y) text rest more t u long =
    let both = one_end (spelling_of x) (spelling_of y) rest more (sym t ∙ u) long in
    (ap k.Symbol (one_symbol x y both.0), both.1)
one_kind a b text rest more t u long =
    let x = token_front a text rest t in let y = token_front b text more u in absurd (cc)

one_token : (a b : TokenKind) (text rest more : List ℕ) → IsLongest a text rest → IsLongest b text more
    → (a ≡ b) × (rest ≡ more)
one_token a b text rest more t u =
    let up = t.longest b more u.stands in
    let down = u.longest a rest t.stands in
    one_kind a b text rest more t.stands u.stands (omega arith)

-- ---- one fault

same_quote_fault : (a b : LexKind) (text stop x y : List ℕ) → QuoteFault a text stop x
    → QuoteFault b text stop y → (a ≡ b) × (x ≡ y)
same_quote_fault a b text stop x y (inl t) (inl u) = (t.0 ∙ sym u.0, t.2 ∙ sym u.2)
same_quote_fault a b text stop x y (inl t) (inr u) = let none = t.1 in let some = u.1.1 in absurd (cc)
same_quote_fault a b text stop x y (inr t) (inl u) = let none = u.1 in let some = t.1.1 in absurd (cc)
same_quote_fault a b text stop x y (inr t) (inr u) = (t.1.0 ∙ sym u.1.0, t.1.3 ∙ sym u.1.3)

same_digit_fault : (a b : LexKind) (digits others rest more : List ℕ) → digits ≡ others → rest ≡ more
    → DigitFault a digits rest → DigitFault b others more → a ≡ b
same_digit_fault a b digits others rest more d e (inl t) (inl u) = t.0 ∙ sym u.0
same_digit_fault a b digits others rest more d e (inl t) (inr u) =
    let tail = t.1 in let whole = u.1 in let same = ap is_fraction e in absurd (cc)
same_digit_fault a b digits others rest more d e (inr t) (inl u) =
    let tail = u.1 in let whole = t.1 in let same = ap is_fraction e in absurd (cc)
same_digit_fault a b digits others rest more d e (inr t) (inr u) = t.0 ∙ sym u.0

comment_breaks : (kind : LexKind) (text at : List ℕ) → Breaks kind text at → begins_comment text ≡ true
    → (kind ≡ f.OpenComment) × (at ≡ text)
comment_breaks kind text at (Breaks.open_text {quote = q} {inner = i} h w) e =
    let here = class-quote q h in let there = comment_front (q ∷ i) e in absurd (cc)
comment_breaks kind text at (Breaks.open_name name none) e =
    let here = class-tick in let there = comment_front (backtick ∷ name) e in absurd (cc)
comment_breaks kind text at (Breaks.open_comment unclosed) e = (refl, refl)
comment_breaks kind text at (Breaks.bad_escape {quote = q} {inner = i} h w bad) e =
    let here = class-quote q h in let there = comment_front (q ∷ i) e in absurd (cc)
comment_breaks kind text at (Breaks.fraction digits rest h tail) e =
    let here = digits_front digits rest h in let there = comment_front (digits ++ rest) e in absurd (cc)
comment_breaks kind text at (Breaks.too_large digits rest h stop whole large) e =
    let here = digits_front digits rest h in let there = comment_front (digits ++ rest) e in absurd (cc)

one_break : (a b : LexKind) (text x y : List ℕ) → Breaks a text x → Breaks b text y → (a ≡ b) × (x ≡ y)
one_break a b text x y s t = by_front (breaks_front a text x s)
  where
    by_front : (front text ≡ Class.quote)
        ⊎ ((front text ≡ Class.tick) ⊎ ((front text ≡ Class.digit) ⊎ (begins_comment text ≡ true)))
        → (a ≡ b) × (x ≡ y)
    by_front (inl e) =
        let u = quote_breaks a text x s e in
        let v = quote_breaks b text y t e in
        let both : v.1.0 ∷ v.1.1.0 ≡ u.1.0 ∷ u.1.1.0 = sym v.1.1.1.1.2 ∙ u.1.1.1.1.2 in
        let opening : v.1.0 ≡ u.1.0 = cc in
        let inner : v.1.1.0 ≡ u.1.1.0 = cc in
        let again : Writes u.1.0 u.1.1.0 v.0 v.1.1.1.0 =
        subst (λ i. Writes u.1.0 i v.0 v.1.1.1.0) inner
        (subst (λ q. Writes q v.1.1.0 v.0 v.1.1.1.0) opening v.1.1.1.1.1) in
        let one = one_writing u.1.0 u.1.1.1.1.0 u.1.1.0 u.1.1.0 u.0 v.0 u.1.1.1.0 v.1.1.1.0 refl u.1.1.1.1.1
        again (fault_halts a u.1.0 text u.1.1.1.0 x u.1.1.1.1.3)
        (fault_halts b u.1.0 text v.1.1.1.0 y v.1.1.1.1.3) in
        same_quote_fault a b text v.1.1.1.0 x y (subst (λ stop. QuoteFault a text stop x) one.1 u.1.1.1.1.3)
        v.1.1.1.1.3
    by_front (inr (inl e)) =
        let u = tick_breaks a text x s e in let v = tick_breaks b text y t e in
        (u.1.0 ∙ sym v.1.0, u.1.3 ∙ sym v.1.3)
    by_front (inr (inr (inl e))) =
        let u = digit_breaks a text x s e in
        let v = digit_breaks b text y t e in
        let same = one_run is_ascii_digit u.0 v.0 u.1.0 v.1.0 (sym u.1.1.2 ∙ v.1.1.2)
        (all_digits u.0 u.1.1.0) (all_digits v.0 v.1.1.0) u.1.1.1 v.1.1.1 in
        (same_digit_fault a b u.0 v.0 u.1.0 v.1.0 same.0 same.1 u.1.1.4 v.1.1.4, u.1.1.3 ∙ sym v.1.1.3)
    by_front (inr (inr (inr e))) =
        let u = comment_breaks a text x s e in let v = comment_breaks b text y t e in
        (u.0 ∙ sym v.0, u.1 ∙ sym v.1)

one_fault : (a b : LexKind) (text same x y : List ℕ) → text ≡ same → Faults a text x → Faults b same y
    → (a ≡ b) × (x ≡ y)
one_fault a b text same x y e (Faults.breaks s) (Faults.breaks t) =
    one_break a b same x y (subst (λ q. Breaks a q x) e s) t
one_fault a b text same x y e (Faults.breaks s) (Faults.bad_char none fine) =
    absurd (fine a x (subst (λ q. Breaks a q x) e s))
one_fault a b text same x y e (Faults.bad_char none fine) (Faults.breaks t) =
    absurd (fine b y (subst (λ q. Breaks b q y) (sym e) t))
one_fault a b text same x y e (Faults.bad_char none fine) (Faults.bad_char less good) = (refl, e)

-- ---- nothing stands at the end

end_separator : (text rest : List ℕ) → text ≡ [] → Separates text rest → ⊥
end_separator text rest e (Separates.blank h) = absurd (cc)
end_separator text rest e (Separates.line words none) = absurd (cc)
end_separator text rest e (Separates.last_line words none) = absurd (cc)
end_separator text rest e (Separates.block closes) = absurd (cc)

end_token : (kind : TokenKind) (text rest : List ℕ) → text ≡ [] → IsToken kind text rest → ⊥
end_token (k.Symbol symbol) text rest e t = nothing (spelling_of symbol) (sym t ∙ e) (symbol_begins symbol)
  where
    nothing : (spelling : List ℕ) → spelling ++ rest ≡ [] → begins is_other spelling ≡ true → ⊥
    nothing [] g h = absurd (cc)
    nothing (b ∷ more) g h = absurd (cc)
end_token kind text rest e t =
    let here = token_front kind text rest t in let there = ap front e in absurd (cc)

end_fault : (kind : LexKind) (text at : List ℕ) → text ≡ [] → Faults kind text at → ⊥
end_fault kind text at e (Faults.breaks s) = by_front (breaks_front kind text at s)
  where
    by_front : (front text ≡ Class.quote)
        ⊎ ((front text ≡ Class.tick) ⊎ ((front text ≡ Class.digit) ⊎ (begins_comment text ≡ true))) → ⊥
    by_front (inl h) = let there = ap front e in absurd (cc)
    by_front (inr (inl h)) = let there = ap front e in absurd (cc)
    by_front (inr (inr (inl h))) = let there = ap front e in absurd (cc)
    by_front (inr (inr (inr h))) = let there = ap begins_comment e in absurd (cc)
end_fault kind text at e (Faults.bad_char none fine) = absurd (cc)

-- ---- one reading

pub one_reading : (size : ℕ) (text same : List ℕ) (ts us : List Token) (a b : Option (ℕ × LexKind))
    → text ≡ same → Reads size text ts a → Reads size same us b → (ts ≡ us) × (a ≡ b)
one_reading size text same ts us a b e Reads.over Reads.over = (refl, refl)
one_reading size text same ts us a b e Reads.over (Reads.separator {rest = r} s more) =
    absurd (end_separator same r (sym e) s)
one_reading size text same ts us a b e Reads.over (Reads.fault {at = at} {kind = kind} none s) =
    absurd (end_fault kind same at (sym e) s)
one_reading size text same ts us a b e Reads.over (Reads.token {rest = r} {kind = kind} none fine t more) =
    absurd (end_token kind same r (sym e) t.stands)
one_reading size text same ts us a b e (Reads.separator {rest = r} s more) Reads.over =
    absurd (end_separator text r e s)
one_reading size text same ts us a b e (Reads.separator {rest = r} s more)
    (Reads.separator {rest = q} t again) =
    one_reading size r q ts us a b (one_separator text same r q e s t) more again
one_reading size text same ts us a b e (Reads.separator {rest = r} s more) (Reads.fault none t) =
    absurd (none r (subst (λ x. Separates x r) e s))
one_reading size text same ts us a b e (Reads.separator {rest = r} s more) (Reads.token none fine t again) =
    absurd (none r (subst (λ x. Separates x r) e s))
one_reading size text same ts us a b e (Reads.fault {at = at} {kind = kind} none s) Reads.over =
    absurd (end_fault kind text at e s)
one_reading size text same ts us a b e (Reads.fault none s) (Reads.separator {rest = r} t again) =
    absurd (none r (subst (λ x. Separates x r) (sym e) t))
one_reading size text same ts us a b e (Reads.fault {at = x} {kind = p} none s)
    (Reads.fault {at = y} {kind = q} less t) =
    let one = one_fault p q text same x y e s t in (refl, λ i. Some (size - length (one.1 i), one.0 i))
one_reading size text same ts us a b e (Reads.fault {at = x} {kind = p} none s)
    (Reads.token less fine t again) = absurd (fine p x (subst (λ q. Faults p q x) e s))
one_reading size text same ts us a b e (Reads.token {rest = r} {kind = kind} none fine t more) Reads.over =
    absurd (end_token kind text r e t.stands)
one_reading size text same ts us a b e (Reads.token none fine t more) (Reads.separator {rest = r} s again) =
    absurd (none r (subst (λ x. Separates x r) (sym e) s))
one_reading size text same ts us a b e (Reads.token none fine t more)
    (Reads.fault {at = y} {kind = q} less s) = absurd (fine q y (subst (λ x. Faults q x y) (sym e) s))
one_reading size text same ts us a b e (Reads.token {rest = r} {kind = p} {tokens = vs} none fine t more)
    (Reads.token {rest = s} {kind = q} {tokens = ws} less good u again) =
    let one = one_token p q same r s (subst (λ x. IsLongest p x r) e t) u in
    let rest = one_reading size r s vs ws a b one.1 more again in (
      λ i. record { start = size - length (e i); end = size - length (one.1 i); kind = one.0 i } ∷ rest.0 i,
      rest.1,
    )

-- ---- the loop

-- the readings from here on are readings of the whole, after these tokens
abbrev pub Continues : List ℕ → List Token → List ℕ → Type 0
Continues text tokens left = (ts : List Token) (end : Option (ℕ × LexKind))
    → Reads (length text) left ts end → Reads (length text) text (tokens ++ ts) end

pub past_separator : (text : List ℕ) (tokens : List Token) (left rest : List ℕ) → Continues text tokens left
    → Separates left rest → Continues text tokens rest
past_separator text tokens left rest so_far s ts end r = so_far ts end (Reads.separator s r)

pub past_token : (text : List ℕ) (tokens : List Token) (left rest : List ℕ) (kind : TokenKind)
    → Continues text tokens left → NoSeparator left → NoFault left → IsLongest kind left rest
    → Continues text
    (tokens ++ record {
      start = length text - length left;
      end = length text - length rest;
      kind =
          kind;
    } ∷ []) rest
past_token text tokens left rest kind so_far none fine t ts end r =
    let token : Token = record {
      start = length text - length left;
      end = length text - length rest;
      kind =
          kind;
    } in
    subst (λ q. Reads (length text) text q end) (sym (append_assoc tokens (token ∷ []) ts))
    (so_far (token ∷ ts) end (Reads.token none fine t r))

pub stops_here : (text : List ℕ) (tokens : List Token) (left at : List ℕ) (kind : LexKind)
    → Continues text tokens left → NoSeparator left → Faults kind left at
    → Stops text (length text - length at) kind
stops_here text tokens left at kind so_far none s =
    (tokens ++ [], so_far [] (Some (length text - length at, kind)) (Reads.fault none s))

pub ends_here : (text : List ℕ) (tokens : List Token) (left : List ℕ) → Continues text tokens left
    → left ≡ [] → Lexes text tokens
ends_here text tokens left so_far e =
    subst (Lexes text) (append-nil tokens)
    (so_far [] None (subst (λ q. Reads (length text) q [] None) (sym e) Reads.over))

-- ---- what the answer is

pub few_more : (tokens new : List Token) (token : Token) (left rest size : ℕ) → new ≡ tokens ++ token ∷ []
    → length tokens + left ≤ size → rest < left → length new + rest ≤ size
few_more tokens new token left rest size is few less =
    let long = ap length is in let sum = length-append tokens (token ∷ []) in omega arith

pub token_unsigned : (kind : TokenKind) (text rest : List ℕ) → IsToken kind text rest → IsUnsigned kind
token_unsigned (k.Number number) text rest t = subst (λ z. pos 0 ≤ℤ z) (sym t.1.2) (above (value_of t.0))
  where
    above : (n : ℕ) → pos 0 ≤ℤ pos n
    above n = omega (arith, ints)
token_unsigned _ text rest t = tt

pub same_fault : (text : List ℕ) (p place : ℕ) (q kind : LexKind)
    → ◌≡◌ {A = Result (List Token) LexFault} (Err (answer.At p q)) (Err (answer.At place kind))
    → Stops text p q → Stops text place kind
same_fault text p place q kind e stops =
    let where_is : p ≡ place = cc in
    let what : q ≡ kind = cc in
    subst (λ k. Stops text place k) what (subst (λ n. Stops text n q) where_is stops)

pub not_both : (text : List ℕ) (tokens : List Token) (place : ℕ) (kind : LexKind) → Lexes text tokens
    → Stops text place kind → ⊥
not_both text tokens place kind lexes stops =
    let same =
    (one_reading (length text) text text tokens stops.0 None (Some (place, kind)) refl lexes
    stops.1).1 in absurd (cc)

same_place : (x y : ℕ × LexKind) → Some x ≡ Some y → (x.0 ≡ y.0) × (x.1 ≡ y.1)
same_place x y e = let pair : x ≡ y = cc in (ap (λ z. z.0) pair, ap (λ z. z.1) pair)

pub one_stop : (text : List ℕ) (p place : ℕ) (q kind : LexKind) → Stops text p q → Stops text place kind
    → (p ≡ place) × (q ≡ kind)
one_stop text p place q kind stops ends =
    same_place (p, q) (place, kind)
    (one_reading (length text) text text stops.0 ends.0 (Some (p, q)) (Some (place, kind)) refl stops.1
    ends.1).1
