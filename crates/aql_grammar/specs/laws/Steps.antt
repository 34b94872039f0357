-- Steps of a parser, back from what was read and forth to what is read.
use Rattle.std.proofs.Common.{◌≡◌, ℕ, ◌<◌, ◌≤◌, Bool, true, false, cond, List, [], ◌∷◌}
use Rattle.std.proofs.Common.{length, Some, None, ◌⊎◌, inl, inr, ⊎_elim, refl, ap, ◌∙◌}
use Rattle.std.proofs.Common.{subst, rules, arith}
use Rattle.std.specs.Prelude.{pos, negsuc}
use denote.Enum.Bare.{same_true, true_same}
use Rattle.aql_lex.specs.contracts.vocabulary.Symbol as symbol_type
use Rattle.aql_lex.specs.contracts.vocabulary.Keyword as keyword_type
use Rattle.aql_lex.specs.declared.kinds.TokenKind.{TokenKind}
use Rattle.aql_lex.specs.declared.kinds.TokenKind.TheVariants as k
use Rattle.aql_lex.specs.declared.vocabulary.Symbol.{Symbol}
use Rattle.aql_lex.specs.declared.vocabulary.Keyword.{Keyword}
use Rattle.aql_grammar.specs.Kinds.{Tokens}
use Rattle.aql_grammar.specs.Spelling.{IsName, IsWord}
use Rattle.aql_grammar.specs.Input.{Outcome, Parser, and_then, head, next, same_symbol, same_keyword}
use Rattle.aql_grammar.specs.Input.{is_symbol, is_keyword, is_word, sees, sees_keyword, sees_word}
use Rattle.aql_grammar.specs.Input.{after, after_keyword, after_word, expect, expect_keyword, expect_word}
use Rattle.aql_grammar.specs.Input.{name, natural}

-- what a parser reads is spelt so
abbrev pub Sound : {A : Type 0} → Parser A → (A → Tokens → Tokens → Type 0) → Type 0
Sound {A} R P = (ts : Tokens) (y : A × Tokens) → R ts ≡ Some y → P y.0 ts y.1

-- what is spelt is read, where what stands after it allows that
abbrev pub Complete : {A : Type 0} → Parser A → (A → Tokens → Tokens → Type 0) → (Tokens → Type 0) → ℕ
    → Type 0
Complete {A} R P F bound = (x : A) (a b : Tokens) → length a ≤ bound → P x a b → F b → R a ≡ Some (x, b)

-- what is spelt takes a token at least
abbrev pub Shrinks : {A : Type 0} → (A → Tokens → Tokens → Type 0) → Type 0
Shrinks {A} P = (x : A) (a b : Tokens) → P x a b → length b < length a

-- it takes tokens or none
abbrev pub Falls : {A : Type 0} → (A → Tokens → Tokens → Type 0) → Type 0
Falls {A} P = (x : A) (a b : Tokens) → P x a b → length b ≤ length a

-- anything may stand after
abbrev pub Always : Tokens → Type 0
Always ts = Unit {0}

-- ---- back

pub bind_some : {A B : Type 0} (o : Outcome A) (f : A → Parser B) (y : B × Tokens) → and_then o f ≡ Some y
    → (p : A × Tokens) × (o ≡ Some p) × (f p.0 p.1 ≡ Some y)
bind_some (Some p) f y h = (p, refl, h)
bind_some None f y h = absurd (cc)

pub decide : (b : Bool) → (b ≡ true) ⊎ (b ≡ false)
decide true = inl refl
decide false = inr refl

pub some_same : {A : Type 0} (a b : A) → Some a ≡ Some b → a ≡ b
some_same a b h = cc

-- what is spelt, where it is what was read
pub done : {A : Type 0} (P : A → Tokens → Tokens → Type 0) (ts : Tokens) (x : A) (r : Tokens)
    (y : A × Tokens) → Some (x, r) ≡ Some y → P x ts r → P y.0 ts y.1
done {A} P ts x r y h spelt = subst (λ (z : A × Tokens). P z.0 ts z.1) (some_same (x, r) y h) spelt

seen_by : (symbol : Symbol) (ts : Tokens) → is_symbol symbol (head ts) ≡ true → ts ≡ k.Symbol symbol ∷ next
    ts
unfolding same_symbol
seen_by symbol [] h = absurd (cc)
seen_by symbol (k.Symbol t ∷ ts) h = ap (λ x. k.Symbol x ∷ ts)
    (same_true symbol_type.the_type (search rules) t symbol h)
seen_by symbol (k.Number n ∷ ts) h = absurd (cc)
seen_by symbol (k.Word w ∷ ts) h = absurd (cc)
seen_by symbol (k.Quoted w ∷ ts) h = absurd (cc)
seen_by symbol (k.Text w ∷ ts) h = absurd (cc)
seen_by symbol (k.Keyword w ∷ ts) h = absurd (cc)

-- a symbol that is seen stands there
pub seen : (symbol : Symbol) (ts : Tokens) → sees symbol ts ≡ true → ts ≡ k.Symbol symbol ∷ next ts
unfolding sees
seen symbol ts h = seen_by symbol ts h

seen_keyword_by : (keyword : Keyword) (ts : Tokens) → is_keyword keyword (head ts) ≡ true
    → ts ≡ k.Keyword keyword ∷ next ts
unfolding same_keyword
seen_keyword_by keyword [] h = absurd (cc)
seen_keyword_by keyword (k.Keyword t ∷ ts) h = ap (λ x. k.Keyword x ∷ ts)
    (same_true keyword_type.the_type (search rules) t keyword h)
seen_keyword_by keyword (k.Number n ∷ ts) h = absurd (cc)
seen_keyword_by keyword (k.Word w ∷ ts) h = absurd (cc)
seen_keyword_by keyword (k.Quoted w ∷ ts) h = absurd (cc)
seen_keyword_by keyword (k.Text w ∷ ts) h = absurd (cc)
seen_keyword_by keyword (k.Symbol w ∷ ts) h = absurd (cc)

pub seen_keyword : (keyword : Keyword) (ts : Tokens) → sees_keyword keyword ts ≡ true
    → ts ≡ k.Keyword keyword ∷ next ts
unfolding sees_keyword
seen_keyword keyword ts h = seen_keyword_by keyword ts h

seen_word_by : (meant : List ℕ) (ts : Tokens) → is_word meant (head ts) ≡ true → IsWord meant ts (next ts)
seen_word_by meant [] h = absurd (cc)
seen_word_by meant (k.Word w ∷ ts) h = IsWord.word h
seen_word_by meant (k.Number n ∷ ts) h = absurd (cc)
seen_word_by meant (k.Keyword w ∷ ts) h = absurd (cc)
seen_word_by meant (k.Quoted w ∷ ts) h = absurd (cc)
seen_word_by meant (k.Text w ∷ ts) h = absurd (cc)
seen_word_by meant (k.Symbol w ∷ ts) h = absurd (cc)

pub seen_word : (meant : List ℕ) (ts : Tokens) → sees_word meant ts ≡ true → IsWord meant ts (next ts)
unfolding sees_word
seen_word meant ts h = seen_word_by meant ts h

-- a token that must stand there; Q is what its test says of the input and of the rest
needed_by : (Q : Tokens → Type 0) (ts : Tokens) (y : Unit {0} × Tokens) (b : Bool) → (b ≡ true → Q (next ts))
    → cond b (Some (tt, next ts)) None ≡ Some y → Q y.1
needed_by Q ts y true seen h =
    subst (λ (p : Unit {0} × Tokens). Q p.1) (some_same (tt, next ts) y h) (seen refl)
needed_by Q ts y false seen h = absurd (cc)

pub expect_some : (symbol : Symbol) (ts : Tokens) (y : Unit {0} × Tokens) → expect symbol ts ≡ Some y
    → ts ≡ k.Symbol symbol ∷ y.1
unfolding expect
expect_some symbol ts y h =
    needed_by (λ rest. ts ≡ k.Symbol symbol ∷ rest) ts y (sees symbol ts) (seen symbol ts) h

pub keyword_some : (keyword : Keyword) (ts : Tokens) (y : Unit {0} × Tokens)
    → expect_keyword keyword ts ≡ Some y → ts ≡ k.Keyword keyword ∷ y.1
unfolding expect_keyword
keyword_some keyword ts y h =
    needed_by (λ rest. ts ≡ k.Keyword keyword ∷ rest) ts y (sees_keyword keyword ts) (seen_keyword keyword ts)
    h

pub word_some : (meant : List ℕ) (ts : Tokens) (y : Unit {0} × Tokens) → expect_word meant ts ≡ Some y
    → IsWord meant ts y.1
unfolding expect_word
word_some meant ts y h = needed_by (IsWord meant ts) ts y (sees_word meant ts) (seen_word meant ts) h

-- a token that may stand there, and what follows it; Q is what its test says
allowed_by : {A Q : Type 0} (p q : Parser A) (ts : Tokens) (y : A × Tokens) (b : Bool) → (b ≡ true → Q)
    → cond b p q (cond b (next ts) ts) ≡ Some y
    → (Q × (p (next ts) ≡ Some y)) ⊎ ((b ≡ false) × (q ts ≡ Some y))
allowed_by p q ts y true seen h = inl (seen refl, h)
allowed_by p q ts y false seen h = inr (refl, h)

pub eat_cases : {A : Type 0} (symbol : Symbol) (p q : Parser A) (ts : Tokens) (y : A × Tokens)
    → cond (sees symbol ts) p q (after symbol ts) ≡ Some y
    → ((ts ≡ k.Symbol symbol ∷ next ts) × (p (next ts) ≡ Some y)) ⊎ ((sees symbol ts ≡ false)
    × (q ts ≡ Some y))
unfolding after
eat_cases symbol p q ts y h = allowed_by p q ts y (sees symbol ts) (seen symbol ts) h

pub keyword_cases : {A : Type 0} (keyword : Keyword) (p q : Parser A) (ts : Tokens) (y : A × Tokens)
    → cond (sees_keyword keyword ts) p q (after_keyword keyword ts) ≡ Some y
    → ((ts ≡ k.Keyword keyword ∷ next ts) × (p (next ts) ≡ Some y)) ⊎ ((sees_keyword keyword ts ≡ false)
    × (q ts ≡ Some y))
unfolding after_keyword
keyword_cases keyword p q ts y h = allowed_by p q ts y (sees_keyword keyword ts) (seen_keyword keyword ts) h

pub word_cases : {A : Type 0} (meant : List ℕ) (p q : Parser A) (ts : Tokens) (y : A × Tokens)
    → cond (sees_word meant ts) p q (after_word meant ts) ≡ Some y
    → (IsWord meant ts (next ts) × (p (next ts) ≡ Some y)) ⊎ ((sees_word meant ts ≡ false)
    × (q ts ≡ Some y))
unfolding after_word
word_cases meant p q ts y h = allowed_by p q ts y (sees_word meant ts) (seen_word meant ts) h

if_by : {A : Type 0} (p q : Parser A) (ts : Tokens) (y : A × Tokens) (b : Bool) → cond b p q ts ≡ Some y
    → ((b ≡ true) × (p ts ≡ Some y)) ⊎ ((b ≡ false) × (q ts ≡ Some y))
if_by p q ts y true h = inl (refl, h)
if_by p q ts y false h = inr (refl, h)

-- the two sides of a choice
pub if_cases : {A : Type 0} (b : Bool) (p q : Parser A) (ts : Tokens) (y : A × Tokens)
    → cond b p q ts ≡ Some y → ((b ≡ true) × (p ts ≡ Some y)) ⊎ ((b ≡ false) × (q ts ≡ Some y))
if_cases b p q ts y h = if_by p q ts y b h

pub name_sound : Sound name IsName
unfolding name
name_sound [] y h = absurd (cc)
name_sound (k.Word v ∷ ts) y h = done IsName (k.Word v ∷ ts) v ts y h IsName.word
name_sound (k.Quoted v ∷ ts) y h = done IsName (k.Quoted v ∷ ts) v ts y h IsName.quoted
name_sound (k.Number n ∷ ts) y h = absurd (cc)
name_sound (k.Text w ∷ ts) y h = absurd (cc)
name_sound (k.Keyword w ∷ ts) y h = absurd (cc)
name_sound (k.Symbol w ∷ ts) y h = absurd (cc)

-- a number that stands there
pub natural_some : (ts : Tokens) (y : ℕ × Tokens) → natural ts ≡ Some y → ts ≡ k.Number (pos y.0) ∷ y.1
unfolding natural
natural_some [] y h = absurd (cc)
natural_some (k.Number (pos n) ∷ ts) y h = ap (λ (p : ℕ × Tokens). k.Number (pos p.0) ∷ p.1)
    (some_same (n, ts) y h)
natural_some (k.Number (negsuc n) ∷ ts) y h = absurd (cc)
natural_some (k.Word w ∷ ts) y h = absurd (cc)
natural_some (k.Quoted w ∷ ts) y h = absurd (cc)
natural_some (k.Text w ∷ ts) y h = absurd (cc)
natural_some (k.Keyword w ∷ ts) y h = absurd (cc)
natural_some (k.Symbol w ∷ ts) y h = absurd (cc)

-- ---- forth

pub same_self : (symbol : Symbol) → same_symbol symbol symbol ≡ true
unfolding same_symbol
same_self symbol = true_same symbol_type.the_type symbol symbol refl

pub same_self_keyword : (keyword : Keyword) → same_keyword keyword keyword ≡ true
unfolding same_keyword
same_self_keyword keyword = true_same keyword_type.the_type keyword keyword refl

pub sees_here : (symbol : Symbol) (ts : Tokens) → sees symbol (k.Symbol symbol ∷ ts) ≡ true
unfolding sees
sees_here symbol ts = same_self symbol

pub sees_keyword_here : (keyword : Keyword) (ts : Tokens) → sees_keyword keyword (k.Keyword keyword ∷ ts) ≡
    true
unfolding sees_keyword
sees_keyword_here keyword ts = same_self_keyword keyword

word_seen_by : (meant : List ℕ) (a b : Tokens) → IsWord meant a b → (is_word meant (head a) ≡ true)
    × (next a ≡ b)
word_seen_by meant a b (IsWord.word h) = (h, refl)

pub sees_word_here : (meant : List ℕ) (a b : Tokens) → IsWord meant a b → (sees_word meant a ≡ true)
    × (next a ≡ b)
unfolding sees_word
sees_word_here meant a b h = word_seen_by meant a b h

pub bind_here : {A B : Type 0} (o : Outcome A) (f : A → Parser B) (p : A × Tokens) (z : Outcome B)
    → o ≡ Some p → f p.0 p.1 ≡ z → and_then o f ≡ z
bind_here o f p z e h = ap (λ q. and_then q f) e ∙ h

pub if_true : {A : Type 0} (b : Bool) (p q : Parser A) (ts : Tokens) (z : Outcome A) → b ≡ true → p ts ≡ z
    → cond b p q ts ≡ z
if_true b p q ts z e h = ap (λ (c : Bool). cond c p q ts) e ∙ h

pub if_false : {A : Type 0} (b : Bool) (p q : Parser A) (ts : Tokens) (z : Outcome A) → b ≡ false → q ts ≡ z
    → cond b p q ts ≡ z
if_false b p q ts z e h = ap (λ (c : Bool). cond c p q ts) e ∙ h

pub expect_then : {B : Type 0} (symbol : Symbol) (ts : Tokens) (f : Unit {0} → Parser B) (z : Outcome B)
    → f tt ts ≡ z → and_then (expect symbol (k.Symbol symbol ∷ ts)) f ≡ z
unfolding expect
expect_then symbol ts f z h = bind_here _ f (tt, ts) z (ap (λ (c : Bool). cond c (Some (tt, ts)) None)
    (sees_here symbol ts)) h

pub keyword_then : {B : Type 0} (keyword : Keyword) (ts : Tokens) (f : Unit {0} → Parser B) (z : Outcome B)
    → f tt ts ≡ z → and_then (expect_keyword keyword (k.Keyword keyword ∷ ts)) f ≡ z
unfolding expect_keyword
keyword_then keyword ts f z h = bind_here _ f (tt, ts) z (ap (λ (c : Bool). cond c (Some (tt, ts)) None)
    (sees_keyword_here keyword ts)) h

pub word_then : {B : Type 0} (meant : List ℕ) (a b : Tokens) (f : Unit {0} → Parser B) (z : Outcome B)
    → IsWord meant a b → f tt b ≡ z → and_then (expect_word meant a) f ≡ z
unfolding expect_word
word_then meant a b f z w h =
    let there = sees_word_here meant a b w in
    bind_here _ f (tt, b) z (ap (λ (c : Bool). cond c (Some (tt, next a)) None) there.0
    ∙ ap (λ ts. Some (tt, ts)) there.1) h

pub eat_then : {A : Type 0} (symbol : Symbol) (p q : Parser A) (ts : Tokens) (z : Outcome A) → p ts ≡ z
    → cond (sees symbol (k.Symbol symbol ∷ ts)) p q (after symbol (k.Symbol symbol ∷ ts)) ≡ z
unfolding after
eat_then symbol p q ts z h = ap (λ (c : Bool). cond c p q (cond c ts (k.Symbol symbol ∷ ts)))
    (sees_here symbol ts) ∙ h

pub eat_else : {A : Type 0} (symbol : Symbol) (p q : Parser A) (ts : Tokens) (z : Outcome A)
    → sees symbol ts ≡ false → q ts ≡ z → cond (sees symbol ts) p q (after symbol ts) ≡ z
unfolding after
eat_else symbol p q ts z e h = ap (λ (c : Bool). cond c p q (cond c (next ts) ts)) e ∙ h

pub eat_keyword_then : {A : Type 0} (keyword : Keyword) (p q : Parser A) (ts : Tokens) (z : Outcome A)
    → p ts ≡ z
    → cond (sees_keyword keyword (k.Keyword keyword ∷ ts)) p q
    (after_keyword keyword (k.Keyword keyword ∷ ts)) ≡ z
unfolding after_keyword
eat_keyword_then keyword p q ts z h = ap (λ (c : Bool). cond c p q (cond c ts (k.Keyword keyword ∷ ts)))
    (sees_keyword_here keyword ts) ∙ h

pub eat_keyword_else : {A : Type 0} (keyword : Keyword) (p q : Parser A) (ts : Tokens) (z : Outcome A)
    → sees_keyword keyword ts ≡ false → q ts ≡ z
    → cond (sees_keyword keyword ts) p q (after_keyword keyword ts) ≡ z
unfolding after_keyword
eat_keyword_else keyword p q ts z e h = ap (λ (c : Bool). cond c p q (cond c (next ts) ts)) e ∙ h

pub eat_word_then : {A : Type 0} (meant : List ℕ) (p q : Parser A) (a b : Tokens) (z : Outcome A)
    → IsWord meant a b → p b ≡ z → cond (sees_word meant a) p q (after_word meant a) ≡ z
unfolding after_word
eat_word_then meant p q a b z w h =
    let there = sees_word_here meant a b w in
    ap (λ (c : Bool). cond c p q (cond c (next a) a)) there.0 ∙ ap p there.1 ∙ h

pub eat_word_else : {A : Type 0} (meant : List ℕ) (p q : Parser A) (ts : Tokens) (z : Outcome A)
    → sees_word meant ts ≡ false → q ts ≡ z → cond (sees_word meant ts) p q (after_word meant ts) ≡ z
unfolding after_word
eat_word_else meant p q ts z e h = ap (λ (c : Bool). cond c p q (cond c (next ts) ts)) e ∙ h

pub name_complete : (v : List ℕ) (a b : Tokens) → IsName v a b → name a ≡ Some (v, b)
unfolding name
name_complete v a b IsName.word = refl
name_complete v a b IsName.quoted = refl

pub name_shrinks : Shrinks IsName
name_shrinks v a b IsName.word = omega arith
name_shrinks v a b IsName.quoted = omega arith

pub word_shrinks : (meant : List ℕ) (a b : Tokens) → IsWord meant a b → length b < length a
word_shrinks meant a b (IsWord.word h) = omega arith

pub not_seen : (symbol : Symbol) (ts : Tokens) → (ts ≡ k.Symbol symbol ∷ next ts → ⊥)
    → sees symbol ts ≡ false
not_seen symbol ts h = ⊎_elim (λ t. absurd (h (seen symbol ts t))) (λ f. f) (decide (sees symbol ts))

-- a parser that reads nothing from a token
abbrev pub Refuses : {A : Type 0} → Parser A → TokenKind → Type 0
Refuses R t = (ts : Tokens) → R (t ∷ ts) ≡ None

-- so what it reads doesn't begin so
pub not_first : {A : Type 0} (R : Parser A) (symbol : Symbol) → Refuses R (k.Symbol symbol)
    → (ts : Tokens) (y : A × Tokens) → R ts ≡ Some y → sees symbol ts ≡ false
not_first R symbol none ts y h = not_seen symbol ts (λ e. let a = none (next ts) in let b = ap R e in absurd
    (cc))
