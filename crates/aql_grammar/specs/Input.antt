-- The steps that a parser of tokens is made of. The rules in Reader say, as functions, what the
-- program does; the laws of this crate say that they read exactly what the grammar in Tree allows.
use Rattle.std.specs.Prelude.{◌≡◌, ℕ, zero, suc, pos, Bool, true, false, if◌then◌else◌, List, [], ◌∷◌}
use Rattle.std.specs.Prelude.{◌++◌, length, Option, Some, None, Result, Ok, Err}
use Rattle.std.specs.Str.{str_eq_ignore_ascii_case}
use denote.Enum.Bare.{sameb}
use Rattle.aql_lex.specs.declared.kinds.TokenKind.{TokenKind}
use Rattle.aql_lex.specs.declared.kinds.TokenKind.TheVariants as k
use Rattle.aql_lex.specs.declared.vocabulary.Symbol.{Symbol}
use Rattle.aql_lex.specs.declared.vocabulary.Symbol.TheVariants as s
use Rattle.aql_lex.specs.contracts.vocabulary.Symbol as symbol
use Rattle.aql_lex.specs.declared.vocabulary.Keyword.{Keyword}
use Rattle.aql_lex.specs.contracts.vocabulary.Keyword as keyword
use Rattle.aql_grammar.specs.Kinds.{Tokens}
use Rattle.aql_grammar.specs.declared.faults.ParseFault.{ParseFault}
use Rattle.aql_grammar.specs.declared.faults.ParseFault.TheVariants as fault

-- ---- what stands at the front

abbrev pub head : Tokens → Option TokenKind
head [] = None
head (t ∷ ts) = Some t

abbrev pub next : Tokens → Tokens
next [] = []
next (t ∷ ts) = ts

unfoldable pub same_symbol : Symbol → Symbol → Bool
same_symbol = sameb symbol.the_type

unfoldable pub same_keyword : Keyword → Keyword → Bool
same_keyword = sameb keyword.the_type

abbrev pub is_symbol : Symbol → Option TokenKind → Bool
is_symbol symbol (Some (k.Symbol found)) = same_symbol found symbol
is_symbol symbol other = false

abbrev pub is_keyword : Keyword → Option TokenKind → Bool
is_keyword keyword (Some (k.Keyword found)) = same_keyword found keyword
is_keyword keyword other = false

abbrev pub is_word : List ℕ → Option TokenKind → Bool
is_word meant (Some (k.Word found)) = str_eq_ignore_ascii_case found meant
is_word meant other = false

abbrev pub is_name : Option TokenKind → Bool
is_name (Some (k.Word v)) = true
is_name (Some (k.Quoted v)) = true
is_name other = false

abbrev pub is_number : Option TokenKind → Bool
is_number (Some (k.Number n)) = true
is_number other = false

unfoldable pub sees : Symbol → Tokens → Bool
sees symbol i = is_symbol symbol (head i)

unfoldable pub sees_keyword : Keyword → Tokens → Bool
sees_keyword keyword i = is_keyword keyword (head i)

unfoldable pub sees_word : List ℕ → Tokens → Bool
sees_word meant i = is_word meant (head i)

-- ---- parsers

abbrev pub Outcome : Type 0 → Type 0
Outcome A = Option (A × Tokens)

abbrev pub Parser : Type 0 → Type 0
Parser A = Tokens → Outcome A

abbrev pub and_then : {A B : Type 0} → Outcome A → (A → Parser B) → Outcome B
and_then (Some p) f = f p.0 p.1
and_then None f = None

infixl 10 ◌>>=◌
abbrev pub ◌>>=◌ : {A B : Type 0} → Parser A → (A → Parser B) → Parser B
p >>= f = λ i. and_then (p i) f

infixl 10 ◌>>◌
abbrev pub ◌>>◌ : {A B : Type 0} → Parser A → Parser B → Parser B
p >> q = p >>= (λ _. q)

abbrev pub pure : {A : Type 0} → A → Parser A
pure a = λ i. Some (a, i)

infixr 11 ◌<$>◌
abbrev pub ◌<$>◌ : {A B : Type 0} → (A → B) → Parser A → Parser B
f <$> p = p >>= (λ x. pure (f x))

abbrev pub refuse : {A : Type 0} → Parser A
refuse = λ i. None

abbrev pub peek : Parser (Option TokenKind)
peek = λ i. Some (head i, i)

-- what is seen of all that is left
abbrev pub look : {A : Type 0} → (Tokens → A) → Parser A
look f = λ i. Some (f i, i)

abbrev pub skip : Parser (Unit {0})
skip = λ i. Some (tt, next i)

-- after a token, where it stands there
unfoldable pub after : Symbol → Tokens → Tokens
after symbol i = if sees symbol i then next i else i

unfoldable pub after_keyword : Keyword → Tokens → Tokens
after_keyword keyword i = if sees_keyword keyword i then next i else i

unfoldable pub after_word : List ℕ → Tokens → Tokens
after_word meant i = if sees_word meant i then next i else i

-- takes a token where it stands there
abbrev pub eat : Symbol → Parser Bool
eat symbol = λ i. Some (sees symbol i, after symbol i)

abbrev pub eat_keyword : Keyword → Parser Bool
eat_keyword keyword = λ i. Some (sees_keyword keyword i, after_keyword keyword i)

abbrev pub eat_word : List ℕ → Parser Bool
eat_word meant = λ i. Some (sees_word meant i, after_word meant i)

-- takes a token that must stand there
unfoldable pub expect : Symbol → Parser (Unit {0})
expect symbol = λ i. if sees symbol i then Some (tt, next i) else None

unfoldable pub expect_keyword : Keyword → Parser (Unit {0})
expect_keyword keyword = λ i. if sees_keyword keyword i then Some (tt, next i) else None

unfoldable pub expect_word : List ℕ → Parser (Unit {0})
expect_word meant = λ i. if sees_word meant i then Some (tt, next i) else None

abbrev pub name_by : Option TokenKind → Parser (List ℕ)
name_by (Some (k.Word v)) = skip >> pure v
name_by (Some (k.Quoted v)) = skip >> pure v
name_by other = refuse

unfoldable pub name : Parser (List ℕ)
name = peek >>= name_by

abbrev pub natural_by : Option TokenKind → Parser ℕ
natural_by (Some (k.Number (pos n))) = skip >> pure n
natural_by other = refuse

unfoldable pub natural : Parser ℕ
natural = peek >>= natural_by

-- a test of the first token
abbrev pub at_front : (Option TokenKind → Bool) → Tokens → Bool
at_front test i = test (head i)

-- ---- lists, after what was found; the number bounds how many are read

unfoldable pub many_from : {A : Type 0} → (Tokens → Bool) → Parser A → ℕ → List A → Parser (List A)
many_from starts one zero found = pure found
many_from starts one (suc n) found = do
  more ← look starts
  if more then (do x ← one; many_from starts one n (found ++ x ∷ [])) else pure found

unfoldable pub many : {A : Type 0} → (Tokens → Bool) → Parser A → Parser (List A)
many starts one = λ i. many_from starts one (length i) [] i

unfoldable pub comma_list_from : {A : Type 0} → Parser A → ℕ → List A → Parser (List A)
comma_list_from one zero found = refuse
comma_list_from one (suc n) found = do
  x ← one
  more ← eat s.Comma
  if more then comma_list_from one n (found ++ x ∷ []) else pure (found ++ x ∷ [])

unfoldable pub comma_list_onto : {A : Type 0} → Parser A → List A → Parser (List A)
comma_list_onto one found = λ i. comma_list_from one (length i) found i

abbrev pub comma_list : {A : Type 0} → Parser A → Parser (List A)
comma_list one = comma_list_onto one []

-- up to a closing symbol, before which a comma may stand
unfoldable pub items_from : {A : Type 0} → Symbol → Parser A → ℕ → List A → Parser (List A)
items_from close one zero found = refuse
items_from close one (suc n) found = do
  is_over ← eat close
  if is_over then pure found else (do
    x ← one
    more ← eat s.Comma
    if more then items_from close one n (found ++ x ∷ []) else (do expect close; pure (found ++ x ∷ [])))

unfoldable pub items : {A : Type 0} → Symbol → Parser A → Parser (List A)
items close one = λ i. items_from close one (length i) [] i

-- ---- what a function of the program answers

-- a tree with what is left, or the refusal; want of memory may come at any time
abbrev pub ReadsAs : {A T : Type 0} → (A → T) → Outcome T → Result A ParseFault → Tokens → Type 0
ReadsAs view outcome (Ok a) new = outcome ≡ Some (view a, new)
ReadsAs view outcome (Err fault.NotInGrammar) new = outcome ≡ None
ReadsAs view outcome (Err fault.Memory) new = Unit {0}
ReadsAs view outcome (Err other) new = ⊥

abbrev pub Reads : {A : Type 0} → Outcome A → Result A ParseFault → Tokens → Type 0
Reads outcome result new = ReadsAs (λ a. a) outcome result new
