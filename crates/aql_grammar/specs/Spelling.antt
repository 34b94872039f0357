-- How tokens spell the small parts of a query, and lists of parts. A relation `P x a b` of this
-- grammar says that the tokens `a` begin with a spelling of x, and that `b` is what stands after
-- it; no rule looks into what stands after. Names and words are those of the AQL manual's chapter
-- on syntax.
use Rattle.std.specs.Prelude.{◌≡◌, ℕ, true, List, [], ◌∷◌, Option, Some, None}
use Rattle.std.specs.Str.{str_eq_ignore_ascii_case}
use Rattle.aql_lex.specs.declared.kinds.TokenKind.TheVariants as k
use Rattle.aql_lex.specs.declared.vocabulary.Symbol.TheVariants as s
use Rattle.aql_grammar.specs.Kinds.{Tokens}

-- Name = Word | Quoted
pub data IsName : List ℕ → Tokens → Tokens → Type 0 where
  word : {v : List ℕ} {b : Tokens} → IsName v (k.Word v ∷ b) b
  quoted : {v : List ℕ} {b : Tokens} → IsName v (k.Quoted v ∷ b) b

-- a word that is no keyword but means one here, in any letter case
pub data IsWord (meant : List ℕ) : Tokens → Tokens → Type 0 where
  word : {v : List ℕ} {b : Tokens} → str_eq_ignore_ascii_case v meant ≡ true → IsWord meant (k.Word v ∷ b) b

-- [P]
pub data IsOptional {A : Type 0} (P : A → Tokens → Tokens → Type 0) : Option A → Tokens → Tokens
    → Type 0 where
  none : {a : Tokens} → IsOptional P None a a
  some : {x : A} {a b : Tokens} → P x a b → IsOptional P (Some x) a b

-- {P}
pub data AreMany {A : Type 0} (P : A → Tokens → Tokens → Type 0) : List A → Tokens → Tokens → Type 0 where
  none : {a : Tokens} → AreMany P [] a a
  one : {x : A} {xs : List A} {a b c : Tokens} → P x a b → AreMany P xs b c → AreMany P (x ∷ xs) a c

-- P {"," P}
pub data AreSeparated {A : Type 0} (P : A → Tokens → Tokens → Type 0) : List A → Tokens → Tokens
    → Type 0 where
  last : {x : A} {a b : Tokens} → P x a b → AreSeparated P (x ∷ []) a b
  before : {x : A} {xs : List A} {a b c : Tokens} → P x a (k.Symbol s.Comma ∷ b) → AreSeparated P xs b c
      → AreSeparated P (x ∷ xs) a c

-- [P {"," P}]
pub data AreAny {A : Type 0} (P : A → Tokens → Tokens → Type 0) : List A → Tokens → Tokens → Type 0 where
  none : {a : Tokens} → AreAny P [] a a
  some : {xs : List A} {a b : Tokens} → AreSeparated P xs a b → AreAny P xs a b

-- [P {"," P} [","]]
pub data AreItems {A : Type 0} (P : A → Tokens → Tokens → Type 0) : List A → Tokens → Tokens → Type 0 where
  none : {a : Tokens} → AreItems P [] a a
  some : {xs : List A} {a b : Tokens} → AreSeparated P xs a b → AreItems P xs a b
  trailing : {xs : List A} {a b : Tokens} → AreSeparated P xs a (k.Symbol s.Comma ∷ b) → AreItems P xs a b
