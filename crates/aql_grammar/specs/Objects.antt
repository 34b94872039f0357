-- How tokens spell a name that stands for a value, and an object literal (AQL fundamentals, Data
-- types). `E` is the rule for expressions one bracket deeper; `inside` says whether the place is in
-- the FILTER or RETURN of an inline expression, where the word CURRENT is the element at hand.
use Rattle.std.specs.Prelude.{ℕ, Bool, ◌&&◌, if◌then◌else◌, List, ◌∷◌, bytes_eq}
use Rattle.std.specs.Prelude.{codes}
use Rattle.aql_lex.specs.declared.kinds.TokenKind.TheVariants as k
use Rattle.aql_lex.specs.declared.vocabulary.Symbol.TheVariants as s
use Rattle.aql_tree.specs.Tree.{ExprTree, current}
use Rattle.aql_tree.specs.View.{MemberPart}
use Rattle.aql_tree.specs.View as part
use Rattle.aql_tree.specs.Build as e
use Rattle.aql_grammar.specs.Kinds.{Tokens}
use Rattle.aql_grammar.specs.Spelling.{IsName, AreItems}

-- what an unquoted name stands for
abbrev pub word_value : Bool → List ℕ → ExprTree
word_value inside v = if inside && bytes_eq v (codes "CURRENT") then current else e.name v

-- Name, as a value
pub data IsVariable (inside : Bool) : List ℕ → ExprTree → Tokens → Tokens → Type 0 where
  word : {v : List ℕ} {b : Tokens} → IsVariable inside v (word_value inside v) (k.Word v ∷ b) b
  quoted : {v : List ℕ} {b : Tokens} → IsVariable inside v (e.name v) (k.Quoted v ∷ b) b

-- Name | Text
pub data IsKey : List ℕ → Tokens → Tokens → Type 0 where
  name : {v : List ℕ} {a b : Tokens} → IsName v a b → IsKey v a b
  text : {v : List ℕ} {b : Tokens} → IsKey v (k.Text v ∷ b) b

module _ (E : Bool → ExprTree → Tokens → Tokens → Type 0) (inside : Bool) where
  -- (Name | Text) ":" Expr | "[" Expr "]" ":" Expr | Name
  pub data IsMember : MemberPart → Tokens → Tokens → Type 0 where
    named : {v : List ℕ} {x : ExprTree} {a b c : Tokens} → IsKey v a (k.Symbol s.Colon ∷ b) → E inside x b c
        → IsMember (part.named v x) a c
    computed : {n x : ExprTree} {a b c : Tokens}
        → E inside n a (k.Symbol s.CloseBracket ∷ k.Symbol s.Colon ∷ b) → E inside x b c
        → IsMember (part.computed n x) (k.Symbol s.OpenBracket ∷ a) c
    short : {v : List ℕ} {x : ExprTree} {a b : Tokens} → IsVariable inside v x a b
        → IsMember (part.named v x) a b

  -- "{" [Member {"," Member} [","]] "}"
  pub data IsObject : List MemberPart → Tokens → Tokens → Type 0 where
    object : {ms : List MemberPart} {a b : Tokens} → AreItems IsMember ms a (k.Symbol s.CloseBrace ∷ b)
        → IsObject ms (k.Symbol s.OpenBrace ∷ a) b
