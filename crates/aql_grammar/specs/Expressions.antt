-- How tokens spell an expression (AQL manual, Operators, and AQL fundamentals, Syntax): one rule for
-- each level of precedence, from the tightest on. `E` is the rule for expressions one bracket deeper,
-- and `inside` says whether the place is in the FILTER or RETURN of an inline expression.
use Rattle.std.specs.Prelude.{ℕ, ℤ, Bool, true, false, List, [], ◌∷◌, Option, Some, None}
use Rattle.aql_lex.specs.declared.kinds.TokenKind.TheVariants as k
use Rattle.aql_lex.specs.declared.vocabulary.Keyword.{Keyword}
use Rattle.aql_lex.specs.declared.vocabulary.Keyword.TheVariants as w
use Rattle.aql_lex.specs.declared.vocabulary.Symbol.TheVariants as s
use Rattle.aql_value.specs.declared.operators.BinOp.{BinOp}
use Rattle.aql_value.specs.declared.operators.UnaryOp.{UnaryOp}
use Rattle.aql_tree.specs.declared.syntax.QuantKind.{QuantKind}
use Rattle.aql_tree.specs.Tree.{ExprTree, unary_of, range_of, subquery, QueryTree}
use Rattle.aql_tree.specs.Tree as tree
use Rattle.aql_tree.specs.View.{MemberPart, StepPart, LinkPart}
use Rattle.aql_tree.specs.View as part
use Rattle.aql_tree.specs.Build as e
use Rattle.aql_grammar.specs.declared.precedence.Precedence.{Precedence}
use Rattle.aql_grammar.specs.declared.precedence.Precedence.TheVariants as level
use Rattle.aql_grammar.specs.Kinds.{Tokens}
use Rattle.aql_grammar.specs.Spelling.{IsName, AreMany, AreAny, AreItems}
use Rattle.aql_grammar.specs.Operators.{IsOperator, IsComparison, IsQuantifier, IsUnaryOperator}
use Rattle.aql_grammar.specs.Objects.{IsVariable, IsObject}
use Rattle.aql_grammar.specs.Clauses.{IsQuery}

module _ (E : Bool → ExprTree → Tokens → Tokens → Type 0) (inside : Bool) where
  -- Expr | Query
  pub data IsArgument : ExprTree → Tokens → Tokens → Type 0 where
    expr : {x : ExprTree} {a b : Tokens} → E inside x a b → IsArgument x a b
    query : {q : QueryTree} {a b : Tokens} → IsQuery E inside [] q a b → IsArgument (subquery q) a b

  -- a literal, a name, a call, a list, an object, or what stands in brackets
  pub data IsPrimary : ExprTree → Tokens → Tokens → Type 0 where
    number : {n : ℤ} {b : Tokens} → IsPrimary (e.number n) (k.Number n ∷ b) b
    text : {v : List ℕ} {b : Tokens} → IsPrimary (e.text v) (k.Text v ∷ b) b
    null : {b : Tokens} → IsPrimary e.null (k.Keyword w.Null ∷ b) b
    true_word : {b : Tokens} → IsPrimary (e.boolean true) (k.Keyword w.True ∷ b) b
    false_word : {b : Tokens} → IsPrimary (e.boolean false) (k.Keyword w.False ∷ b) b
    name : {v : List ℕ} {x : ExprTree} {a b : Tokens} → IsVariable inside v x a b → IsPrimary x a b
    call : {v : List ℕ} {xs : List ExprTree} {a b : Tokens}
        → AreAny IsArgument xs a (k.Symbol s.CloseParen ∷ b)
        → IsPrimary (e.call v xs) (k.Word v ∷ k.Symbol s.OpenParen ∷ a) b
    list : {xs : List ExprTree} {a b : Tokens} → AreItems (E inside) xs a (k.Symbol s.CloseBracket ∷ b)
        → IsPrimary (e.list xs) (k.Symbol s.OpenBracket ∷ a) b
    object : {ms : List MemberPart} {a b : Tokens} → IsObject E inside ms a b → IsPrimary (e.object ms) a b
    parentheses : {x : ExprTree} {a b : Tokens} → IsArgument x a (k.Symbol s.CloseParen ∷ b)
        → IsPrimary x (k.Symbol s.OpenParen ∷ a) b

  -- [word Expr], for the word "FILTER" or "RETURN"
  pub data IsElementPart : Keyword → Option ExprTree → Tokens → Tokens → Type 0 where
    none : {word : Keyword} {a : Tokens} → IsElementPart word None a a
    some : {word : Keyword} {x : ExprTree} {a b : Tokens} → E true x a b
        → IsElementPart word (Some x) (k.Keyword word ∷ a) b

  -- "." Name | "[" Expr "]" | "[" "*" ["FILTER" Expr] ["RETURN" Expr] "]"
  pub data IsStep : StepPart → Tokens → Tokens → Type 0 where
    name : {v : List ℕ} {a b : Tokens} → IsName v a b → IsStep (part.name v) (k.Symbol s.Dot ∷ a) b
    at : {x : ExprTree} {a b : Tokens} → E inside x a (k.Symbol s.CloseBracket ∷ b)
        → IsStep (part.at x) (k.Symbol s.OpenBracket ∷ a) b
    inline : {f p : Option ExprTree} {a b c : Tokens} → IsElementPart w.Filter f a b
        → IsElementPart w.Return p b (k.Symbol s.CloseBracket ∷ c)
        → IsStep (part.inline f p) (k.Symbol s.OpenBracket ∷ k.Symbol s.Star ∷ a) c

  -- Primary {Step}
  pub data IsPostfix : ExprTree → Tokens → Tokens → Type 0 where
    alone : {x : ExprTree} {a b : Tokens} → IsPrimary x a b → IsPostfix x a b
    with_steps : {x : ExprTree} {p : StepPart} {ps : List StepPart} {a b c : Tokens} → IsPrimary x a b
        → AreMany IsStep (p ∷ ps) b c → IsPostfix (e.with_steps x p ps) a c

  -- ("+" | "-" | "!" | "NOT") Unary | Postfix
  pub data IsUnary : ExprTree → Tokens → Tokens → Type 0 where
    postfix : {x : ExprTree} {a b : Tokens} → IsPostfix x a b → IsUnary x a b
    applied : {op : UnaryOp} {x : ExprTree} {a b c : Tokens} → IsUnaryOperator op a b → IsUnary x b c
        → IsUnary (unary_of op x) a c

-- an operator of a precedence and its right side
pub data IsLink (precedence : Precedence) (P : ExprTree → Tokens → Tokens → Type 0) : LinkPart → Tokens
    → Tokens
    → Type 0 where
  link : {op : BinOp} {x : ExprTree} {a b c : Tokens} → IsOperator precedence op a b → P x b c
      → IsLink precedence P (e.link op x) a c

-- P {operator P}, with the operators of a precedence
pub data IsChain (precedence : Precedence) (P : ExprTree → Tokens → Tokens → Type 0) : ExprTree → Tokens
    → Tokens
    → Type 0 where
  alone : {x : ExprTree} {a b : Tokens} → P x a b → IsChain precedence P x a b
  with_links : {x : ExprTree} {l : LinkPart} {ls : List LinkPart} {a b c : Tokens} → P x a b
      → AreMany (IsLink precedence P) (l ∷ ls) b c → IsChain precedence P (e.with_links x l ls) a c

-- P [".." P]
pub data IsRange (P : ExprTree → Tokens → Tokens → Type 0) : ExprTree → Tokens → Tokens → Type 0 where
  alone : {x : ExprTree} {a b : Tokens} → P x a b → IsRange P x a b
  range : {x y : ExprTree} {a b c : Tokens} → P x a (k.Symbol s.Range ∷ b) → P y b c
      → IsRange P (range_of x y) a c

-- P [("ALL" | "ANY" | "NONE") Comparison P]
pub data IsQuantified (P : ExprTree → Tokens → Tokens → Type 0) : ExprTree → Tokens → Tokens → Type 0 where
  alone : {x : ExprTree} {a b : Tokens} → P x a b → IsQuantified P x a b
  array_comparison : {x y : ExprTree} {kind : QuantKind} {op : BinOp} {a b c d f : Tokens} → P x a b
      → IsQuantifier kind b c → IsComparison op c d → P y d f
      → IsQuantified P (tree.array_comparison x kind op y) a f

module _ (E : Bool → ExprTree → Tokens → Tokens → Type 0) (inside : Bool) where
  -- Unary {("*" | "/" | "%") Unary}
  abbrev pub IsProduct : ExprTree → Tokens → Tokens → Type 0
  IsProduct = IsChain level.Product (IsUnary E inside)

  -- Product {("+" | "-") Product}
  abbrev pub IsSum : ExprTree → Tokens → Tokens → Type 0
  IsSum = IsChain level.Sum IsProduct

  -- Sum [".." Sum]
  abbrev pub IsSpan : ExprTree → Tokens → Tokens → Type 0
  IsSpan = IsRange IsSum

  -- Span {("<" | "<=" | ">" | ">=") Span}
  abbrev pub IsRelation : ExprTree → Tokens → Tokens → Type 0
  IsRelation = IsChain level.Relation IsSpan

  -- Relation {("IN" | "NOT" "IN") Relation}
  abbrev pub IsMembership : ExprTree → Tokens → Tokens → Type 0
  IsMembership = IsChain level.Membership IsRelation

  -- Membership {("==" | "!=" | "LIKE" | "NOT" "LIKE") Membership}
  abbrev pub IsEquality : ExprTree → Tokens → Tokens → Type 0
  IsEquality = IsChain level.Equality IsMembership

  -- Equality [("ALL" | "ANY" | "NONE") Comparison Equality]
  abbrev pub IsArrayComparison : ExprTree → Tokens → Tokens → Type 0
  IsArrayComparison = IsQuantified IsEquality

  -- ArrayComparison {("&&" | "AND") ArrayComparison}
  abbrev pub IsConjunction : ExprTree → Tokens → Tokens → Type 0
  IsConjunction = IsChain level.Conjunction IsArrayComparison

  -- Conjunction {("||" | "OR") Conjunction}
  abbrev pub IsDisjunction : ExprTree → Tokens → Tokens → Type 0
  IsDisjunction = IsChain level.Disjunction IsConjunction

  -- Disjunction ["?" [Expr] ":" Expr]
  pub data IsConditional : ExprTree → Tokens → Tokens → Type 0 where
    plain : {x : ExprTree} {a b : Tokens} → IsDisjunction x a b → IsConditional x a b
    short : {x z : ExprTree} {a b c : Tokens}
        → IsDisjunction x a (k.Symbol s.Question ∷ k.Symbol s.Colon ∷ b) → E inside z b c
        → IsConditional (e.conditional x None z) a c
    full : {x y z : ExprTree} {a b c d : Tokens} → IsDisjunction x a (k.Symbol s.Question ∷ b)
        → E inside y b (k.Symbol s.Colon ∷ c) → E inside z c d
        → IsConditional (e.conditional x (Some y) z) a d
