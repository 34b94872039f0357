-- The operators of expressions with their spellings and their precedence, as the AQL manual's chapter
-- on operators has them. Ranges and array comparisons have rules of their own, in Expressions.
use Rattle.std.specs.Prelude.{◌∷◌, Option, Some, None}
use Rattle.aql_lex.specs.declared.kinds.TokenKind.TheVariants as k
use Rattle.aql_lex.specs.declared.vocabulary.Keyword.TheVariants as w
use Rattle.aql_lex.specs.declared.vocabulary.Symbol.TheVariants as s
use Rattle.aql_value.specs.declared.operators.BinOp.{BinOp}
use Rattle.aql_value.specs.declared.operators.BinOp.TheVariants as op
use Rattle.aql_value.specs.declared.operators.UnaryOp.{UnaryOp}
use Rattle.aql_value.specs.declared.operators.UnaryOp.TheVariants as un
use Rattle.aql_tree.specs.declared.syntax.QuantKind.{QuantKind}
use Rattle.aql_tree.specs.declared.syntax.QuantKind.TheVariants as quant
use Rattle.aql_grammar.specs.declared.precedence.Precedence.{Precedence}
use Rattle.aql_grammar.specs.declared.precedence.Precedence.TheVariants as level
use Rattle.aql_grammar.specs.Kinds.{Tokens}

-- the next tighter precedence; the operands of the tightest have no operator between two
abbrev pub tighter : Precedence → Option Precedence
tighter level.Product = None
tighter level.Sum = Some level.Product
tighter level.Range = Some level.Sum
tighter level.Relation = Some level.Range
tighter level.Membership = Some level.Relation
tighter level.Equality = Some level.Membership
tighter level.ArrayComparison = Some level.Equality
tighter level.Conjunction = Some level.ArrayComparison
tighter level.Disjunction = Some level.Conjunction

-- an operator between two operands, of a precedence
pub data IsOperator : Precedence → BinOp → Tokens → Tokens → Type 0 where
  times : {b : Tokens} → IsOperator level.Product op.Mul (k.Symbol s.Star ∷ b) b
  divided : {b : Tokens} → IsOperator level.Product op.Div (k.Symbol s.Slash ∷ b) b
  remainder : {b : Tokens} → IsOperator level.Product op.Rem (k.Symbol s.Percent ∷ b) b
  plus : {b : Tokens} → IsOperator level.Sum op.Add (k.Symbol s.Plus ∷ b) b
  minus : {b : Tokens} → IsOperator level.Sum op.Sub (k.Symbol s.Minus ∷ b) b
  less : {b : Tokens} → IsOperator level.Relation op.Lt (k.Symbol s.Less ∷ b) b
  less_equal : {b : Tokens} → IsOperator level.Relation op.Le (k.Symbol s.LessOrEqual ∷ b) b
  greater : {b : Tokens} → IsOperator level.Relation op.Gt (k.Symbol s.Greater ∷ b) b
  greater_equal : {b : Tokens} → IsOperator level.Relation op.Ge (k.Symbol s.GreaterOrEqual ∷ b) b
  is_in : {b : Tokens} → IsOperator level.Membership op.IsIn (k.Keyword w.In ∷ b) b
  not_in : {b : Tokens} → IsOperator level.Membership op.NotIn (k.Keyword w.Not ∷ k.Keyword w.In ∷ b) b
  equal : {b : Tokens} → IsOperator level.Equality op.Eq (k.Symbol s.Equal ∷ b) b
  not_equal : {b : Tokens} → IsOperator level.Equality op.Ne (k.Symbol s.NotEqual ∷ b) b
  like : {b : Tokens} → IsOperator level.Equality op.Like (k.Keyword w.Like ∷ b) b
  not_like : {b : Tokens} → IsOperator level.Equality op.NotLike (k.Keyword w.Not ∷ k.Keyword w.Like ∷ b) b
  and_symbol : {b : Tokens} → IsOperator level.Conjunction op.And (k.Symbol s.And ∷ b) b
  and_word : {b : Tokens} → IsOperator level.Conjunction op.And (k.Keyword w.And ∷ b) b
  or_symbol : {b : Tokens} → IsOperator level.Disjunction op.Or (k.Symbol s.Or ∷ b) b
  or_word : {b : Tokens} → IsOperator level.Disjunction op.Or (k.Keyword w.Or ∷ b) b

-- an operator that an array comparison may have
pub data IsComparison : BinOp → Tokens → Tokens → Type 0 where
  equal : {b : Tokens} → IsComparison op.Eq (k.Symbol s.Equal ∷ b) b
  not_equal : {b : Tokens} → IsComparison op.Ne (k.Symbol s.NotEqual ∷ b) b
  less : {b : Tokens} → IsComparison op.Lt (k.Symbol s.Less ∷ b) b
  less_equal : {b : Tokens} → IsComparison op.Le (k.Symbol s.LessOrEqual ∷ b) b
  greater : {b : Tokens} → IsComparison op.Gt (k.Symbol s.Greater ∷ b) b
  greater_equal : {b : Tokens} → IsComparison op.Ge (k.Symbol s.GreaterOrEqual ∷ b) b
  is_in : {b : Tokens} → IsComparison op.IsIn (k.Keyword w.In ∷ b) b
  not_in : {b : Tokens} → IsComparison op.NotIn (k.Keyword w.Not ∷ k.Keyword w.In ∷ b) b

pub data IsQuantifier : QuantKind → Tokens → Tokens → Type 0 where
  all : {b : Tokens} → IsQuantifier quant.All (k.Keyword w.All ∷ b) b
  any : {b : Tokens} → IsQuantifier quant.Any (k.Keyword w.Any ∷ b) b
  none : {b : Tokens} → IsQuantifier quant.None (k.Keyword w.None ∷ b) b

pub data IsUnaryOperator : UnaryOp → Tokens → Tokens → Type 0 where
  plus : {b : Tokens} → IsUnaryOperator un.Plus (k.Symbol s.Plus ∷ b) b
  minus : {b : Tokens} → IsUnaryOperator un.Minus (k.Symbol s.Minus ∷ b) b
  not_symbol : {b : Tokens} → IsUnaryOperator un.Not (k.Symbol s.Not ∷ b) b
  not_word : {b : Tokens} → IsUnaryOperator un.Not (k.Keyword w.Not ∷ b) b
