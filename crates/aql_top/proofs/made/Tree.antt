-- The tokens of the query of the script that is made spell its tree.
use Rattle.std.proofs.Common.{ℕ, Bool, false, List, [], ◌∷◌, Some, None, pos, refl}
use Rattle.std.specs.Prelude.{codes}
use Rattle.aql_lex.specs.declared.kinds.TokenKind.TheVariants as k
use Rattle.aql_lex.specs.declared.vocabulary.Keyword.TheVariants as w
use Rattle.aql_lex.specs.declared.vocabulary.Symbol.TheVariants as s
use Rattle.aql_value.specs.declared.operators.BinOp.TheVariants.{Lt}
use Rattle.aql_tree.specs.declared.syntax.Direction.TheVariants.{Outbound}
use Rattle.aql_tree.specs.Tree.{ExprTree, ClauseTree, filter_by}
use Rattle.aql_tree.specs.Build as build
use Rattle.aql_tree.specs.View as part
use Rattle.aql_grammar.specs.Kinds.{Tokens, kinds_of}
use Rattle.aql_grammar.specs.Spelling.{IsName, IsOptional, AreSeparated, AreMany, AreAny, AreItems}
use Rattle.aql_grammar.specs.Operators.{IsOperator}
use Rattle.aql_grammar.specs.Objects.{IsVariable}
use Rattle.aql_grammar.specs.Clauses.{AreTraversalNames, IsDepth, IsDirection, IsDistinct, IsAssignment, IsAggregate, AreAggregates, IsTail, IsPrune, AreOptions, IsClause, AreClauses, IsQuery}
use Rattle.aql_grammar.specs.Expressions.{IsPrimary, IsStep, IsPostfix, IsUnary, IsLink, IsChain, IsRange, IsQuantified, IsSpan, IsRelation, IsConditional}
use Rattle.aql_grammar.specs.Tree.{IsExpr, IsTop, Tree}
use Rattle.aql_meaning.specs.worked.Words.{int, var, dot, op, for, agg}
use Rattle.aql_meaning.specs.worked.Expressions.{items}
use Rattle.aql_top.proofs.made.Tokens.{made_tokens}
use Rattle.aql_top.proofs.made.Query.{each_path, groups, made_clauses, made_query}

-- ---- expressions

module _ (E : Bool → ExprTree → Tokens → Tokens → Type 0) where
  spans : (x : ExprTree) (a b : Tokens) → IsPostfix E false x a b → IsSpan E false x a b
  spans x a b p = IsRange.alone (IsChain.alone (IsChain.alone (IsUnary.postfix p)))

  relates : (x : ExprTree) (a b : Tokens) → IsRelation E false x a b → IsConditional E false x a b
  relates x a b r =
      IsConditional.plain
      (IsChain.alone (IsChain.alone (IsQuantified.alone (IsChain.alone (IsChain.alone r)))))

  stands : (x : ExprTree) (a b : Tokens) → IsPostfix E false x a b → IsConditional E false x a b
  stands x a b p = relates x a b (IsChain.alone (spans x a b p))

  -- a variable, and an attribute of one
  names : (v : List ℕ) (b : Tokens) → IsPostfix E false (build.name v) (k.Word v ∷ b) b
  names v b = IsPostfix.alone (IsPrimary.name IsVariable.word)

  has_attribute : (v n : List ℕ) (b : Tokens)
      → IsPostfix E false (build.with_steps (build.name v) (part.name n) [])
      (k.Word v ∷ k.Symbol s.Dot ∷ k.Word n ∷ b) b
  has_attribute v n b =
      IsPostfix.with_steps (IsPrimary.name IsVariable.word)
      (AreMany.one (IsStep.name IsName.word) AreMany.none)

  variable_stands : (v : List ℕ) (b : Tokens) → IsConditional E false (build.name v) (k.Word v ∷ b) b
  variable_stands v b = stands (build.name v) (k.Word v ∷ b) b (names v b)

  attribute_stands : (v n : List ℕ) (b : Tokens)
      → IsConditional E false (build.with_steps (build.name v) (part.name n) [])
      (k.Word v ∷ k.Symbol s.Dot ∷ k.Word n ∷ b) b
  attribute_stands v n b = stands _ _ b (has_attribute v n b)

-- ---- clauses; only in a list does an expression stand that is one bracket deeper

abbrev Spells : List ClauseTree → Tokens → Tokens → Type 0
Spells = IsClause (IsExpr 2) false

variable_read : (v : List ℕ) (b : Tokens) → IsExpr 2 false (build.name v) (k.Word v ∷ b) b
variable_read v b = variable_stands (IsExpr 1) v b

attribute_read : (v n : List ℕ) (b : Tokens)
    → IsExpr 2 false (build.with_steps (build.name v) (part.name n) [])
    (k.Word v ∷ k.Symbol s.Dot ∷ k.Word n ∷ b) b
attribute_read v n b = attribute_stands (IsExpr 1) v n b

abbrev below_tokens : Tokens → Tokens
below_tokens b = k.Symbol s.Less ∷ k.Number (pos 3) ∷ b

three_read : (b : Tokens) → IsSpan (IsExpr 1) false (int 3) (k.Number (pos 3) ∷ b) b
three_read b = spans (IsExpr 1) (int 3) _ b (IsPostfix.alone IsPrimary.number)

below_read : (b : Tokens)
    → IsExpr 2 false (op (dot (var "u") "g") Lt (int 3))
    (k.Word (codes "u") ∷ k.Symbol s.Dot ∷ k.Word (codes "g") ∷ below_tokens b) b
below_read b =
    relates (IsExpr 1) _ _ b
    (IsChain.with_links
    (spans (IsExpr 1) _ _ _ (has_attribute (IsExpr 1) (codes "u") (codes "g") (below_tokens b)))
    (AreMany.one (IsLink.link IsOperator.less (three_read b)) AreMany.none))

for_read : (b : Tokens)
    → Spells (for "u" (var "users") ∷ [])
    (k.Keyword w.For ∷ k.Word (codes "u") ∷ k.Keyword w.In ∷ k.Word (codes "users") ∷ b) b
for_read b = IsClause.for_in IsName.word (variable_read (codes "users") b)

filter_read : (b : Tokens)
    → Spells (filter_by (op (dot (var "u") "g") Lt (int 3)) ∷ [])
    (k.Keyword w.Filter ∷ k.Word (codes "u") ∷ k.Symbol s.Dot ∷ k.Word (codes "g") ∷ below_tokens b) b
filter_read b = IsClause.filter (below_read b)

path_read : (b : Tokens)
    → Spells (each_path ∷ [])
    (k.Keyword w.For ∷ k.Word (codes "v") ∷ k.Keyword w.In ∷ k.Number (pos 1) ∷ k.Symbol s.Range
    ∷ k.Number (pos 2) ∷ k.Keyword w.Outbound ∷ k.Word (codes "u") ∷ k.Word (codes "knows") ∷ b) b
path_read b =
    IsClause.traversal {names = record { vertex = codes "v"; edge = None; path = None }} {least = 1}
    {greatest = 2} {way = Outbound} {start = var "u"} {edges = codes "knows" ∷ []} {prune = None} {ms = []}
    (AreTraversalNames.vertex IsName.word) (IsDepth.between {m = 1} {n = 2}) IsDirection.outbound
    (variable_read (codes "u") (k.Word (codes "knows") ∷ b)) (AreSeparated.last IsName.word) IsPrune.none
    AreOptions.none

aggregate_read : (v f : List ℕ) (x : ExprTree) (a b : Tokens) → IsExpr 2 false x a (k.Symbol s.CloseParen ∷ b)
    → IsAggregate (IsExpr 2) false (build.aggregate_as v f (Some x))
    (k.Word v ∷ k.Symbol s.Assign ∷ k.Word f ∷ k.Symbol s.OpenParen ∷ a) b
aggregate_read v f x a b e = IsAggregate.aggregate IsName.word (IsOptional.some e)

abbrev sum_tokens : Tokens → Tokens
sum_tokens b =
    k.Word (codes "s") ∷ k.Symbol s.Assign ∷ k.Word (codes "SUM") ∷ k.Symbol s.OpenParen
    ∷ k.Word (codes "v") ∷ k.Symbol s.Dot ∷ k.Word (codes "n") ∷ k.Symbol s.CloseParen ∷ b

abbrev aggregate_tokens : Tokens → Tokens
aggregate_tokens b =
    k.Word (codes "c") ∷ k.Symbol s.Assign ∷ k.Word (codes "COUNT") ∷ k.Symbol s.OpenParen
    ∷ k.Word (codes "v") ∷ k.Symbol s.CloseParen ∷ k.Symbol s.Comma ∷ sum_tokens b

aggregates_read : (b : Tokens)
    → AreSeparated (IsAggregate (IsExpr 2) false)
    (agg "c" "COUNT" (Some (var "v")) ∷ agg "s" "SUM" (Some (dot (var "v") "n")) ∷ [])
    (aggregate_tokens b) b
aggregates_read b =
    AreSeparated.before
    (aggregate_read (codes "c") (codes "COUNT") (var "v") _ (k.Symbol s.Comma ∷ sum_tokens b)
    (variable_read (codes "v") (k.Symbol s.CloseParen ∷ k.Symbol s.Comma ∷ sum_tokens b)))
    (AreSeparated.last
    (aggregate_read (codes "s") (codes "SUM") (dot (var "v") "n") _ b
    (attribute_read (codes "v") (codes "n") (k.Symbol s.CloseParen ∷ b))))

groups_read : (b : Tokens)
    → Spells (groups ∷ [])
    (k.Keyword w.Collect ∷ k.Word (codes "g") ∷ k.Symbol s.Assign ∷ k.Word (codes "u") ∷ k.Symbol s.Dot
    ∷ k.Word (codes "g") ∷ k.Keyword w.Aggregate ∷ aggregate_tokens b) b
groups_read b =
    IsClause.collect
    {ls = build.assignment (codes "g") (dot (var "u") "g") ∷ []}
    {gs = agg "c" "COUNT" (Some (var "v")) ∷ agg "s" "SUM" (Some (dot (var "v") "n")) ∷ []} {into = None}
    (AreAny.some
    (AreSeparated.last
    (IsAssignment.assignment IsName.word
    (attribute_read (codes "u") (codes "g") (k.Keyword w.Aggregate ∷ aggregate_tokens b)))))
    (IsTail.parts (AreAggregates.some (aggregates_read b)) IsOptional.none) refl

-- ---- the query

item_read : (v : List ℕ) (b : Tokens) → IsExpr 1 false (build.name v) (k.Word v ∷ b) b
item_read v b = variable_stands (IsExpr 0) v b

abbrev answer_tokens : Tokens
answer_tokens =
    k.Symbol s.OpenBracket ∷ k.Word (codes "g") ∷ k.Symbol s.Comma ∷ k.Word (codes "c") ∷ k.Symbol s.Comma
    ∷ k.Word (codes "s") ∷ k.Symbol s.CloseBracket ∷ []

answer_read : IsExpr 2 false (items (var "g" ∷ var "c" ∷ var "s" ∷ [])) answer_tokens []
answer_read =
    stands (IsExpr 1) _ _ _
    (IsPostfix.alone
    (IsPrimary.list {xs = var "g" ∷ var "c" ∷ var "s" ∷ []}
    (AreItems.some
    (AreSeparated.before (item_read (codes "g") _)
    (AreSeparated.before (item_read (codes "c") _) (AreSeparated.last (item_read (codes "s") _)))))))

-- a clause before the others
before : (c : ClauseTree) (cs : List ClauseTree) (a b d : Tokens) → Spells (c ∷ []) a b
    → AreClauses (IsExpr 2) false cs b d → AreClauses (IsExpr 2) false (c ∷ cs) a d
before c cs a b d one others = AreClauses.more {cs = c ∷ []} {ds = cs} one others

abbrev returned : Tokens
returned = k.Keyword w.Return ∷ answer_tokens

clauses_read : AreClauses (IsExpr 2) false made_clauses (kinds_of made_tokens) returned
clauses_read =
    before _ _ _ _ _ (for_read _)
    (before _ _ _ _ _ (filter_read _)
    (before _ _ _ _ _ (path_read _) (before _ _ _ _ _ (groups_read returned) AreClauses.none)))

pub made_spelled : Tree (kinds_of made_tokens) made_query
made_spelled = (2, IsTop.plain (IsQuery.query {cs = made_clauses} clauses_read IsDistinct.plain answer_read))
