-- Which tokens spell which query: the whole grammar of a query's text, as the AQL manual has it for
-- queries that only read. A list of tokens has at most one tree.
use Rattle.std.specs.Prelude.{ℕ, zero, suc, Bool, false, List, [], ◌∷◌}
use Rattle.aql_lex.specs.declared.kinds.TokenKind.TheVariants as k
use Rattle.aql_lex.specs.declared.vocabulary.Keyword.TheVariants as w
use Rattle.aql_tree.specs.Tree.{ExprTree, QueryTree}
use Rattle.aql_grammar.specs.Kinds.{Tokens}
use Rattle.aql_grammar.specs.Spelling.{IsName, AreSeparated}
use Rattle.aql_grammar.specs.Clauses.{IsQuery}
use Rattle.aql_grammar.specs.Expressions.{IsConditional}

-- an expression in which less than so many nest
abbrev pub IsExpr : ℕ → Bool → ExprTree → Tokens → Tokens → Type 0
IsExpr zero inside x a b = ⊥
IsExpr (suc depth) inside x a b = IsConditional (IsExpr depth) inside x a b

-- ["WITH" Name {"," Name}] Query
pub data IsTop (E : Bool → ExprTree → Tokens → Tokens → Type 0) : QueryTree → Tokens → Tokens → Type 0 where
  plain : {q : QueryTree} {a b : Tokens} → IsQuery E false [] q a b → IsTop E q a b
  with_list : {names : List (List ℕ)} {q : QueryTree} {a b c : Tokens} → AreSeparated IsName names a b
      → IsQuery E false names q b c → IsTop E q (k.Keyword w.With ∷ a) c

-- the tokens spell this query, and nothing stands after it
abbrev pub Tree : Tokens → QueryTree → Type 0
Tree tokens q = (depth : ℕ) × IsTop (IsExpr depth) q tokens []
