-- How tokens spell a clause and a query (AQL manual, High-level operations, and Graphs, Traversals).
-- `E` is the rule for expressions one bracket deeper, and `inside` says whether the query stands in
-- an inline expression.
use Rattle.std.specs.Prelude.{◌≡◌, ℕ, pos, min, Bool, true, false, List, [], ◌∷◌, Option, Some, None}
use Rattle.std.specs.Prelude.{◌++◌, codes}
use Rattle.aql_lex.specs.declared.kinds.TokenKind.TheVariants as k
use Rattle.aql_lex.specs.declared.vocabulary.Keyword.TheVariants as w
use Rattle.aql_lex.specs.declared.vocabulary.Symbol.TheVariants as s
use Rattle.aql_tree.specs.declared.syntax.Direction.{Direction}
use Rattle.aql_tree.specs.declared.syntax.Direction.TheVariants as direction
use Rattle.aql_tree.specs.Tree.{ExprTree, ClauseTree, filter_by, QueryTree}
use Rattle.aql_tree.specs.Tree as tree
use Rattle.aql_tree.specs.View.{MemberPart, KeyPart, sort, LetPart, AggregatePart, IntoPart, collect_clause}
use Rattle.aql_tree.specs.View.{traversal_clause}
use Rattle.aql_tree.specs.Build as e
use Rattle.aql_grammar.specs.Kinds.{Tokens}
use Rattle.aql_grammar.specs.Spelling.{IsName, IsWord, IsOptional, AreSeparated, AreAny}
use Rattle.aql_grammar.specs.Objects.{IsObject}

-- Name ["," Name ["," Name]]
pub data AreTraversalNames : e.TraversalNames → Tokens → Tokens → Type 0 where
  vertex : {v : List ℕ} {a b : Tokens} → IsName v a b
      → AreTraversalNames (record { vertex = v; edge = None; path = None }) a b
  edge : {v x : List ℕ} {a b c : Tokens} → IsName v a (k.Symbol s.Comma ∷ b) → IsName x b c
      → AreTraversalNames (record { vertex = v; edge = Some x; path = None }) a c
  path : {v x p : List ℕ} {a b c d : Tokens} → IsName v a (k.Symbol s.Comma ∷ b)
      → IsName x b (k.Symbol s.Comma ∷ c) → IsName p c d
      → AreTraversalNames (record { vertex = v; edge = Some x; path = Some p }) a d

-- a number of depth is at most the greatest of 32 bits
abbrev pub depth_number : ℕ → ℕ
depth_number n = min n 4294967295

-- [Number [".." Number]], the least and the greatest depth
pub data IsDepth : ℕ → ℕ → Tokens → Tokens → Type 0 where
  unsaid : {a : Tokens} → IsDepth 1 1 a a
  exact : {n : ℕ} {b : Tokens} → IsDepth (depth_number n) (depth_number n) (k.Number (pos n) ∷ b) b
  between : {m n : ℕ} {b : Tokens} → IsDepth (depth_number m) (depth_number n)
      (k.Number (pos m) ∷ k.Symbol s.Range ∷ k.Number (pos n) ∷ b) b

-- "OUTBOUND" | "INBOUND" | "ANY"
pub data IsDirection : Direction → Tokens → Tokens → Type 0 where
  outbound : {b : Tokens} → IsDirection direction.Outbound (k.Keyword w.Outbound ∷ b) b
  inbound : {b : Tokens} → IsDirection direction.Inbound (k.Keyword w.Inbound ∷ b) b
  any : {b : Tokens} → IsDirection direction.Any (k.Keyword w.Any ∷ b) b

-- ["DISTINCT"]
pub data IsDistinct : Bool → Tokens → Tokens → Type 0 where
  plain : {a : Tokens} → IsDistinct false a a
  distinct : {a : Tokens} → IsDistinct true (k.Keyword w.Distinct ∷ a) a

-- where COLLECT says anything
abbrev pub says : List LetPart → List AggregatePart → Option IntoPart → Bool
says [] [] None = false
says groups aggregates into = true

module _ (E : Bool → ExprTree → Tokens → Tokens → Type 0) (inside : Bool) where
  -- Name "=" Expr
  pub data IsAssignment : LetPart → Tokens → Tokens → Type 0 where
    assignment : {v : List ℕ} {x : ExprTree} {a b c : Tokens} → IsName v a (k.Symbol s.Assign ∷ b)
        → E inside x b c → IsAssignment (e.assignment v x) a c

  -- the same, as a clause
  pub data IsLet : ClauseTree → Tokens → Tokens → Type 0 where
    let_be : {v : List ℕ} {x : ExprTree} {a b c : Tokens} → IsName v a (k.Symbol s.Assign ∷ b)
        → E inside x b c → IsLet (e.let_in v x) a c

  -- Expr ["ASC" | "DESC"]
  pub data IsSortKey : KeyPart → Tokens → Tokens → Type 0 where
    unsaid : {x : ExprTree} {a b : Tokens} → E inside x a b → IsSortKey (x, false) a b
    ascending : {x : ExprTree} {a b : Tokens} → E inside x a (k.Keyword w.Asc ∷ b)
        → IsSortKey (x, false) a b
    descending : {x : ExprTree} {a b : Tokens} → E inside x a (k.Keyword w.Desc ∷ b)
        → IsSortKey (x, true) a b

  -- Name "=" Word "(" [Expr] ")"
  pub data IsAggregate : AggregatePart → Tokens → Tokens → Type 0 where
    aggregate : {v f : List ℕ} {x : Option ExprTree} {a b c : Tokens}
        → IsName v a (k.Symbol s.Assign ∷ k.Word f ∷ k.Symbol s.OpenParen ∷ b)
        → IsOptional (E inside) x b (k.Symbol s.CloseParen ∷ c) → IsAggregate (e.aggregate_as v f x) a c

  -- "INTO" Name ["=" Expr | "KEEP" Name {"," Name}]
  pub data IsInto : IntoPart → Tokens → Tokens → Type 0 where
    alone : {v : List ℕ} {a b : Tokens} → IsName v a b
        → IsInto (e.collect_into v None []) (k.Keyword w.Into ∷ a) b
    taking : {v : List ℕ} {x : ExprTree} {a b c : Tokens} → IsName v a (k.Symbol s.Assign ∷ b)
        → E inside x b c
        → IsInto (e.collect_into v (Some x) []) (k.Keyword w.Into ∷ a) c
    keeping : {v : List ℕ} {names : List (List ℕ)} {a b c d : Tokens} → IsName v a b
        → IsWord (codes "KEEP") b c → AreSeparated IsName names c d
        → IsInto (e.collect_into v None names) (k.Keyword w.Into ∷ a) d

  -- ["AGGREGATE" Agg {"," Agg}]
  pub data AreAggregates : List AggregatePart → Tokens → Tokens → Type 0 where
    none : {a : Tokens} → AreAggregates [] a a
    some : {gs : List AggregatePart} {a b : Tokens} → AreSeparated IsAggregate gs a b
        → AreAggregates gs (k.Keyword w.Aggregate ∷ a) b

  -- "WITH" "COUNT" "INTO" Name | ["AGGREGATE" ..] ["INTO" ..]
  pub data IsTail : List AggregatePart → Option IntoPart → Tokens → Tokens → Type 0 where
    count : {v : List ℕ} {a b c : Tokens} → IsWord (codes "COUNT") a (k.Keyword w.Into ∷ b) → IsName v b c
        → IsTail (e.aggregate_as v (codes "LENGTH") None ∷ []) None (k.Keyword w.With ∷ a) c
    parts : {gs : List AggregatePart} {into : Option IntoPart} {a b c : Tokens} → AreAggregates gs a b
        → IsOptional IsInto into b c → IsTail gs into a c

  -- ["PRUNE" Expr]
  pub data IsPrune : Option ExprTree → Tokens → Tokens → Type 0 where
    none : {a : Tokens} → IsPrune None a a
    some : {x : ExprTree} {a b c : Tokens} → IsWord (codes "PRUNE") a b → E inside x b c
        → IsPrune (Some x) a c

  -- ["OPTIONS" Object]
  pub data AreOptions : List MemberPart → Tokens → Tokens → Type 0 where
    none : {a : Tokens} → AreOptions [] a a
    some : {ms : List MemberPart} {a b c : Tokens} → IsWord (codes "OPTIONS") a b → IsObject E inside ms b c
        → AreOptions ms a c

  -- one clause, which LET may make several of
  pub data IsClause : List ClauseTree → Tokens → Tokens → Type 0 where
    for_in : {v : List ℕ} {x : ExprTree} {a b c : Tokens} → IsName v a (k.Keyword w.In ∷ b) → E inside x b c
        → IsClause (e.for_in v x ∷ []) (k.Keyword w.For ∷ a) c
    traversal : {names : e.TraversalNames} {least greatest : ℕ} {way : Direction} {start : ExprTree}
        {edges : List (List ℕ)} {prune : Option ExprTree} {ms : List MemberPart}
        {a b c d f g h i : Tokens} → AreTraversalNames names a (k.Keyword w.In ∷ b)
        → IsDepth least greatest b c
        → IsDirection way c d → E inside start d f
        → AreSeparated IsName edges f g → IsPrune prune g h → AreOptions ms h i
        → IsClause (traversal_clause (e.traversal names least greatest way start edges prune ms) ∷ [])
        (k.Keyword w.For ∷ a) i
    filter : {x : ExprTree} {a b : Tokens} → E inside x a b
        → IsClause (filter_by x ∷ []) (k.Keyword w.Filter ∷ a) b
    let_in : {cs : List ClauseTree} {a b : Tokens} → AreSeparated IsLet cs a b
        → IsClause cs (k.Keyword w.Let ∷ a) b
    sort_by : {ks : List KeyPart} {a b : Tokens} → AreSeparated IsSortKey ks a b
        → IsClause (sort ks ∷ []) (k.Keyword w.Sort ∷ a) b
    limit : {n : ℕ} {b : Tokens} → IsClause (tree.limit 0 n ∷ []) (k.Keyword w.Limit ∷ k.Number (pos n) ∷ b)
        b
    limit_from : {m n : ℕ} {b : Tokens} → IsClause (tree.limit m n ∷ [])
        (k.Keyword w.Limit ∷ k.Number (pos m) ∷ k.Symbol s.Comma ∷ k.Number (pos n) ∷ b) b
    collect : {ls : List LetPart} {gs : List AggregatePart} {into : Option IntoPart} {a b c : Tokens}
        → AreAny IsAssignment ls a b → IsTail gs into b c
        → says ls gs into ≡ true → IsClause (collect_clause (ls, gs, into) ∷ []) (k.Keyword w.Collect ∷ a) c

  -- {Clause}
  pub data AreClauses : List ClauseTree → Tokens → Tokens → Type 0 where
    none : {a : Tokens} → AreClauses [] a a
    more : {cs ds : List ClauseTree} {a b c : Tokens} → IsClause cs a b → AreClauses ds b c
        → AreClauses (cs ++ ds) a c

  -- {Clause} "RETURN" ["DISTINCT"] Expr, after the names of a WITH
  pub data IsQuery (with_list : List (List ℕ)) : QueryTree → Tokens → Tokens → Type 0 where
    query : {cs : List ClauseTree} {distinct : Bool} {x : ExprTree} {a b c d : Tokens}
        → AreClauses cs a (k.Keyword w.Return ∷ b) → IsDistinct distinct b c → E inside x c d
        → IsQuery with_list (e.query with_list cs distinct x) a d
