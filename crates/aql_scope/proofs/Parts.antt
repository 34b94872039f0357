-- The parts of trees that are lists: each with its list, and how one more part is lifted.
use Rattle.std.proofs.Common.{◌≡◌, List, [], ◌∷◌, map, refl, ap}
use Rattle.aql_tree.specs.declared.syntax.Ident.{Ident}
use Rattle.aql_tree.specs.Tree.{ExprTree, ExprTrees, no_exprs, expr_then, no_members, named_then, computed_then, no_steps, name_then, at_then, inline_then, LinkTrees, no_links, link_then, AggregateTrees, no_aggregates, aggregate_then, ClauseTree, no_clauses, clause_then}
use Rattle.aql_tree.specs.View.{trees, maybe, MemberPart, named, computed, members, StepPart, name, at, inline, steps, LinkPart, links, KeyPart, LetPart, AggregatePart, aggregates, clauses}
use Rattle.aql_scope.specs.Lifts.{member_then, step_then}
use Rattle.aql_scope.specs.laws.Turns.{before}

pub before_trees : (es : List ExprTree) → before expr_then es no_exprs ≡ trees es
before_trees [] = refl
before_trees (e ∷ es) = ap (expr_then e) (before_trees es)

pub before_members : (ms : List MemberPart) → before member_then ms no_members ≡ members ms
before_members [] = refl
before_members (named n e ∷ ms) = ap (named_then n e) (before_members ms)
before_members (computed k e ∷ ms) = ap (computed_then k e) (before_members ms)

pub before_steps : (ss : List StepPart) → before step_then ss no_steps ≡ steps ss
before_steps [] = refl
before_steps (name n ∷ ss) = ap (name_then n) (before_steps ss)
before_steps (at e ∷ ss) = ap (at_then e) (before_steps ss)
before_steps (inline f p ∷ ss) = ap (inline_then (maybe f) (maybe p)) (before_steps ss)

abbrev pub link_part_then : LinkPart → LinkTrees → LinkTrees
link_part_then l ls = link_then l.0 l.1 ls

pub before_links : (ls : List LinkPart) → before link_part_then ls no_links ≡ links ls
before_links [] = refl
before_links (l ∷ ls) = ap (link_then l.0 l.1) (before_links ls)

abbrev pub key_then : KeyPart → ExprTrees → ExprTrees
key_then k es = expr_then k.0 es

pub before_keys : (ks : List KeyPart) → before key_then ks no_exprs ≡ trees (map (λ k. k.0) ks)
before_keys [] = refl
before_keys (k ∷ ks) = ap (expr_then k.0) (before_keys ks)

abbrev pub Criteria : Type 0
Criteria = List Ident × ExprTrees

abbrev pub let_then : LetPart → Criteria → Criteria
let_then l c = (l.0 ∷ c.0, expr_then l.1 c.1)

pub before_lets : (ls : List LetPart)
    → before let_then ls ([], no_exprs) ≡ (map (λ l. l.0) ls, trees (map (λ l. l.1) ls))
before_lets [] = refl
before_lets (l ∷ ls) = ap (let_then l) (before_lets ls)

abbrev pub aggregate_part_then : AggregatePart → AggregateTrees → AggregateTrees
aggregate_part_then a gs = aggregate_then a.0 a.1 (maybe a.2) gs

pub before_aggregates : (gs : List AggregatePart)
    → before aggregate_part_then gs no_aggregates ≡ aggregates gs
before_aggregates [] = refl
before_aggregates (a ∷ gs) = ap (aggregate_then a.0 a.1 (maybe a.2)) (before_aggregates gs)

pub before_clauses : (cs : List ClauseTree) → before clause_then cs no_clauses ≡ clauses cs
before_clauses [] = refl
before_clauses (c ∷ cs) = ap (clause_then c) (before_clauses cs)
