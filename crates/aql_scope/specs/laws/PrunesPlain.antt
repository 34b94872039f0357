-- No PRUNE of a query without a fault has a subquery, and no expression where a subquery may not stand.
use Rattle.std.proofs.Common.{◌≡◌, List, [], ◌∷◌, Bool, true, false, refl, nat_le}
use Rattle.std.specs.Prelude.{Option, None, codes}
use Rattle.aql_func.specs.Aggregates.{aggregate_named}
use Rattle.aql_tree.specs.declared.syntax.Ident.{Ident}
use Rattle.aql_tree.specs.Tree.{ExprTree, literal, variable, current, array_literal, object_literal, access, function_call, unary_of, chain, array_comparison, ternary, range_of, subquery, ExprTrees, no_exprs, expr_then, MaybeExpr, no_expr, one_expr, MemberTrees, no_members, named_then, computed_then, StepTrees, no_steps, name_then, at_then, inline_then, LinkTrees, no_links, link_then, ClauseTree, for_each, for_documents, traversal, filter_by, let_be, sort_by, limit, collect, AggregateTrees, no_aggregates, aggregate_then, IntoTree, no_into, into, ClauseTrees, no_clauses, clause_then, QueryTree, query}
use Rattle.aql_meaning.specs.Plain.{IsPlain, AllPlain, MaybePlain, MembersPlain, StepsPlain, LinksPlain}
use Rattle.aql_meaning.specs.Visible.{onto, aggregate_vars}
use Rattle.aql_scope.specs.Prunes.{ExprPrunes, ExprsPrunes, MaybePrunes, MembersPrunes, StepsPrunes, LinksPrunes, AggregatesPrunes, IntoPrunes, ClausePrunes, ClausesPrunes, PrunesPlain}
use Rattle.aql_scope.specs.declared.faults.ScopeFault.{ScopeFault}
use Rattle.aql_scope.specs.declared.faults.ScopeFault.TheVariants.{BadOption, SubqueryNotAllowed}
use Rattle.aql_scope.specs.Faults.{Context, visible_variables, inline, within_subquery, after_clause, after_clauses, first, unless, new_name, new_names, known_collections, edge_collections, aggregate_fault, traversal_variables, in_expr, in_exprs, in_maybe, in_members, in_steps, in_links, in_criteria, in_aggregates, in_into, in_clause, in_clauses, in_query}
use Rattle.aql_scope.specs.laws.First.{first_left, first_right, unless_none}

-- a part at this place has no subquery in a PRUNE, by R, and none at all where none may stand, by S
record Clean (p : Context) (R S : Type 0) : Type 0 where
  pub prunes : R
  pub plain : p.lifts ≡ false → S

each : {R S : Type 0} {f g : Option ScopeFault} → first f g ≡ None → (f ≡ None → R) → (g ≡ None → S) → R × S
each {f = f} {g = g} h k m = (k (first_left f g h), m (first_right f g h))

all_three : {R S T : Type 0} {f g e : Option ScopeFault} → first f (first g e) ≡ None → (f ≡ None → R)
    → (g ≡ None → S) → (e ≡ None → T) → R × S × T
all_three h k m n = let a = each h k (λ i. each i m n) in (a.0, a.1.0, a.1.1)

both : {p : Context} {R S U V : Type 0} {f g : Option ScopeFault} → first f g ≡ None
    → (f ≡ None → Clean p R U) → (g ≡ None → Clean p S V) → Clean p (R × S) (U × V)
both h k m = let a = each h k m in
    record { prunes = (a.0.prunes, a.1.prunes); plain = λ l. (a.0.plain l, a.1.plain l) }

three : {p : Context} {R S T U V W : Type 0} {f g e : Option ScopeFault} → first f (first g e) ≡ None
    → (f ≡ None → Clean p R U) → (g ≡ None → Clean p S V) → (e ≡ None → Clean p T W)
    → Clean p (R × S × T) (U × V × W)
three h k m n = let a = all_three h k m n in record {
  prunes = (a.0.prunes, a.1.prunes, a.2.prunes);
  plain = λ l. (a.0.plain l, a.1.plain l, a.2.plain l);
}

of_inline : {p : Context} {R S : Type 0} → Clean (inline p) R S → Clean p R S
of_inline k = record { prunes = k.prunes; plain = λ l. k.plain refl }

nothing : {p : Context} → Clean p (Unit {0}) (Unit {0})
nothing = record { prunes = tt; plain = λ l. tt }

no_subquery : (lifts : Bool) (g : Option ScopeFault) → lifts ≡ false
    → first (unless lifts SubqueryNotAllowed) g ≡ None → ⊥
no_subquery true g l h = cc
no_subquery false g l h = let e = unless_none false SubqueryNotAllowed (first_left _ g h) in cc

mutual
  clean : (e : ExprTree) (p : Context) → in_expr p e ≡ None → Clean p (ExprPrunes e) (IsPlain e)
  clean (literal v) p h = nothing
  clean (variable x) p h = nothing
  clean current p h = nothing
  clean (array_literal es) p h = clean_exprs es p h
  clean (object_literal ms) p h = clean_members ms p h
  clean (access e ss) p h = both h (clean e p) (clean_steps ss p)
  clean (function_call name es) p h = clean_exprs es p (first_right _ _ h)
  clean (unary_of op e) p h = clean e p h
  clean (chain e ls) p h = both h (clean e p) (clean_links ls p)
  clean (array_comparison e kind op f) p h = both h (clean e p) (clean f p)
  clean (ternary test chosen other) p h = three h (clean test p) (clean_maybe chosen p) (clean other p)
  clean (range_of e f) p h = both h (clean e p) (clean f p)
  clean (subquery q) p h = record {
    prunes = no_fault_plain_prunes q (within_subquery p) (first_right _ _ h);
    plain = λ l. absurd (no_subquery p.lifts (in_query (within_subquery p) q) l h);
  }

  clean_exprs : (es : ExprTrees) (p : Context) → in_exprs p es ≡ None → Clean p (ExprsPrunes es) (AllPlain es)
  clean_exprs no_exprs p h = nothing
  clean_exprs (expr_then e es) p h = both h (clean e p) (clean_exprs es p)

  clean_maybe : (m : MaybeExpr) (p : Context) → in_maybe p m ≡ None → Clean p (MaybePrunes m) (MaybePlain m)
  clean_maybe no_expr p h = nothing
  clean_maybe (one_expr e) p h = clean e p h

  clean_members : (ms : MemberTrees) (p : Context) → in_members p ms ≡ None
      → Clean p (MembersPrunes ms) (MembersPlain ms)
  clean_members no_members p h = nothing
  clean_members (named_then name e ms) p h = both h (clean e p) (clean_members ms p)
  clean_members (computed_then k e ms) p h = three h (clean k p) (clean e p) (clean_members ms p)

  clean_steps : (ss : StepTrees) (p : Context) → in_steps p ss ≡ None
      → Clean p (StepsPrunes ss) (StepsPlain ss)
  clean_steps no_steps p h = nothing
  clean_steps (name_then name ss) p h = clean_steps ss p h
  clean_steps (at_then e ss) p h = both h (clean e p) (clean_steps ss p)
  clean_steps (inline_then filter gives ss) p h =
      three h (λ i. of_inline (clean_maybe filter (inline p) i))
      (λ i. of_inline (clean_maybe gives (inline p) i)) (clean_steps ss p)

  clean_links : (ls : LinkTrees) (p : Context) → in_links p ls ≡ None
      → Clean p (LinksPrunes ls) (LinksPlain ls)
  clean_links no_links p h = nothing
  clean_links (link_then op e ls) p h = both h (clean e p) (clean_links ls p)

  prunes_criteria : (es : ExprTrees) (p : Context) (earlier xs : List Ident)
      → in_criteria p earlier xs es ≡ None → ExprsPrunes es
  prunes_criteria no_exprs p earlier xs h = tt
  prunes_criteria (expr_then e es) p earlier [] h =
      each h (λ i. (clean e p i).prunes) (prunes_criteria es p earlier [])
  prunes_criteria (expr_then e es) p earlier (x ∷ xs) h =
      each (first_right (new_name (visible_variables p) earlier x) _ h) (λ i. (clean e p i).prunes)
      (prunes_criteria es p (x ∷ earlier) xs)

  prunes_aggregates : (gs : AggregateTrees) (p : Context) (earlier : List Ident)
      → in_aggregates p earlier gs ≡ None → AggregatesPrunes gs
  prunes_aggregates no_aggregates p earlier h = tt
  prunes_aggregates (aggregate_then x name e gs) p earlier h =
      each (first_right (aggregate_fault (aggregate_named name) name e) _
      (first_right (new_name (visible_variables p) earlier x) _ h)) (λ i. (clean_maybe e p i).prunes)
      (prunes_aggregates gs p (x ∷ earlier))

  prunes_into : (i : IntoTree) (p : Context) (earlier : List Ident) → in_into p earlier i ≡ None
      → IntoPrunes i
  prunes_into no_into p earlier h = tt
  prunes_into (into x what keep) p earlier h =
      let rest = first_right (new_name (visible_variables p) earlier x) _ h in
      (clean_maybe what p (first_left _ _ rest)).prunes

  prunes_clause : (c : ClauseTree) (p : Context) → in_clause p c ≡ None → ClausePrunes c
  prunes_clause (for_each x (variable c)) p h = tt
  prunes_clause (for_each x e) p h =
      (clean e p (first_right (new_name (visible_variables p) [] x) _ h)).prunes
  prunes_clause (for_documents x c) p h = tt
  prunes_clause (traversal w e cs prune settings) p h =
      let q = inline (after_clause (traversal w e cs prune settings) p) in
      let named = new_names (visible_variables p) [] (traversal_variables w) in
      each (first_right (unless (nat_le w.min w.max) (BadOption (codes "depth"))) _ (first_right named _ h))
      (λ i. (clean e p i).prunes)
      (λ i. (clean_maybe prune q (first_left _ _ (first_right (edge_collections p.held cs) _ i))).plain refl)
  prunes_clause (filter_by e) p h = (clean e p h).prunes
  prunes_clause (let_be x e) p h =
      (clean e p (first_right (new_name (visible_variables p) [] x) _ h)).prunes
  prunes_clause (sort_by directions es) p h = (clean_exprs es p h).prunes
  prunes_clause (limit offset n) p h = tt
  prunes_clause (collect xs es gs i) p h =
      all_three h (prunes_criteria es p [] xs) (prunes_aggregates gs p (onto xs []))
      (prunes_into i p (onto (aggregate_vars gs) (onto xs [])))

  prunes_clauses : (cs : ClauseTrees) (p : Context) → in_clauses p cs ≡ None → ClausesPrunes cs
  prunes_clauses no_clauses p h = tt
  prunes_clauses (clause_then c cs) p h = each h (prunes_clause c p) (prunes_clauses cs (after_clause c p))

  pub no_fault_plain_prunes : (q : QueryTree) (p : Context) → in_query p q ≡ None → PrunesPlain q
  no_fault_plain_prunes (query with cs distinct e) p h =
      each (first_right (known_collections p.held with) _ h) (prunes_clauses cs p)
      (λ i. (clean e (after_clauses cs p) i).prunes)

pub plain_maybe : (m : MaybeExpr) (p : Context) → p.lifts ≡ false → in_maybe p m ≡ None → MaybePlain m
plain_maybe m p l h = (clean_maybe m p h).plain l
