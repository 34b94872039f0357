-- The walk of scoping over a query: the numbers that a part takes lie one after the other and are the places
-- of its names, what scoping makes of it is lifted, and its variables are numbers where the visible ones are.
use Rattle.std.proofs.Common.{◌≡◌, ◌∙◌, ℕ, suc, ◌+◌, ◌≤◌, List, [], ◌∷◌, ◌++◌, map, length, length-append, arith}
use Rattle.std.specs.Prelude.{Option, Some, None, MatchOption, option_to_list}
use Rattle.std.specs.List.{AllByRecursion}
use Rattle.aql_value.specs.laws.Alls.{all_append}
use Rattle.aql_tree.specs.declared.syntax.Ident.{Ident}
use Rattle.aql_tree.specs.declared.syntax.Ident.TheVariants.{Name, Num}
use Rattle.aql_tree.specs.Tree.{TraversalShape, ExprTree, literal, variable, current, array_literal, object_literal, access, function_call, unary_of, chain, array_comparison, ternary, range_of, subquery, ExprTrees, no_exprs, expr_then, MaybeExpr, no_expr, one_expr, MemberTrees, no_members, named_then, computed_then, StepTrees, no_steps, name_then, at_then, inline_then, LinkTrees, no_links, link_then, ClauseTree, for_each, for_documents, traversal, filter_by, let_be, sort_by, limit, collect, AggregateTrees, no_aggregates, aggregate_then, IntoTree, no_into, into, ClauseTrees, no_clauses, clause_then, QueryTree, query}
use Rattle.aql_meaning.specs.Groups.{into_names}
use Rattle.aql_meaning.specs.Visible.{onto, aggregate_vars, into_var, vars_after}
use Rattle.aql_meaning.specs.Plain.{IsPlain, AllPlain, MaybePlain, MembersPlain, StepsPlain, LinksPlain}
use Rattle.aql_meaning.specs.Lifted.{IsNoName, AggregatesPlain, IntoPlain, ClauseLifted, ClausesLifted, IsLifted}
use Rattle.aql_meaning.specs.Uses.{Uses, uses, all_uses, maybe_uses, member_uses, step_uses, link_uses, aggregate_uses, into_uses}
use Rattle.aql_meaning.specs.Numbered.{IsNumber, UsesNumbers, ClauseNumbered, ClausesNumbered, IsNumbered}
use Rattle.aql_scope.specs.Numbering.{Numbering, number_of, idents, numbered_variable, from_name, text_of, number_after, after_traversal, traversal_names, variable_members}
use Rattle.aql_scope.specs.Lifting.{NumberedSubquery, Scoped, with_lets, append_clauses, expr, exprs, maybe, members, steps, links, criteria, aggregates, into_part, clause, clauses, scope_query}
use Rattle.aql_scope.specs.Theorem.{AreNumbers}
use Rattle.aql_scope.specs.laws.Alike.{NumbersAre, numbers_bind}
use Rattle.aql_scope.specs.laws.Named.{Named, none, next, number_more, named_le, named_from, named_all, named_given, named_numbers, Grown, same, fresh, grown_numbers, grown_later, grown_by, grown_one, grown_traversal, counted, counted_append}

-- ascending from n on, and below m
abbrev pub Within : ℕ → List NumberedSubquery → ℕ → Type 0
Within n [] m = n ≤ m
Within n (t ∷ ts) m = (n ≤ t.0) × Within (suc t.0) ts m

within_from : (n o : ℕ) (ts : List NumberedSubquery) (m : ℕ) → n ≤ o → Within o ts m → Within n ts m
within_from n o [] m h w = omega arith
within_from n o (t ∷ ts) m h w = (let k = w.0 in omega arith, w.1)

pub within_le : (n : ℕ) (ts : List NumberedSubquery) (m : ℕ) → Within n ts m → n ≤ m
within_le n [] m w = w
within_le n (t ∷ ts) m w = let k = w.0 in let l = within_le (suc t.0) ts m w.1 in omega arith

within_append : (n : ℕ) (ts us : List NumberedSubquery) (m l : ℕ) → Within n ts m → Within m us l
    → Within n (ts ++ us) l
within_append n [] us m l v w = within_from n m us l v w
within_append n (t ∷ ts) us m l v w = (v.0, within_append (suc t.0) ts us m l v.1 w)

-- the subqueries that were taken out are lifted
abbrev pub AllLifted : List NumberedSubquery → Type 0
AllLifted ts = AllByRecursion (λ (t : NumberedSubquery). IsLifted t.1) ts

-- they have numbers from 1 on, and so have their variables
abbrev pub AllNumbered : List NumberedSubquery → Type 0
AllNumbered ts = AllByRecursion (λ (t : NumberedSubquery). IsNumber (Num t.0) × IsNumbered t.1) ts

pub record Used (us : Uses) : Type 0 where
  pub all : UsesNumbers us

abbrev pub Numbers : Numbering → Type 0
Numbers names = NumbersAre (λ k. IsNumber (Num k)) names

-- Of a part, where n is the next number and m the one after it: `lifted` with R says that what scoping makes
-- of it is lifted, `numbered` with U that its variables are numbers, under what H says of the visible names.
pub record Walked (H : Type 0) (n : ℕ) (R U : Type 0) (ts : List NumberedSubquery) (said : List (List ℕ))
    (m : ℕ) : Type 0 where
  pub within : Within n ts m
  pub placed : n + length said ≡ m
  pub lifted : R × AllLifted ts
  pub numbered : H → IsNumber (Num n) → U × AllNumbered ts

abbrev pub Walks : {T : Type 0} → Type 0 → ℕ → Scoped T → (T → Type 0) → (T → Type 0) → Type 0
Walks H n s R U = Walked H n (R s.tree) (U s.tree) s.subqueries s.said s.next

-- of a part of an expression, with what it uses
abbrev pub WalksPart : {T : Type 0} → Numbering → ℕ → Scoped T → (T → Type 0) → (T → Uses) → Type 0
WalksPart names n s R us = Walks (Numbers names) n s R (λ t. Used (us t))

-- ---- how the walk goes on

at_once : {H R U : Type 0} {n : ℕ} → R → (H → U) → Walked H n R U [] [] n
at_once r u = record {
  within = omega arith;
  placed = omega arith;
  lifted = (r, tt);
  numbered = λ a h. (u a, tt);
}

module _ {H R U : Type 0} {n m : ℕ} {ts : List NumberedSubquery} {said : List (List ℕ)} where
  pub walked_le : Walked H n R U ts said m → n ≤ m
  walked_le w = within_le n ts m w.within

  walked_as : {G S V : Type 0} → (G → H) → (R → S) → (G → IsNumber (Num n) → U → V)
      → Walked H n R U ts said m → Walked G n S V ts said m
  walked_as e f g w = record {
    within = w.within;
    placed = w.placed;
    lifted = (f w.lifted.0, w.lifted.1);
    numbered = λ a h. let k = w.numbered (e a) h in (g a h k.0, k.1);
  }

  -- after declared variables
  after : {k : ℕ} (xs : List (List ℕ)) → k + length xs ≡ n → Walked H n R U ts said m
      → Walked H k R U ts (xs ++ said) m
  after {k} xs e w =
      let l : k ≤ n = omega arith in record {
        within = within_from k n ts m l w.within;
        placed = let f = w.placed in omega (arith, length-append xs said);
        lifted = w.lifted;
        numbered = λ a h. w.numbered a (number_more k n l h);
      }

declared : {H R U : Type 0} {n m : ℕ} {ts : List NumberedSubquery} {said : List (List ℕ)} (x : List ℕ)
    → Walked H (suc n) R U ts said m → Walked H n R U ts (x ∷ said) m
declared {n = n} x w = let e : n + 1 ≡ suc n = omega arith in after (x ∷ []) e w

both : {H R S : Type 0} {n m l : ℕ} {us vs : Uses} {ts ws : List NumberedSubquery} {said more : List (List ℕ)}
    → Walked H n R (Used us) ts said m → Walked H m S (Used vs) ws more l
    → Walked H n (R × S) (Used (us ++ vs)) (ts ++ ws) (said ++ more) l
both {n = n} {m} {l} {us} {vs} {ts} {ws} {said} {more} s t = record {
  within = within_append n ts ws m l s.within t.within;
  placed = let e = s.placed in let f = t.placed in omega (arith, length-append said more);
  lifted = ((s.lifted.0, t.lifted.0), all_append _ ts ws s.lifted.1 t.lifted.1);
  numbered = λ a h.
      let j = s.numbered a h in
      let k = t.numbered a (number_more n m (walked_le s) h) in
      (record { all = all_append _ us vs j.0.all k.0.all }, all_append _ ts ws j.1 k.1);
}

three : {H R S T : Type 0} {n m l o : ℕ} {us vs ws : Uses} {ts bs cs : List NumberedSubquery}
    {said more last : List (List ℕ)} → Walked H n R (Used us) ts said m → Walked H m S (Used vs) bs more l
    → Walked H l T (Used ws) cs last o
    → Walked H n (R × S × T) (Used (us ++ (vs ++ ws))) (ts ++ (bs ++ cs)) (said ++ (more ++ last)) o
three s t u = walked_as (λ a. a) (λ p. (p.0, p.1.0, p.1.1)) (λ a h u. u) (both s (both t u))

-- ---- variables

numbered_plain : (number : Option ℕ) → IsPlain (numbered_variable number)
numbered_plain (Some k) = tt
numbered_plain None = tt

name_used : (names : Numbering) → Numbers names → (x : Ident)
    → UsesNumbers (uses (numbered_variable (number_of names x)))
name_used names a x = by (number_of names x) (a x)
  where
    by : (o : Option ℕ) → MatchOption o (Unit {0}) (λ k. IsNumber (Num k))
        → UsesNumbers (uses (numbered_variable o))
    by None h = tt
    by (Some k) h = (h, tt)

-- a variable has become a number
no_name : (names : Numbering) (e : ExprTree) (n : ℕ) → IsNoName (expr names n e).tree
no_name names (variable x) n = by (number_of names x)
  where
    by : (number : Option ℕ) → IsNoName (numbered_variable number)
    by (Some k) = tt
    by None = tt
no_name names e n = tt

object_plain : (names : Numbering) (xs : List (List ℕ)) → MembersPlain (variable_members names xs)
object_plain names [] = tt
object_plain names (x ∷ xs) = (numbered_plain (number_of names (Name x)), object_plain names xs)

object_used : (names : Numbering) (xs : List (List ℕ)) → Numbers names
    → UsesNumbers (member_uses (variable_members names xs))
object_used names [] a = tt
object_used names (x ∷ xs) a = all_append _ (uses (numbered_variable (number_of names (Name x)))) _
    (name_used names a (Name x)) (object_used names xs a)

access_used : (e : ExprTree) (ss : StepTrees) → UsesNumbers (uses e ++ step_uses ss)
    → UsesNumbers (uses (access e ss))
access_used (variable x) (name_then name ss) h = h
access_used e ss h = h

-- ---- clauses

from_name_fine : (n : ℕ) (number : Option ℕ) (c : Ident) → ClauseLifted (from_name n number c)
    × (IsNumber (Num n) → MatchOption number (Unit {0}) (λ k. IsNumber (Num k))
    → ClauseNumbered (from_name n number c))
from_name_fine n (Some k) c = ((tt, tt), λ h j. ((h, tt), (j, tt)))
from_name_fine n None (Name c) = (tt, λ h j. ((h, tt), tt))
from_name_fine n None (Num c) = ((tt, tt), λ h j. ((h, tt), tt))

let_fine : (x : Ident) (e : ExprTree) → IsPlain e → ClauseLifted (let_be x e)
    × (IsNumber x → UsesNumbers (uses e) → ClauseNumbered (let_be x e))
let_fine x (subquery q) p = absurd p
let_fine x e p = (p, λ h k. ((h, tt), k))

lets_fine : (ts : List NumberedSubquery) (cs : ClauseTrees)
    → (AllLifted ts → ClausesLifted cs → ClausesLifted (with_lets ts cs))
    × (AllNumbered ts → ClausesNumbered cs → ClausesNumbered (with_lets ts cs))
lets_fine [] cs = (λ g h. h, λ g h. h)
lets_fine (t ∷ ts) cs =
    let more = lets_fine ts cs in (λ g h. (g.0, more.0 g.1 h), λ g h. (g.0, more.1 g.1 h))

followed_fine : (cs ds : ClauseTrees)
    → (ClausesLifted cs → ClausesLifted ds → ClausesLifted (append_clauses cs ds))
    × (ClausesNumbered cs → ClausesNumbered ds → ClausesNumbered (append_clauses cs ds))
followed_fine no_clauses ds = (λ h k. k, λ h k. k)
followed_fine (clause_then c cs) ds =
    let more = followed_fine cs ds in (λ h k. (h.0, more.0 h.1 k), λ h k. (h.0, more.1 h.1 k))

onto_numbers : (xs vars : List Ident) → AllByRecursion IsNumber xs → AllByRecursion IsNumber vars
    → AllByRecursion IsNumber (onto xs vars)
onto_numbers [] vars h k = k
onto_numbers (x ∷ xs) vars h k = onto_numbers xs (x ∷ vars) h.1 (h.0, k)

placed_traversal : (n : ℕ) (w : TraversalShape)
    → n + length (map text_of (w.vertex ∷ (option_to_list w.edge ++ option_to_list w.path)))
    ≡ after_traversal n w
placed_traversal n w =
    counted (w.vertex ∷ (option_to_list w.edge ++ option_to_list w.path)) n
    ∙ counted_append (option_to_list w.edge) (option_to_list w.path) (suc n)

-- ---- the walk

mutual
  pub walked : (e : ExprTree) (names : Numbering) (n : ℕ) → WalksPart names n (expr names n e) IsPlain uses
  walked (literal v) names n = at_once tt (λ a. record { all = tt })
  walked (variable x) names n =
      at_once (numbered_plain (number_of names x)) (λ a. record { all = name_used names a x })
  walked current names n = at_once tt (λ a. record { all = tt })
  walked (array_literal es) names n = walked_exprs es names n
  walked (object_literal ms) names n = walked_members ms names n
  walked (access e ss) names n =
      walked_as (λ a. a) (λ p. p) (λ a h u. record { all = access_used (expr names n e).tree _ u.all })
      (both (walked e names n) (walked_steps ss names _))
  walked (function_call name es) names n = walked_exprs es names n
  walked (unary_of op e) names n = walked e names n
  walked (chain e ls) names n = both (walked e names n) (walked_links ls names _)
  walked (array_comparison e kind op f) names n = both (walked e names n) (walked f names _)
  walked (ternary test first other) names n =
      three (walked test names n) (walked_maybe first names _) (walked other names _)
  walked (range_of e f) names n = both (walked e names n) (walked f names _)
  walked (subquery q) names n =
      let w = walked_query q names (suc n) in record {
        within = (omega arith, w.within);
        placed = let e = w.placed in omega arith;
        lifted = (tt, (w.lifted.0, tt));
        numbered = λ a h. (record { all = (h, tt) }, ((h, (w.numbered a tt).0), tt));
      }

  pub walked_exprs : (es : ExprTrees) (names : Numbering) (n : ℕ)
      → WalksPart names n (exprs names n es) AllPlain all_uses
  walked_exprs no_exprs names n = at_once tt (λ a. record { all = tt })
  walked_exprs (expr_then e es) names n = both (walked e names n) (walked_exprs es names _)

  pub walked_maybe : (m : MaybeExpr) (names : Numbering) (n : ℕ)
      → WalksPart names n (maybe names n m) MaybePlain maybe_uses
  walked_maybe no_expr names n = at_once tt (λ a. record { all = tt })
  walked_maybe (one_expr e) names n = walked e names n

  walked_members : (ms : MemberTrees) (names : Numbering) (n : ℕ)
      → WalksPart names n (members names n ms) MembersPlain member_uses
  walked_members no_members names n = at_once tt (λ a. record { all = tt })
  walked_members (named_then name e ms) names n = both (walked e names n) (walked_members ms names _)
  walked_members (computed_then k e ms) names n =
      three (walked k names n) (walked e names _) (walked_members ms names _)

  walked_steps : (ss : StepTrees) (names : Numbering) (n : ℕ)
      → WalksPart names n (steps names n ss) StepsPlain step_uses
  walked_steps no_steps names n = at_once tt (λ a. record { all = tt })
  walked_steps (name_then name ss) names n = walked_steps ss names n
  walked_steps (at_then e ss) names n = both (walked e names n) (walked_steps ss names _)
  walked_steps (inline_then filter gives ss) names n =
      three (walked_maybe filter names n) (walked_maybe gives names _) (walked_steps ss names _)

  walked_links : (ls : LinkTrees) (names : Numbering) (n : ℕ)
      → WalksPart names n (links names n ls) LinksPlain link_uses
  walked_links no_links names n = at_once tt (λ a. record { all = tt })
  walked_links (link_then op e ls) names n = both (walked e names n) (walked_links ls names _)

  pub walked_criteria : (es : ExprTrees) (xs : List Ident) (names : Numbering) (n : ℕ)
      → WalksPart names n (criteria names n xs es) (λ t. AllPlain t.1) (λ t. all_uses t.1)
  walked_criteria no_exprs xs names n =
      after (map text_of xs) (counted xs n) (at_once tt (λ a. record { all = tt }))
  walked_criteria (expr_then e es) [] names n = both (walked e names n) (walked_criteria es [] names _)
  walked_criteria (expr_then e es) (x ∷ xs) names n =
      both (declared (text_of x) (walked e names (suc n))) (walked_criteria es xs names _)

  pub walked_aggregates : (gs : AggregateTrees) (names : Numbering) (n : ℕ)
      → WalksPart names n (aggregates names n gs) AggregatesPlain aggregate_uses
  walked_aggregates no_aggregates names n = at_once tt (λ a. record { all = tt })
  walked_aggregates (aggregate_then x name e gs) names n =
      both (declared (text_of x) (walked_maybe e names (suc n))) (walked_aggregates gs names _)

  walked_into : (i : IntoTree) (own names : Numbering) (n : ℕ)
      → WalksPart names n (into_part own names n i) IntoPlain into_uses
  walked_into no_into own names n = at_once tt (λ a. record { all = tt })
  walked_into (into x (one_expr e) keep) own names n = declared (text_of x) (walked e names (suc n))
  walked_into (into x no_expr keep) own names n =
      let kept = into_names (idents own) keep in
      declared (text_of x)
      (at_once (object_plain names kept) (λ a. record { all = object_used names kept a }))

  -- the variables of COLLECT and their numbers
  pub named_criteria : (es : ExprTrees) (xs : List Ident) (names : Numbering) (n : ℕ)
      → Named n xs (criteria names n xs es).tree.0 (criteria names n xs es).next
  named_criteria no_exprs xs names n = named_all xs n
  named_criteria (expr_then e es) [] names n =
      named_from (walked_le (walked e names n)) (named_criteria es [] names _)
  named_criteria (expr_then e es) (x ∷ xs) names n =
      next n x (omega arith)
      (named_from (walked_le (walked e names (suc n))) (named_criteria es xs names _))

  pub named_aggregates : (gs : AggregateTrees) (names : Numbering) (n : ℕ) → Named n (aggregate_vars gs)
      (aggregate_vars (aggregates names n gs).tree) (aggregates names n gs).next
  named_aggregates no_aggregates names n = none (omega arith)
  named_aggregates (aggregate_then x name e gs) names n =
      next n x (omega arith)
      (named_from (walked_le (walked_maybe e names (suc n))) (named_aggregates gs names _))

  pub named_into : (i : IntoTree) (own names : Numbering) (n : ℕ) → Named n (option_to_list (into_var i))
      (option_to_list (into_var (into_part own names n i).tree)) (into_part own names n i).next
  named_into no_into own names n = none (omega arith)
  named_into (into x (one_expr e) keep) own names n =
      next n x (omega arith) (none (walked_le (walked e names (suc n))))
  named_into (into x no_expr keep) own names n = next n x (omega arith) (none (omega arith))

  pub walked_clause : (c : ClauseTree) (outer own : Numbering) (n : ℕ) → Walks
      (Numbers outer × Numbers (own ++ outer)) n (clause outer own n c).clause ClauseLifted ClauseNumbered
  walked_clause (for_each x (variable c)) outer own n =
      let fine = from_name_fine n (number_of (own ++ outer) c) c in
      walked_as (λ a. a.1) (λ p. p) (λ a h u. fine.1 h (a.1 c))
      (declared (text_of x) (at_once fine.0 (λ a. a)))
  walked_clause (for_each x e) outer own n =
      walked_as (λ a. a.1) (λ p. (p, no_name (own ++ outer) e (suc n))) (λ a h u. ((h, tt), u.all))
      (declared (text_of x) (walked e (own ++ outer) (suc n)))
  walked_clause (for_documents x name) outer own n =
      walked_as (λ a. a.1) (λ p. p) (λ a h u. ((h, tt), tt)) (declared (text_of x) (at_once tt (λ a. a)))
  walked_clause (traversal w e names prune settings) outer own n =
      let s = expr (own ++ outer) (after_traversal n w) e in
      let by_edge = named_given w.edge (suc n) in
      let by_path = named_given w.path (number_after (option_to_list w.edge) (suc n)) in
      let pruned = walked_maybe prune (traversal_names n w own ++ outer) s.next in
      let start = walked e (own ++ outer) (after_traversal n w) in
      walked_as (λ a. a.1) (λ p. (p, pruned.lifted.0, tt)) (λ a h u. (
      let k = number_more _ _ (named_le by_edge) tt in
      let l = number_more _ _ (named_le by_path) k in
      let m = number_more _ _ (walked_le start) l in
      let more = grown_numbers _ outer (grown_traversal n w own) (λ j i k. number_more n j i h) a.0 a.1 in (
        onto_numbers _ _ (named_numbers by_path k) (onto_numbers _ _ (named_numbers by_edge tt) (h, tt)),
        all_append _ _ _ u.all (pruned.numbered more m).0.all,
      )))
      (after (map text_of (w.vertex ∷ (option_to_list w.edge ++ option_to_list w.path)))
      (placed_traversal n w) start)
  walked_clause (filter_by e) outer own n =
      walked_as (λ a. a.1) (λ p. p) (λ a h u. (tt, u.all)) (walked e (own ++ outer) n)
  walked_clause (let_be x (subquery q)) outer own n =
      let w = walked_query q (own ++ outer) (suc n) in
      walked_as (λ a. a.1) (λ p. p) (λ a h u. (h, u)) (declared (text_of x) w)
  walked_clause (let_be x e) outer own n =
      let w = walked e (own ++ outer) (suc n) in
      let fine = let_fine (Num n) (expr (own ++ outer) (suc n) e).tree w.lifted.0 in
      walked_as (λ a. a.1) (λ p. fine.0) (λ a h u. fine.1 h u.all) (declared (text_of x) w)
  walked_clause (sort_by directions es) outer own n =
      walked_as (λ a. a.1) (λ p. p) (λ a h u. (tt, u.all)) (walked_exprs es (own ++ outer) n)
  walked_clause (limit offset count) outer own n = at_once tt (λ a. (tt, tt))
  walked_clause (collect xs es gs i) outer own n =
      let names = own ++ outer in
      let s = criteria names n xs es in
      let t = aggregates names s.next gs in
      let by_s = named_criteria es xs names n in
      let by_t = named_aggregates gs names s.next in
      let by_u = named_into i own names t.next in
      walked_as (λ a. a.1) (λ p. p) (λ a h u. (
        let k = number_more n s.next (named_le by_s) h in
            let l = number_more s.next t.next (named_le by_t) k in
            onto_numbers _ _ (named_numbers by_u l)
            (onto_numbers _ _ (named_numbers by_t k) (onto_numbers _ [] (named_numbers by_s h) tt)),
        u.all,
      ))
      (three (walked_criteria es xs names n) (walked_aggregates gs names s.next)
      (walked_into i own names t.next))

  pub grown_clause : (c : ClauseTree) (outer own : Numbering) (n : ℕ) → let s = clause outer own n c in
      Grown own n s.clause.next s.own (vars_after c (idents own))
  grown_clause (for_each x (variable c)) outer own n =
      grown_one x own n (omega arith)
  grown_clause (for_each x e) outer own n =
      grown_one x own n (walked_le (walked e (own ++ outer) (suc n)))
  grown_clause (for_documents x name) outer own n =
      grown_one x own n (omega arith)
  grown_clause (traversal w e names prune settings) outer own n =
      grown_later (grown_traversal n w own) (walked_le (walked e (own ++ outer) (after_traversal n w)))
  grown_clause (filter_by e) outer own n = same (walked_le (walked e (own ++ outer) n))
  grown_clause (let_be x (subquery q)) outer own n =
      grown_one x own n (walked_query q (own ++ outer) (suc n)).within
  grown_clause (let_be x e) outer own n =
      grown_one x own n (walked_le (walked e (own ++ outer) (suc n)))
  grown_clause (sort_by directions es) outer own n =
      same (walked_le (walked_exprs es (own ++ outer) n))
  grown_clause (limit offset count) outer own n = same (omega arith)
  grown_clause (collect xs es gs i) outer own n =
      let names = own ++ outer in
      let s = criteria names n xs es in
      let t = aggregates names s.next gs in
      grown_by (grown_by (grown_by {k = n} (fresh (omega arith)) (named_criteria es xs names n))
      (named_aggregates gs names s.next)) (named_into i own names t.next)

  walked_clauses : (cs : ClauseTrees) (outer own : Numbering) (n : ℕ) → let s = clauses outer own n cs in
      Walked (Numbers outer × Numbers (own ++ outer)) n (ClausesLifted s.clauses)
      (ClausesNumbered s.clauses × Numbers (s.own ++ outer)) [] s.said s.next
  walked_clauses no_clauses outer own n = at_once tt (λ a. (tt, a.1))
  walked_clauses (clause_then c cs) outer own n =
      let s = clause outer own n c in
      let one = walked_clause c outer own n in
      let rest = walked_clauses cs outer s.own s.clause.next in
      let lets = lets_fine s.clause.subqueries
      (clause_then s.clause.tree (clauses outer s.own s.clause.next cs).clauses) in
      let l : n ≤ s.clause.next = walked_le one in record {
        within = let m = rest.within in omega arith;
        placed = let e = one.placed in let f = rest.placed in
            omega (arith, length-append s.clause.said (clauses outer s.own s.clause.next cs).said);
        lifted = (lets.0 one.lifted.1 (one.lifted.0, rest.lifted.0), tt);
        numbered = λ a h.
            let j = one.numbered a h in
            let more = grown_numbers _ outer (grown_clause c outer own n) (λ k i m. number_more n k i h)
            a.0 a.1 in
            let k = (rest.numbered (a.0, more) (number_more n s.clause.next l h)).0 in
            ((lets.1 j.1 (j.0, k.0), k.1), tt);
      }

  pub walked_query : (q : QueryTree) (names : Numbering) (n : ℕ) → let s = scope_query names n q in
      Walked (Numbers names) n (IsLifted s.tree) (IsNumbered s.tree) [] s.said s.next
  walked_query (query with cs distinct e) names n =
      let s = clauses names [] n cs in
      let w = walked_clauses cs names [] n in
      let u = walked e (s.own ++ names) s.next in
      let lets = lets_fine (expr (s.own ++ names) s.next e).subqueries no_clauses in
      let all = followed_fine s.clauses _ in record {
        within = let l = w.within in let m = walked_le u in omega arith;
        placed = let f = w.placed in let g = u.placed in
            omega (arith, length-append s.said (expr (s.own ++ names) s.next e).said);
        lifted = ((all.0 w.lifted.0 (lets.0 u.lifted.1 tt), u.lifted.0), tt);
        numbered = λ a h.
            let j = (w.numbered (a, a) h).0 in
            let k = u.numbered j.1 (number_more n s.next w.within h) in
            ((all.1 j.0 (lets.1 k.1 tt), k.0.all), tt);
      }

-- the numbers of these names, by the name
pub are_numbers : (names : Numbering) → AreNumbers names → Numbers names
are_numbers [] h = λ x. tt
are_numbers (v ∷ names) h = numbers_bind _ v.1 names v.0 h.0 (are_numbers names h.1)

pub scoped_is_lifted : (outer : Numbering) (n : ℕ) (q : QueryTree) → IsLifted (scope_query outer n q).tree
scoped_is_lifted outer n q = (walked_query q outer n).lifted.0
