-- What a function of the program answers that lifts a part of a query, by the words of the definition. Memory
-- may run out at any time.
use Rattle.std.specs.Prelude.{ℕ, suc, ◌≡◌, List, [], ◌∷◌, ◌++◌, map, Option, Some, None, Result, Ok, Err, OnOk}
use Rattle.aql_value.specs.declared.memory.OutOfMemory.{OutOfMemory}
use Rattle.aql_tree.specs.declared.syntax.Clause.{Clause}
use Rattle.aql_tree.specs.declared.syntax.Ident.{Ident}
use Rattle.aql_tree.specs.declared.syntax.Ident.TheVariants.{Num}
use Rattle.aql_tree.specs.Tree.{ExprTree, MaybeExpr, no_expr, one_expr, ClauseTree, let_be, subquery, QueryTree, MemberTrees, named_then, computed_then, StepTrees, name_then, at_then, inline_then}
use Rattle.aql_tree.specs.View as view
use Rattle.aql_tree.specs.View.{clause_tree, MemberPart, named, computed, StepPart}
use Rattle.aql_scope.specs.Numbering.{Numbering}
use Rattle.aql_scope.specs.Lifting.{NumberedSubquery, Scoped, as_it_is, over, both, declares, expr, maybe, clause}
use Rattle.aql_scope.specs.declared.names.Scope.{Scope}
use Rattle.aql_scope.specs.declared.numbers.Numbers.{Numbers}
use Rattle.aql_scope.specs.declared.numbers.LiftState.{LiftState}

abbrev pub visible : Scope → Numbering
visible s = s.own ++ s.outer

-- a member and a step by themselves, each with what it stands before
abbrev pub member_then : MemberPart → MemberTrees → MemberTrees
member_then (named name e) ms = named_then name e ms
member_then (computed k e) ms = computed_then k e ms

abbrev pub step_then : StepPart → StepTrees → StepTrees
step_then (view.name n) ss = name_then n ss
step_then (view.at e) ss = at_then e ss
step_then (view.inline filter gives) ss = inline_then (view.maybe filter) (view.maybe gives) ss

abbrev pub option_of : MaybeExpr → Option ExprTree
option_of no_expr = None
option_of (one_expr e) = Some e

abbrev pub one_member : Numbering → ℕ → MemberPart → Scoped MemberPart
one_member names n (named name e) = over (named name) (expr names n e)
one_member names n (computed k e) = let s = expr names n k in both computed s (expr names s.next e)

abbrev pub one_step : Numbering → ℕ → StepPart → Scoped StepPart
one_step names n (view.name s) = as_it_is (view.name s) n
one_step names n (view.at e) = over view.at (expr names n e)
one_step names n (view.inline filter gives) =
    let s = maybe names n (view.maybe filter) in
    both (λ (a b : MaybeExpr). view.inline (option_of a) (option_of b)) s
    (maybe names s.next (view.maybe gives))

-- the variable of FOR or LET, and its expression, in which it is not visible
abbrev pub bound : Numbering → ℕ → Ident → ExprTree → Scoped (Ident × ExprTree)
bound names n x e = declares (x ∷ []) (over (λ (f : ExprTree). let b : Ident × ExprTree = (Num n, f) in b)
    (expr names (suc n) e))

-- the LET of a subquery that was taken out
abbrev pub let_of : NumberedSubquery → ClauseTree
let_of t = let_be (Num t.0) (subquery t.1)

-- the clauses of the query at hand so far, with the LETs of what was taken out, the names of all variables so
-- far, and the next number
pub record Progress : Type 0 where
  pub clauses : List ClauseTree
  pub said : List (List ℕ)
  pub next : ℕ

abbrev pub progress : List Clause → Numbers → Progress
progress lets numbers =
    record { clauses = map clause_tree lets; said = numbers.said; next = numbers.next }

-- after a part
abbrev pub after : {T : Type 0} → Scoped T → Progress → Progress
after s p = record {
  clauses = p.clauses ++ map let_of s.subqueries;
  said = p.said ++ s.said;
  next = s.next;
}

-- the part s was lifted, and is t now
abbrev pub Lifts : {A T : Type 0} → T → Scoped T → Progress → Result A OutOfMemory → Progress → Type 0
Lifts t s before (Ok a) then = (t ≡ s.tree) × (then ≡ after s before)
Lifts t s before (Err e) then = Unit {0}

-- the part was lifted that s gives from the next number on
abbrev pub LiftsNext : {A T : Type 0} → LiftState → Result A OutOfMemory → LiftState → T → (ℕ → Scoped T)
    → Type 0
LiftsNext before r then t s = Lifts t (s before.numbers.next) (progress before.lets before.numbers) r
    (progress then.lets then.numbers)

-- a clause was lifted and is d now, and the scope has the query's own names after it
abbrev pub LiftsClause : {A : Type 0} → Scope → LiftState → Result A OutOfMemory → Scope → LiftState
    → ClauseTree → ClauseTree
    → Type 0
LiftsClause s before r s' then c d =
    LiftsNext before r then d (λ n. (clause s.outer s.own n c).clause)
    × OnOk r (s'.own ≡ (clause s.outer s.own before.numbers.next c).own)
    × (s'.outer ≡ s.outer)

-- a query was lifted, which has its own LETs, and is q now
abbrev pub LiftsQuery : {A : Type 0} → Scoped QueryTree → Numbers → Result A OutOfMemory → Numbers → QueryTree
    → Type 0
LiftsQuery s before (Ok a) then q = (q ≡ s.tree) × (then.said ≡ before.said ++ s.said) × (then.next ≡ s.next)
LiftsQuery s before (Err e) then q = Unit {0}
