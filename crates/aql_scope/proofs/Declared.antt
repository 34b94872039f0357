-- A variable is declared before a part, and a clause is lifted.
use Rattle.std.proofs.Common.{◌≡◌, ◌∙◌, ℕ, suc, List, [], ◌∷◌, ◌++◌, map, refl, sym, ap, subst, append_assoc, false}
use Rattle.std.specs.Prelude.{OnOk, Result}
use Rattle.aql_value.specs.declared.memory.OutOfMemory.{OutOfMemory}
use Rattle.aql_tree.specs.declared.syntax.Clause.{Clause}
use Rattle.aql_tree.specs.declared.syntax.Expr.{Expr}
use Rattle.aql_tree.specs.declared.syntax.Ident.{Ident}
use Rattle.aql_tree.specs.declared.syntax.Ident.TheVariants.{Num}
use Rattle.aql_tree.specs.Tree.{ExprTree, variable, subquery, ClauseTree, for_each, let_be, ClauseTrees, no_clauses, clause_then}
use Rattle.aql_tree.specs.View.{clauses}
use Rattle.aql_scope.specs.Numbering.{Numbering, text_of}
use Rattle.aql_scope.specs.Lifting as spec
use Rattle.aql_scope.specs.Lifting.{NumberedSubquery, Scoped, ScopedClause, over, declares, with_lets, append_clauses}
use Rattle.aql_scope.specs.declared.numbers.Numbers.{Numbers}
use Rattle.aql_scope.specs.Lifts.{Progress, progress, let_of, Lifts, bound}
use Rattle.aql_scope.specs.laws.Turns.{progress_is, Given, before, lifts_over}
use Rattle.aql_scope.proofs.Forms.{is_variable, is_subquery}

-- these names were said, and n is the next number
abbrev pub say : List (List ℕ) → ℕ → Progress → Progress
say names n p = record { clauses = p.clauses; said = p.said ++ names; next = n }

pub said : (lets : List Clause) (m k : Numbers) (names : List (List ℕ)) (n : ℕ) → k.said ≡ m.said ++ names
    → k.next ≡ n → progress lets k ≡ say names n (progress lets m)
said lets m k names n e f = progress_is _ _ _ _ _ _ refl e f

pub declared_given : {T : Type 0} (xs : List Ident) (s : Scoped T) (a : T) (n : ℕ) (p q : Progress)
    → Given a s (say (map text_of xs) n p) q → Given a (declares xs s) p q
declared_given xs s a n p q g =
    (g.0, g.1 ∙ progress_is _ _ _ _ _ _ refl (append_assoc p.said (map text_of xs) s.said) refl)

-- ---- FOR and LET, by whether their expression is a variable or a subquery

abbrev pub for_other : Numbering → Numbering → ℕ → Ident → ExprTree → ScopedClause
for_other outer own n x e = record {
  clause = declares (x ∷ []) (over (for_each (Num n)) (spec.expr (own ++ outer) (suc n) e));
  own = (x, n) ∷ own;
}

pub for_is : (outer own : Numbering) (n : ℕ) (x : Ident) (e : ExprTree) → is_variable e ≡ false
    → spec.clause outer own n (for_each x e) ≡ for_other outer own n x e
for_is outer own n x (variable y) other = absurd (cc)
for_is outer own n x e other = refl

abbrev pub let_other : Numbering → Numbering → ℕ → Ident → ExprTree → ScopedClause
let_other outer own n x e = record {
  clause = declares (x ∷ []) (over (let_be (Num n)) (spec.expr (own ++ outer) (suc n) e));
  own = (x, n) ∷ own;
}

pub let_is : (outer own : Numbering) (n : ℕ) (x : Ident) (e : ExprTree) → is_subquery e ≡ false
    → spec.clause outer own n (let_be x e) ≡ let_other outer own n x e
let_is outer own n x (subquery q) other = absurd (cc)
let_is outer own n x e other = refl

-- what was lifted of the variable and the expression was lifted of the clause
module _ {A : Type 0} (outer own : Numbering) (x v : Ident) (e w : ExprTree) (p q : Progress)
    (r : Result A OutOfMemory) (entered : Numbering)
    (part : Lifts (v, w) (bound (own ++ outer) p.next x e) p r q) (own_is : OnOk r (entered ≡ (x, p.next) ∷ own))
  where
    pub for_lifted : is_variable e ≡ false
        → Lifts (for_each v w) (spec.clause outer own p.next (for_each x e)).clause p r q
        × OnOk r (entered ≡ (spec.clause outer own p.next (for_each x e)).own)
    for_lifted other =
        subst (λ (k : ScopedClause). Lifts (for_each v w) k.clause p r q × OnOk r (entered ≡ k.own))
        (sym (for_is outer own p.next x e other)) (
          lifts_over (λ (b : Ident × ExprTree). for_each b.0 b.1) (bound (own ++ outer) p.next x e) (v, w) p q r part,
          own_is,
        )

    pub let_lifted : is_subquery e ≡ false
        → Lifts (let_be v w) (spec.clause outer own p.next (let_be x e)).clause p r q
        × OnOk r (entered ≡ (spec.clause outer own p.next (let_be x e)).own)
    let_lifted other =
        subst (λ (k : ScopedClause). Lifts (let_be v w) k.clause p r q × OnOk r (entered ≡ k.own))
        (sym (let_is outer own p.next x e other)) (
          lifts_over (λ (b : Ident × ExprTree). let_be b.0 b.1) (bound (own ++ outer) p.next x e) (v, w) p q r part,
          own_is,
        )

-- the same part by its values in the code
pub bound_same : {A T : Type 0} {x y : Ident} {e f : Expr} (t : T) (make : Ident → Expr → Scoped T)
    (p q : Progress) (r : Result A OutOfMemory) → x ≡ y → e ≡ f → Lifts t (make x e) p r q
    → Lifts t (make y f) p r q
bound_same {y = y} {e = e} t make p q r x_is e_is h =
    subst (λ b. Lifts t (make y b) p r q) e_is (subst (λ a. Lifts t (make a e) p r q) x_is h)

-- ---- the clauses of a query, with their LETs

pub before_append : {A T : Type 0} (cons : A → T → T) (ps qs : List A) (t : T)
    → before cons (ps ++ qs) t ≡ before cons ps (before cons qs t)
before_append cons [] qs t = refl
before_append cons (p ∷ ps) qs t = ap (cons p) (before_append cons ps qs t)

pub before_lets_of : (ts : List NumberedSubquery) (cs : ClauseTrees)
    → before clause_then (map let_of ts) cs ≡ with_lets ts cs
before_lets_of [] cs = refl
before_lets_of (t ∷ ts) cs = ap (clause_then (let_of t)) (before_lets_of ts cs)

pub clauses_lets : (cs : List ClauseTree) (ts : List NumberedSubquery)
    → clauses (cs ++ map let_of ts) ≡ append_clauses (clauses cs) (with_lets ts no_clauses)
clauses_lets [] [] = refl
clauses_lets [] (t ∷ ts) = ap (clause_then (let_of t)) (clauses_lets [] ts)
clauses_lets (c ∷ cs) ts = ap (clause_then c) (clauses_lets cs ts)

-- a part after the declaration of a variable
pub after_declare : {T : Type 0} (x : Ident) (s : ℕ → Scoped T) (a : T) (lets : List Clause) (m k : Numbers)
    (q : Progress) → k.said ≡ m.said ++ text_of x ∷ [] → k.next ≡ suc m.next
    → Given a (s k.next) (progress lets k) q → Given a (declares (x ∷ []) (s (suc m.next))) (progress lets m) q
after_declare x s a lets m k q e f g =
    declared_given (x ∷ []) (s (suc m.next)) a (suc m.next) (progress lets m) q
    (subst (λ n. Given a (s n) (say (text_of x ∷ []) (suc m.next) (progress lets m)) q) f
    (subst (λ p. Given a (s k.next) p q) (said lets m k (text_of x ∷ []) (suc m.next) e f) g))
