-- A clause or a subquery is lifted: what it declares, and what its parts give.
use Rattle.std.proofs.Common.{◌≡◌, ◌∙◌, ℕ, suc, List, [], ◌∷◌, ◌++◌, map, refl, sym, ap, ap₂, subst, append_assoc, append-nil, codes, Some, option_map, Box, Global}
use Rattle.std.proofs.lemmas.List.{map-append}
use Rattle.std.specs.Prelude.{OnOk, Result, Ok, Err}
use Rattle.aql_value.specs.declared.memory.OutOfMemory.{OutOfMemory}
use Rattle.aql_tree.specs.declared.syntax.Clause.{Clause}
use Rattle.aql_tree.specs.declared.syntax.Expr.{Expr}
use Rattle.aql_tree.specs.declared.syntax.Into.{Into}
use Rattle.aql_tree.specs.declared.syntax.Query.{Query}
use Rattle.aql_tree.specs.declared.syntax.Ident.{Ident}
use Rattle.aql_tree.specs.declared.syntax.Ident.TheVariants.{Num}
use Rattle.aql_tree.specs.Tree.{ExprTree, variable, subquery, one_expr, ClauseTree, let_be, into, QueryTree}
use Rattle.aql_tree.specs.View.{tree, maybe, clause_tree, query_tree, into_tree, into_part}
use Rattle.aql_scope.specs.Numbering.{Numbering, text_of}
use Rattle.aql_scope.specs.Lifting as spec
use Rattle.aql_scope.specs.Lifting.{Scoped, over, declares}
use Rattle.aql_scope.specs.declared.numbers.Numbers.{Numbers}
use Rattle.aql_scope.specs.Lifts.{Progress, progress, Lifts}
use Rattle.aql_scope.specs.laws.Turns.{progress_is, Given, over_given}
use Rattle.aql_scope.proofs.Declared.{after_declare}
use Rattle.aql_scope.proofs.Forms.{into_parts}

-- a clause that was moved out of its list, pushed after the others
pub pushed : (lets new : List Clause) (b c : Clause) (m : Numbers) → new ≡ lets ++ b ∷ [] → b ≡ c
    → progress new m ≡ record (progress lets m) { clauses = map clause_tree lets ++ clause_tree c ∷ [] }
pushed lets new b c m more moved = progress_is _ _ _ _ _ _
    (ap (map clause_tree) more ∙ map-append clause_tree lets (b ∷ [])
    ∙ ap (λ d. map clause_tree lets ++ clause_tree d ∷ []) moved) refl refl

-- what a query gives
abbrev pub QueryGiven : QueryTree → Scoped QueryTree → Numbers → Numbers → Type 0
QueryGiven q s before then =
    (q ≡ s.tree) × (then.said ≡ before.said ++ s.said) × (then.next ≡ s.next)

-- the same subquery by its value in the code
pub inner_same : {a b : Box Query Global} (d : QueryTree) (make : QueryTree → Scoped QueryTree) (k l : Numbers)
    → a ≡ b → QueryGiven d (make (query_tree a.value)) k l → QueryGiven d (make (query_tree b.value)) k l
inner_same d make k l is g =
    subst (λ (c : Box Query Global). QueryGiven d (make (query_tree c.value)) k l) is g

-- a subquery, whose LET is pushed
pub subquery_lifted : {A : Type 0} (names : Numbering) (q d : QueryTree) (t : ExprTree) (number : ℕ)
    (lets new : List Clause) (m k l : Numbers) (r : Result A OutOfMemory) → number ≡ m.next
    → k.said ≡ m.said ++ codes "sub" ∷ [] → k.next ≡ suc m.next → QueryGiven d (spec.scope_query names k.next q) k l
    → t ≡ variable (Num number)
    → OnOk r (map clause_tree new ≡ map clause_tree lets ++ let_be (Num number) (subquery d) ∷ [])
    → Lifts t (spec.expr names m.next (subquery q)) (progress lets m) r (progress new l)
subquery_lifted names q d t number lets new m k l (Err e) is said_is next_is g t_is more = tt
subquery_lifted names q d t number lets new m k l (Ok a) is said_is next_is g t_is more = (
  t_is ∙ ap (λ n. variable (Num n)) is,
  progress_is _ _ _ _ _ _
      (more ∙ ap (λ c. map clause_tree lets ++ c ∷ []) (ap₂ (λ n p. let_be (Num n) (subquery p)) is by_next.0))
      (by_next.1 ∙ ap (λ s. s ++ (spec.scope_query names (suc m.next) q).said) said_is
      ∙ append_assoc m.said (codes "sub" ∷ []) (spec.scope_query names (suc m.next) q).said)
      by_next.2,
) where
  by_next : QueryGiven d (spec.scope_query names (suc m.next) q) k l
  by_next = subst (λ n. QueryGiven d (spec.scope_query names n q) k l) next_is g

-- LET of a subquery, which stays there
pub let_query_lifted : {A : Type 0} (outer own : Numbering) (x v : Ident) (q d : QueryTree) (number : ℕ)
    (lets : List Clause) (m k l : Numbers) (r : Result A OutOfMemory) (entered : Numbering)
    → number ≡ m.next → v ≡ Num number → k.said ≡ m.said ++ text_of x ∷ [] → k.next ≡ suc m.next
    → QueryGiven d (spec.scope_query (own ++ outer) k.next q) k l → OnOk r (entered ≡ (x, number) ∷ own)
    → Lifts (let_be v (subquery d)) (spec.clause outer own m.next (let_be x (subquery q))).clause
    (progress lets m) r (progress lets l)
    × OnOk r (entered ≡ (spec.clause outer own m.next (let_be x (subquery q))).own)
let_query_lifted outer own x v q d number lets m k l (Err e) entered is v_is said_is next_is g own_is = (tt, tt)
let_query_lifted outer own x v q d number lets m k l (Ok a) entered is v_is said_is next_is g own_is = (
  after_declare x let_subquery (let_be v (subquery d)) lets m k (progress lets l) said_is next_is (
    ap₂ (λ n p. let_be n (subquery p)) (v_is ∙ ap Num is) g.0,
    progress_is _ _ _ _ _ _ (sym (append-nil (map clause_tree lets))) g.1 g.2,
  ),
  own_is ∙ ap (λ n. (x, n) ∷ own) is,
) where
  let_subquery : ℕ → Scoped ClauseTree
  let_subquery j =
      let s = spec.scope_query (own ++ outer) j q in record {
        tree = let_be (Num m.next) (subquery s.tree);
        subqueries = [];
        said = s.said;
        next = s.next;
      }

-- ---- INTO

pub into_some : (i : Into) (e : Expr) → i.what ≡ Some e
    → into_tree (Some (into_part i)) ≡ into i.var (one_expr (tree e)) i.keep
into_some i e is = ap (λ p. into_tree (Some p)) (into_parts i)
    ∙ ap (λ w. into i.var (maybe (option_map tree w)) i.keep) is

pub into_lifted : {A : Type 0} (own names : Numbering) (x v : Ident) (e w : ExprTree) (keep : List (List ℕ))
    (lets : List Clause) (m k : Numbers) (q : Progress) (r : Result A OutOfMemory) → v ≡ Num m.next
    → k.said ≡ m.said ++ text_of x ∷ [] → k.next ≡ suc m.next
    → Lifts w (spec.expr names k.next e) (progress lets k) r q
    → Lifts (into v (one_expr w) []) (spec.into_part own names m.next (into x (one_expr e) keep))
    (progress lets m) r q
into_lifted own names x v e w keep lets m k q (Err f) is said_is next_is g = tt
into_lifted own names x v e w keep lets m k q (Ok a) is said_is next_is g =
    (ap (λ n. into n (one_expr w) []) is ∙ h.0, h.1)
  where
    h : Given (into (Num m.next) (one_expr w) [])
        (declares (x ∷ []) (over (λ (f : ExprTree). into (Num m.next) (one_expr f) [])
        (spec.expr names (suc m.next) e))) (progress lets m) q
    h = after_declare x
        (λ n. over (λ (f : ExprTree). into (Num m.next) (one_expr f) []) (spec.expr names n e))
        (into (Num m.next) (one_expr w) []) lets m k q said_is next_is
        (over_given (λ (f : ExprTree). into (Num m.next) (one_expr f) []) (spec.expr names k.next e) w
        (progress lets k) q g)
