-- The elements of lists: what each says, and how a member or a step stands before the others.
use Rattle.std.proofs.Common.{◌≡◌, ◌∙◌, ℕ, List, ◌∷◌, ◌++◌, refl, sym, ap₂, Option, Some, None}
use Rattle.aql_tree.specs.Tree.{ExprTree, MaybeExpr, no_expr, one_expr, computed_then, StepTrees, inline_then}
use Rattle.aql_tree.specs.View.{tree, maybe, MemberPart, named, computed, members, StepPart, name, at, inline, steps}
use Rattle.aql_scope.specs.Numbering.{Numbering}
use Rattle.aql_scope.specs.Lifting as spec
use Rattle.aql_scope.specs.Lifting.{Scoped, both}
use Rattle.aql_scope.specs.Lifts.{member_then, step_then, option_of, one_member, one_step}
use Rattle.aql_scope.specs.laws.Turns.{three_both}

-- ---- what an element of the code says

-- ---- members and steps, each by itself

pub member_first : (names : Numbering) (n : ℕ) (m : MemberPart) (ms : List MemberPart)
    → spec.members names n (members (m ∷ ms))
    ≡ both member_then (one_member names n m) (spec.members names (one_member names n m).next (members ms))
member_first names n (named label e) ms = refl
member_first names n (computed k e) ms =
    let s = spec.expr names n k in
    let t = spec.expr names s.next e in three_both computed_then s t (spec.members names t.next (members ms))

pub maybe_back : (m : MaybeExpr) → maybe (option_of m) ≡ m
maybe_back no_expr = refl
maybe_back (one_expr e) = refl

pub option_back : (o : Option ExprTree) → option_of (maybe o) ≡ o
option_back None = refl
option_back (Some e) = refl

pub step_first : (names : Numbering) (n : ℕ) (s : StepPart) (ss : List StepPart)
    → spec.steps names n (steps (s ∷ ss))
    ≡ both step_then (one_step names n s) (spec.steps names (one_step names n s).next (steps ss))
step_first names n (name x) ss = refl
step_first names n (at e) ss = refl
step_first names n (inline filter gives) ss = three_both inline_then s t u
    ∙ ap₂ (λ a b. let all : Scoped StepTrees = record {
      tree = inline_then a b u.tree;
      subqueries = (s.subqueries ++ t.subqueries) ++ u.subqueries;
      said = (s.said ++ t.said) ++ u.said;
      next = u.next;
    } in all) (sym (maybe_back s.tree)) (sym (maybe_back t.tree))
  where
    s : Scoped MaybeExpr
    s = spec.maybe names n (maybe filter)

    t : Scoped MaybeExpr
    t = spec.maybe names s.next (maybe gives)

    u : Scoped StepTrees
    u = spec.steps names t.next (steps ss)
