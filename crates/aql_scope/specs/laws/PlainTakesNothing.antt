-- From an expression without a subquery nothing is taken, and it takes no number; it has no PRUNE.
use Rattle.std.proofs.Common.{◌≡◌, ◌∙◌, ℕ, List, [], ◌++◌, refl, ap₂}
use Rattle.aql_tree.specs.Tree.{ExprTree, literal, variable, current, array_literal, object_literal, access, function_call, unary_of, chain, array_comparison, ternary, range_of, subquery, ExprTrees, no_exprs, expr_then, MaybeExpr, no_expr, one_expr, MemberTrees, no_members, named_then, computed_then, StepTrees, no_steps, name_then, at_then, inline_then, LinkTrees, no_links, link_then}
use Rattle.aql_meaning.specs.Plain.{IsPlain, AllPlain, MaybePlain, MembersPlain, StepsPlain, LinksPlain}
use Rattle.aql_scope.specs.Numbering.{Numbering}
use Rattle.aql_scope.specs.Lifting.{NumberedSubquery, Scoped, expr, exprs, maybe, members, steps, links}
use Rattle.aql_scope.specs.Prunes.{ExprPrunes, ExprsPrunes, MaybePrunes, MembersPrunes, StepsPrunes, LinksPrunes}

-- nothing is taken or declared in the part, and n is still the next number; P says of it that its PRUNEs are
-- plain
abbrev pub TakesNothing : {T : Type 0} → Scoped T → ℕ → Type 0 → Type 0
TakesNothing s n P = (s.subqueries ≡ []) × (s.said ≡ []) × (s.next ≡ n) × P

-- two lists and the number after both
nothing_more : {P Q : Type 0} {n m l : ℕ} {ts us : List NumberedSubquery} {said more : List (List ℕ)}
    → (ts ≡ []) × (said ≡ []) × (m ≡ n) × P → (us ≡ []) × (more ≡ []) × (l ≡ m) × Q
    → (ts ++ us ≡ []) × (said ++ more ≡ []) × (l ≡ n) × (P × Q)
nothing_more h k =
    (ap₂ (λ xs ys. xs ++ ys) h.0 k.0, ap₂ (λ xs ys. xs ++ ys) h.1 k.1, k.2 ∙ h.2, (h.3, k.3))

-- of three parts the last two are one
all_three : {A B C P Q R : Type 0} → A × B × C × (P × (Q × R)) → A × B × C × (P × Q × R)
all_three h = (h.0, h.1, h.2, (h.3.0, h.3.1.0, h.3.1.1))

module _ (names : Numbering) where
  mutual
    pub plain_takes_nothing : (e : ExprTree) → IsPlain e → (n : ℕ)
        → TakesNothing (expr names n e) n (ExprPrunes e)
    plain_takes_nothing (literal v) p n = (refl, refl, refl, tt)
    plain_takes_nothing (variable x) p n = (refl, refl, refl, tt)
    plain_takes_nothing current p n = (refl, refl, refl, tt)
    plain_takes_nothing (array_literal es) p n = plain_exprs_take_nothing es p n
    plain_takes_nothing (object_literal ms) p n = plain_members_take_nothing ms p n
    plain_takes_nothing (access e ss) p n =
        nothing_more (plain_takes_nothing e p.0 n) (plain_steps_take_nothing ss p.1 _)
    plain_takes_nothing (function_call name es) p n = plain_exprs_take_nothing es p n
    plain_takes_nothing (unary_of op e) p n = plain_takes_nothing e p n
    plain_takes_nothing (chain e ls) p n =
        nothing_more (plain_takes_nothing e p.0 n) (plain_links_take_nothing ls p.1 _)
    plain_takes_nothing (array_comparison e kind op f) p n =
        nothing_more (plain_takes_nothing e p.0 n) (plain_takes_nothing f p.1 _)
    plain_takes_nothing (ternary test first other) p n =
        all_three (nothing_more (plain_takes_nothing test p.0 n)
        (nothing_more (plain_maybe_takes_nothing first p.1 _) (plain_takes_nothing other p.2 _)))
    plain_takes_nothing (range_of e f) p n =
        nothing_more (plain_takes_nothing e p.0 n) (plain_takes_nothing f p.1 _)
    plain_takes_nothing (subquery q) p n = absurd p

    pub plain_exprs_take_nothing : (es : ExprTrees) → AllPlain es → (n : ℕ)
        → TakesNothing (exprs names n es) n (ExprsPrunes es)
    plain_exprs_take_nothing no_exprs p n = (refl, refl, refl, tt)
    plain_exprs_take_nothing (expr_then e es) p n =
        nothing_more (plain_takes_nothing e p.0 n) (plain_exprs_take_nothing es p.1 _)

    pub plain_maybe_takes_nothing : (m : MaybeExpr) → MaybePlain m → (n : ℕ)
        → TakesNothing (maybe names n m) n (MaybePrunes m)
    plain_maybe_takes_nothing no_expr p n = (refl, refl, refl, tt)
    plain_maybe_takes_nothing (one_expr e) p n = plain_takes_nothing e p n

    pub plain_members_take_nothing : (ms : MemberTrees) → MembersPlain ms → (n : ℕ)
        → TakesNothing (members names n ms) n (MembersPrunes ms)
    plain_members_take_nothing no_members p n = (refl, refl, refl, tt)
    plain_members_take_nothing (named_then name e ms) p n =
        nothing_more (plain_takes_nothing e p.0 n) (plain_members_take_nothing ms p.1 _)
    plain_members_take_nothing (computed_then k e ms) p n =
        all_three (nothing_more (plain_takes_nothing k p.0 n)
        (nothing_more (plain_takes_nothing e p.1 _) (plain_members_take_nothing ms p.2 _)))

    pub plain_steps_take_nothing : (ss : StepTrees) → StepsPlain ss → (n : ℕ)
        → TakesNothing (steps names n ss) n (StepsPrunes ss)
    plain_steps_take_nothing no_steps p n = (refl, refl, refl, tt)
    plain_steps_take_nothing (name_then name ss) p n = plain_steps_take_nothing ss p n
    plain_steps_take_nothing (at_then e ss) p n =
        nothing_more (plain_takes_nothing e p.0 n) (plain_steps_take_nothing ss p.1 _)
    plain_steps_take_nothing (inline_then filter gives ss) p n =
        all_three (nothing_more (plain_maybe_takes_nothing filter p.0 n)
        (nothing_more (plain_maybe_takes_nothing gives p.1 _)
        (plain_steps_take_nothing ss p.2 _)))

    pub plain_links_take_nothing : (ls : LinkTrees) → LinksPlain ls → (n : ℕ)
        → TakesNothing (links names n ls) n (LinksPrunes ls)
    plain_links_take_nothing no_links p n = (refl, refl, refl, tt)
    plain_links_take_nothing (link_then op e ls) p n =
        nothing_more (plain_takes_nothing e p.0 n) (plain_links_take_nothing ls p.1 _)
