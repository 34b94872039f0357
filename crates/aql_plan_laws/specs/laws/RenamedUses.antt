-- An expression in which a variable y stands for a variable x: it uses what it used, under the new name, and
-- it stays plain.
use Rattle.std.proofs.Common.{◌≡◌, ◌∙◌, [], ◌∷◌, ◌++◌, map, Bool, true, false, cond, refl, ap, ap₂, sym}
use Rattle.std.proofs.lemmas.List.{map-append}
use Rattle.aql_tree.specs.declared.syntax.Ident.{Ident}
use Rattle.aql_tree.specs.Tree.{ExprTree, literal, variable, current, array_literal, object_literal, access, function_call, unary_of, chain, array_comparison, ternary, range_of, subquery, ExprTrees, no_exprs, expr_then, MaybeExpr, no_expr, one_expr, MemberTrees, no_members, named_then, computed_then, StepTrees, no_steps, name_then, at_then, inline_then, LinkTrees, no_links, link_then}
use Rattle.aql_meaning.specs.Row.{same_ident}
use Rattle.aql_meaning.specs.Substitution.{put, put_all, put_maybe, put_members, put_steps, put_links}
use Rattle.aql_meaning.specs.Plain.{IsPlain, AllPlain, MaybePlain, MembersPlain, StepsPlain, LinksPlain}
use Rattle.aql_meaning.specs.Uses.{Use, Whole, Attribute, Uses, uses, all_uses, maybe_uses, member_uses, step_uses, link_uses}

-- what is used, each variable under its name by g
abbrev pub use_by : (Ident → Ident) → Use → Use
use_by g (Whole z) = Whole (g z)
use_by g (Attribute z name) = Attribute (g z) name

abbrev pub uses_by : (Ident → Ident) → Uses → Uses
uses_by g us = map (use_by g) us

pub joined_by : (g : Ident → Ident) (us vs : Uses) {ss ts : Uses} → ss ≡ uses_by g us → ts ≡ uses_by g vs
    → ss ++ ts ≡ uses_by g (us ++ vs)
joined_by g us vs h k = ap₂ (λ (s t : Uses). s ++ t) h k ∙ sym (map-append (use_by g) us vs)

-- what an access to a variable uses
abbrev access_uses : Ident → StepTrees → Uses
access_uses z (name_then name ss) = Attribute z name ∷ step_uses ss
access_uses z ss = Whole z ∷ step_uses ss

module _ (x y : Ident) where
  -- the name of a variable where y stands for x
  abbrev pub goes_by : Ident → Ident
  goes_by z = cond (same_ident x z) y z

  at_variable : (b : Bool) (z : Ident) → uses (cond b (variable y) (variable z)) ≡ Whole (cond b y z) ∷ []
  at_variable true z = refl
  at_variable false z = refl

  at_access : (b : Bool) (z : Ident) (ss : StepTrees)
      → uses (access (cond b (variable y) (variable z)) ss) ≡ access_uses (cond b y z) ss
  at_access true z (name_then name ss) = refl
  at_access true z ss = refl
  at_access false z (name_then name ss) = refl
  at_access false z ss = refl

  mutual
    pub uses_renamed : (e : ExprTree) → uses (put x (variable y) e) ≡ uses_by goes_by (uses e)
    uses_renamed (literal v) = refl
    uses_renamed (variable z) = at_variable (same_ident x z) z
    uses_renamed current = refl
    uses_renamed (array_literal es) = all_renamed es
    uses_renamed (object_literal ms) = members_renamed ms
    uses_renamed (access (variable z) (name_then name ss)) =
        at_access (same_ident x z) z (name_then name (put_steps x (variable y) ss))
        ∙ ap (λ (us : Uses). Attribute (goes_by z) name ∷ us) (steps_renamed ss)
    uses_renamed (access (variable z) ss) =
        at_access (same_ident x z) z (put_steps x (variable y) ss)
        ∙ ap (λ (us : Uses). Whole (goes_by z) ∷ us) (steps_renamed ss)
    uses_renamed (access e ss) = joined_by goes_by (uses e) (step_uses ss) (uses_renamed e) (steps_renamed ss)
    uses_renamed (function_call name es) = all_renamed es
    uses_renamed (unary_of op e) = uses_renamed e
    uses_renamed (chain e ls) = joined_by goes_by (uses e) (link_uses ls) (uses_renamed e) (links_renamed ls)
    uses_renamed (array_comparison a kind op b) =
        joined_by goes_by (uses a) (uses b) (uses_renamed a) (uses_renamed b)
    uses_renamed (ternary test first other) =
        joined_by goes_by (uses test) (maybe_uses first ++ uses other) (uses_renamed test)
        (joined_by goes_by (maybe_uses first) (uses other) (maybe_renamed first) (uses_renamed other))
    uses_renamed (range_of a b) =
        joined_by goes_by (uses a) (uses b) (uses_renamed a) (uses_renamed b)
    uses_renamed (subquery q) = refl

    all_renamed : (es : ExprTrees)
        → all_uses (put_all x (variable y) es) ≡ uses_by goes_by (all_uses es)
    all_renamed no_exprs = refl
    all_renamed (expr_then e es) =
        joined_by goes_by (uses e) (all_uses es) (uses_renamed e) (all_renamed es)

    maybe_renamed : (e : MaybeExpr)
        → maybe_uses (put_maybe x (variable y) e) ≡ uses_by goes_by (maybe_uses e)
    maybe_renamed no_expr = refl
    maybe_renamed (one_expr e) = uses_renamed e

    members_renamed : (ms : MemberTrees)
        → member_uses (put_members x (variable y) ms) ≡ uses_by goes_by (member_uses ms)
    members_renamed no_members = refl
    members_renamed (named_then name e ms) =
        joined_by goes_by (uses e) (member_uses ms) (uses_renamed e) (members_renamed ms)
    members_renamed (computed_then n e ms) =
        joined_by goes_by (uses n) (uses e ++ member_uses ms) (uses_renamed n)
        (joined_by goes_by (uses e) (member_uses ms) (uses_renamed e) (members_renamed ms))

    steps_renamed : (ss : StepTrees)
        → step_uses (put_steps x (variable y) ss) ≡ uses_by goes_by (step_uses ss)
    steps_renamed no_steps = refl
    steps_renamed (name_then name ss) = steps_renamed ss
    steps_renamed (at_then e ss) =
        joined_by goes_by (uses e) (step_uses ss) (uses_renamed e) (steps_renamed ss)
    steps_renamed (inline_then filter gives ss) =
        joined_by goes_by (maybe_uses filter) (maybe_uses gives ++ step_uses ss) (maybe_renamed filter)
        (joined_by goes_by (maybe_uses gives) (step_uses ss) (maybe_renamed gives) (steps_renamed ss))

    links_renamed : (ls : LinkTrees)
        → link_uses (put_links x (variable y) ls) ≡ uses_by goes_by (link_uses ls)
    links_renamed no_links = refl
    links_renamed (link_then op e ls) =
        joined_by goes_by (uses e) (link_uses ls) (uses_renamed e) (links_renamed ls)

  -- ---- plain

  variable_plain : (b : Bool) (z : Ident) → IsPlain (cond b (variable y) (variable z))
  variable_plain true z = tt
  variable_plain false z = tt

  mutual
    pub plain_renamed : (e : ExprTree) → IsPlain e → IsPlain (put x (variable y) e)
    plain_renamed (literal v) h = tt
    plain_renamed (variable z) h = variable_plain (same_ident x z) z
    plain_renamed current h = tt
    plain_renamed (array_literal es) h = all_plain es h
    plain_renamed (object_literal ms) h = members_plain ms h
    plain_renamed (access e ss) h = (plain_renamed e h.0, steps_plain ss h.1)
    plain_renamed (function_call name es) h = all_plain es h
    plain_renamed (unary_of op e) h = plain_renamed e h
    plain_renamed (chain e ls) h = (plain_renamed e h.0, links_plain ls h.1)
    plain_renamed (array_comparison a kind op b) h = (plain_renamed a h.0, plain_renamed b h.1)
    plain_renamed (ternary test first other) h =
        (plain_renamed test h.0, maybe_plain first h.1, plain_renamed other h.2)
    plain_renamed (range_of a b) h = (plain_renamed a h.0, plain_renamed b h.1)
    plain_renamed (subquery q) h = h

    all_plain : (es : ExprTrees) → AllPlain es → AllPlain (put_all x (variable y) es)
    all_plain no_exprs h = tt
    all_plain (expr_then e es) h = (plain_renamed e h.0, all_plain es h.1)

    maybe_plain : (e : MaybeExpr) → MaybePlain e → MaybePlain (put_maybe x (variable y) e)
    maybe_plain no_expr h = tt
    maybe_plain (one_expr e) h = plain_renamed e h

    members_plain : (ms : MemberTrees) → MembersPlain ms → MembersPlain (put_members x (variable y) ms)
    members_plain no_members h = tt
    members_plain (named_then name e ms) h = (plain_renamed e h.0, members_plain ms h.1)
    members_plain (computed_then n e ms) h =
        (plain_renamed n h.0, plain_renamed e h.1, members_plain ms h.2)

    steps_plain : (ss : StepTrees) → StepsPlain ss → StepsPlain (put_steps x (variable y) ss)
    steps_plain no_steps h = tt
    steps_plain (name_then name ss) h = steps_plain ss h
    steps_plain (at_then e ss) h = (plain_renamed e h.0, steps_plain ss h.1)
    steps_plain (inline_then filter gives ss) h =
        (maybe_plain filter h.0, maybe_plain gives h.1, steps_plain ss h.2)

    links_plain : (ls : LinkTrees) → LinksPlain ls → LinksPlain (put_links x (variable y) ls)
    links_plain no_links h = tt
    links_plain (link_then op e ls) h = (plain_renamed e h.0, links_plain ls h.1)
