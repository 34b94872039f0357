-- The variables that an expression uses are its own, where it is one, and those of its parts.
use Rattle.std.proofs.Common.{◌≡◌, ◌∙◌, List, [], ◌∷◌, ◌++◌, map, append-nil, Bool, refl, ap, ap₂, sym}
use Rattle.std.specs.Prelude.{flat_map, ◌||◌}
use Rattle.std.specs.List.{AllZip, list_any}
use Rattle.std.proofs.lemmas.List.{map-append}
use Rattle.std.proofs.lemmas.List.Folds.{list_any-append}
use Rattle.aql_tree.specs.declared.syntax.Ident.{Ident}
use Rattle.aql_tree.specs.Tree.{ExprTree, literal, variable, current, array_literal, object_literal, access}
use Rattle.aql_tree.specs.Tree.{function_call, unary_of, chain, array_comparison, ternary, range_of, subquery}
use Rattle.aql_tree.specs.Tree.{ExprTrees, no_exprs, expr_then, MaybeExpr, no_expr, one_expr}
use Rattle.aql_tree.specs.Tree.{MemberTrees, no_members, named_then, computed_then}
use Rattle.aql_tree.specs.Tree.{StepTrees, no_steps, name_then, at_then, inline_then}
use Rattle.aql_tree.specs.Tree.{LinkTrees, no_links, link_then}
use Rattle.aql_meaning.specs.Row.{same_ident}
use Rattle.aql_meaning.specs.Uses.{used_variable, uses, all_uses, maybe_uses, member_uses, step_uses}
use Rattle.aql_meaning.specs.Uses.{link_uses}
use Rattle.aql_rewrite.specs.Children.{list_children, maybe_children, member_children, step_children, link_children, children}
use Rattle.aql_rewrite.specs.OverChildren.{over_children}
use Rattle.aql_rewrite.specs.Keeps.{variables, uses_variable}
use Rattle.aql_rewrite.specs.laws.Own.{own_variables, own_kept}
use Rattle.aql_rewrite.specs.laws.PartsBack.{new_parts}
use Rattle.aql_rewrite.specs.laws.PartCurrent.{OnlyWhere, either_only}

abbrev pub all_variables : List ExprTree → List Ident
all_variables es = flat_map variables es

first_then : (e : ExprTree) (us : _) (xs : List Ident) → map used_variable us ≡ xs
    → map used_variable (uses e ++ us) ≡ variables e ++ xs
first_then e us xs h = map-append used_variable (uses e) us ∙ ap (λ (ys : List Ident). variables e ++ ys) h

maybe_then : (e : MaybeExpr) (us : _) (es : List ExprTree) → map used_variable us ≡ all_variables es
    → map used_variable (maybe_uses e ++ us) ≡ all_variables (maybe_children e ++ es)
maybe_then no_expr us es h = h
maybe_then (one_expr e) us es h = first_then e us (all_variables es) h

list_split : (es : ExprTrees) → map used_variable (all_uses es) ≡ all_variables (list_children es)
list_split no_exprs = refl
list_split (expr_then e es) = first_then e (all_uses es) (all_variables (list_children es)) (list_split es)

members_split : (ms : MemberTrees) → map used_variable (member_uses ms) ≡ all_variables (member_children ms)
members_split no_members = refl
members_split (named_then name e ms) =
    first_then e (member_uses ms) (all_variables (member_children ms)) (members_split ms)
members_split (computed_then n e ms) =
    first_then n (uses e ++ member_uses ms) (all_variables (e ∷ member_children ms))
    (first_then e (member_uses ms) (all_variables (member_children ms)) (members_split ms))

steps_split : (ss : StepTrees) → map used_variable (step_uses ss) ≡ all_variables (step_children ss)
steps_split no_steps = refl
steps_split (name_then name ss) = steps_split ss
steps_split (at_then e ss) = first_then e (step_uses ss) (all_variables (step_children ss)) (steps_split ss)
steps_split (inline_then filter gives ss) =
    maybe_then filter (maybe_uses gives ++ step_uses ss) (maybe_children gives ++ step_children ss)
    (maybe_then gives (step_uses ss) (step_children ss) (steps_split ss))

links_split : (ls : LinkTrees) → map used_variable (link_uses ls) ≡ all_variables (link_children ls)
links_split no_links = refl
links_split (link_then op e ls) =
    first_then e (link_uses ls) (all_variables (link_children ls)) (links_split ls)

-- the variables of one expression alone
alone : (e : ExprTree) → variables e ≡ all_variables (e ∷ [])
alone e = sym (append-nil (variables e))

pub variables_split : (e : ExprTree) → variables e ≡ own_variables e ++ all_variables (children e)
variables_split (literal v) = refl
variables_split (variable x) = refl
variables_split current = refl
variables_split (array_literal es) = list_split es
variables_split (object_literal ms) = members_split ms
variables_split (access (variable x) (name_then name ss)) =
    ap (λ (xs : List Ident). x ∷ xs) (steps_split ss)
variables_split (access e ss) =
    first_then e (step_uses ss) (all_variables (step_children ss)) (steps_split ss)
variables_split (function_call name es) = list_split es
variables_split (unary_of op e) = alone e
variables_split (chain e ls) = first_then e (link_uses ls) (all_variables (link_children ls)) (links_split ls)
variables_split (array_comparison a kind op b) = first_then a (uses b) (all_variables (b ∷ [])) (alone b)
variables_split (ternary test middle other) =
    first_then test (maybe_uses middle ++ uses other) (all_variables (maybe_children middle ++ other ∷ []))
    (maybe_then middle (uses other) (other ∷ []) (alone other))
variables_split (range_of a b) = first_then a (uses b) (all_variables (b ∷ [])) (alone b)
variables_split (subquery q) = refl

module _ (x : Ident) where
  abbrev pub NoVariable : ExprTree → ExprTree → Type 0
  NoVariable p q = OnlyWhere (uses_variable x p) (uses_variable x q)

  abbrev any_of : List ExprTree → Bool
  any_of es = list_any (same_ident x) (all_variables es)

  each_only : (es ps : List ExprTree) → AllZip NoVariable es ps → OnlyWhere (any_of es) (any_of ps)
  each_only [] [] h = λ k. k
  each_only [] (p ∷ ps) h = absurd h
  each_only (e ∷ es) [] h = absurd h
  each_only (e ∷ es) (p ∷ ps) h = λ k.
      list_any-append (same_ident x) (variables e) (all_variables es)
      ∙ either_only (uses_variable x e) (uses_variable x p) (any_of es) (any_of ps) h.0 (each_only es ps h.1)
      (sym (list_any-append (same_ident x) (variables p) (all_variables ps)) ∙ k)

  used_split : (e : ExprTree)
      → uses_variable x e ≡ (list_any (same_ident x) (own_variables e) || any_of (children e))
  used_split e = ap (list_any (same_ident x)) (variables_split e)
      ∙ list_any-append (same_ident x) (own_variables e) (all_variables (children e))

  pub variables_only : (e : ExprTree) (ps : List ExprTree) → AllZip NoVariable (children e) ps
      → NoVariable e (over_children e ps)
  variables_only e ps h = λ k.
      used_split e
      ∙ either_only (list_any (same_ident x) (own_variables e)) (list_any (same_ident x) (own_variables e))
      (any_of (children e)) (any_of ps) (λ l. l) (each_only (children e) ps h)
      (sym (used_split (over_children e ps)
      ∙ ap₂ (λ (xs : List Ident) (qs : List ExprTree). list_any (same_ident x) xs || any_of qs)
      (own_kept e ps).same_variables (new_parts NoVariable e ps h)) ∙ k)
