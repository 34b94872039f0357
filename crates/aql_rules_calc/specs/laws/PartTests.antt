-- Variables and CURRENT of a form are those of its parts.
use Rattle.std.proofs.Common.{◌≡◌, ◌∙◌, [], ◌∷◌, List, Bool, refl, ap}
use Rattle.std.specs.Prelude.{◌||◌}
use Rattle.std.specs.List.{list_any}
use Rattle.std.proofs.lemmas.List.Folds.{list_any-append}
use Rattle.aql_tree.specs.declared.syntax.Ident.{Ident}
use Rattle.aql_tree.specs.Tree.{ExprTree, array_literal, object_literal, access, chain, ExprTrees, no_exprs}
use Rattle.aql_tree.specs.Tree.{expr_then, LinkTrees, no_links, link_then, StepTrees, MemberTrees, no_members}
use Rattle.aql_tree.specs.Tree.{named_then, computed_then}
use Rattle.aql_meaning.specs.Row.{same_ident}
use Rattle.aql_rewrite.specs.Keeps.{variables, uses_variable, uses_current, links_current}
use Rattle.aql_rewrite.specs.Children.{list_children, link_children, member_children, step_children}
use Rattle.aql_rewrite.specs.laws.PartVariables.{all_variables, variables_split}

any_variable : (x : Ident) (es : List ExprTree)
    → list_any (same_ident x) (all_variables es) ≡ list_any (uses_variable x) es
any_variable x [] = refl
any_variable x (e ∷ es) = list_any-append (same_ident x) (variables e) (all_variables es)
    ∙ ap (λ (b : Bool). uses_variable x e || b) (any_variable x es)

pub chain_variables : (x : Ident) (e : ExprTree) (ls : LinkTrees)
    → uses_variable x (chain e ls) ≡ list_any (uses_variable x) (e ∷ link_children ls)
chain_variables x e ls =
    ap (list_any (same_ident x)) (variables_split (chain e ls)) ∙ any_variable x (e ∷ link_children ls)

pub list_variables : (x : Ident) (es : ExprTrees)
    → uses_variable x (array_literal es) ≡ list_any (uses_variable x) (list_children es)
list_variables x es =
    ap (list_any (same_ident x)) (variables_split (array_literal es)) ∙ any_variable x (list_children es)

pub object_variables : (x : Ident) (ms : MemberTrees)
    → uses_variable x (object_literal ms) ≡ list_any (uses_variable x) (member_children ms)
object_variables x ms =
    ap (list_any (same_ident x)) (variables_split (object_literal ms)) ∙ any_variable x (member_children ms)

pub access_variables : (x : Ident) (e : ExprTree) (ss : StepTrees)
    → uses_variable x (access e ss) ≡ (uses_variable x e || list_any (uses_variable x) (step_children ss))
access_variables x e ss =
    ap (list_any (same_ident x)) (variables_split (access e ss)) ∙ any_variable x (e ∷ step_children ss)

links_with_current : (ls : LinkTrees) → links_current ls ≡ list_any uses_current (link_children ls)
links_with_current no_links = refl
links_with_current (link_then op e ls) = ap (λ (b : Bool). uses_current e || b) (links_with_current ls)

pub chain_current : (e : ExprTree) (ls : LinkTrees)
    → uses_current (chain e ls) ≡ list_any uses_current (e ∷ link_children ls)
chain_current e ls = ap (λ (b : Bool). uses_current e || b) (links_with_current ls)

pub list_with_current : (es : ExprTrees)
    → uses_current (array_literal es) ≡ list_any uses_current (list_children es)
list_with_current no_exprs = refl
list_with_current (expr_then e es) = ap (λ (b : Bool). uses_current e || b) (list_with_current es)

pub object_current : (ms : MemberTrees)
    → uses_current (object_literal ms) ≡ list_any uses_current (member_children ms)
object_current no_members = refl
object_current (named_then name e ms) = ap (λ (b : Bool). uses_current e || b) (object_current ms)
object_current (computed_then n e ms) =
    ap (λ (b : Bool). uses_current n || (uses_current e || b)) (object_current ms)
