-- Two expressions of one form are the same where their parts are.
use Rattle.std.proofs.Common.{◌≡◌, ◌∙◌, Bool, true, map, ap, ap₂, sym}
use Rattle.std.specs.Prelude.{◌&&◌, bytes_eq}
use Rattle.std.specs.Cmp.Lexicographic.{pointwise}
use Rattle.aql_tree.specs.declared.syntax.Expr.{Expr}
use Rattle.aql_tree.specs.declared.syntax.Expr as code
use Rattle.aql_tree.specs.View.{tree, trees, member_part, steps, step_part, links, link_part}
use Rattle.aql_tree.specs.laws.Parts.{access_form}
use Rattle.aql_rewrite.specs.inner.Same.{same_expr, same_list, same_steps, same_links, same_member, same_step, same_link}
use Rattle.aql_rewrite.specs.laws.Sameness.{list_pairs, member_pairs, step_pairs, link_pairs}
use Rattle.aql_rewrite.proofs.Forms.{list_form, object_form, call_form, chain_form}

pub lists_compared : (a b : Expr) (xs ys : _) (answer : Bool) → a ≡ code.List xs → b ≡ code.List ys
    → answer ≡ pointwise same_expr (map tree xs) (map tree ys) → answer ≡ same_expr (tree a) (tree b)
lists_compared a b xs ys answer h k e = e ∙ sym (list_pairs (map tree xs) (map tree ys))
    ∙ ap₂ same_expr (sym (list_form a xs h)) (sym (list_form b ys k))

pub objects_compared : (a b : Expr) (xs ys : _) (answer : Bool) → a ≡ code.Object xs → b ≡ code.Object ys
    → answer ≡ pointwise same_member (map member_part xs) (map member_part ys)
    → answer ≡ same_expr (tree a) (tree b)
objects_compared a b xs ys answer h k e = e ∙ sym (member_pairs (map member_part xs) (map member_part ys))
    ∙ ap₂ same_expr (sym (object_form a xs h)) (sym (object_form b ys k))

pub accesses_compared : (a b : Expr) (x y xs ys : _) (answer : Bool)
    → a ≡ code.Access x xs → b ≡ code.Access y ys → same_expr (tree x.value) (tree y.value) ≡ true
    → answer ≡ pointwise same_step (map step_part xs) (map step_part ys) → answer ≡ same_expr (tree a) (tree b)
accesses_compared a b x y xs ys answer h k s e = e ∙ sym (step_pairs (map step_part xs) (map step_part ys))
    ∙ ap (λ v. v && same_steps (steps (map step_part xs)) (steps (map step_part ys))) (sym s)
    ∙ ap₂ same_expr (sym (access_form a x xs h)) (sym (access_form b y ys k))

pub calls_compared : (a b : Expr) (n m xs ys : _) (answer : Bool)
    → a ≡ code.Call n xs → b ≡ code.Call m ys → bytes_eq n m ≡ true
    → answer ≡ pointwise same_expr (map tree xs) (map tree ys) → answer ≡ same_expr (tree a) (tree b)
calls_compared a b n m xs ys answer h k s e = e ∙ sym (list_pairs (map tree xs) (map tree ys))
    ∙ ap (λ v. v && same_list (trees (map tree xs)) (trees (map tree ys))) (sym s)
    ∙ ap₂ same_expr (sym (call_form a n xs h)) (sym (call_form b m ys k))

pub chains_compared : (a b : Expr) (x y xs ys : _) (answer : Bool)
    → a ≡ code.Chain x xs → b ≡ code.Chain y ys → same_expr (tree x.value) (tree y.value) ≡ true
    → answer ≡ pointwise same_link (map link_part xs) (map link_part ys) → answer ≡ same_expr (tree a) (tree b)
chains_compared a b x y xs ys answer h k s e = e ∙ sym (link_pairs (map link_part xs) (map link_part ys))
    ∙ ap (λ v. v && same_links (links (map link_part xs)) (links (map link_part ys))) (sym s)
    ∙ ap₂ same_expr (sym (chain_form a x xs h)) (sym (chain_form b y ys k))
