-- An expression over its renamed parts is the renamed expression, where it is no variable itself; and what
-- a variable is called in the end.
use Rattle.std.proofs.Common.{◌≡◌, ◌∙◌, ℕ, List, [], ◌++◌, map, refl, ap, ap₂, sym}
use Rattle.std.specs.Prelude.{Some, None}
use Rattle.std.proofs.lemmas.List.{map-id, map-append}
use Rattle.aql_tree.specs.declared.syntax.Ident.{Ident}
use Rattle.aql_tree.specs.declared.syntax.Ident.TheVariants.{Num, Name}
use Rattle.aql_tree.specs.Tree.{ExprTree, literal, variable, current, array_literal, object_literal, access}
use Rattle.aql_tree.specs.Tree.{function_call, unary_of, chain, array_comparison, ternary, range_of, subquery}
use Rattle.aql_tree.specs.Tree.{ExprTrees, no_exprs, expr_then, MaybeExpr, no_expr, one_expr}
use Rattle.aql_tree.specs.Tree.{MemberTrees, no_members, named_then, computed_then}
use Rattle.aql_tree.specs.Tree.{StepTrees, no_steps, name_then, at_then, inline_then}
use Rattle.aql_tree.specs.Tree.{LinkTrees, no_links, link_then}
use Rattle.aql_meaning.specs.Plain.{IsPlain}
use Rattle.aql_meaning.specs.Substitution.{put_all, put_maybe, put_members, put_steps, put_links}
use Rattle.aql_rewrite.specs.Children.{list_children, maybe_children, member_children, step_children, link_children, children}
use Rattle.aql_rewrite.specs.OverChildren.{over_list, over_maybe, after_maybe}
use Rattle.aql_rewrite.specs.OverChildren.{over_members, over_steps, over_links, over_children}
use Rattle.aql_rewrite.specs.declared.swap.Rename.{Rename}
use Rattle.aql_rewrite.specs.Plain.{variable_in}
use Rattle.aql_rewrite.specs.Renames.{each, renaming, put_each}
use Rattle.aql_rewrite.specs.laws.Renamings.{still, through, through_two, through_three}

-- one renaming in what an expression is made of
abbrev all_put : Rename → ExprTrees → ExprTrees
all_put r es = put_all (Num r.from) (variable (Num r.to)) es

abbrev maybe_put : Rename → MaybeExpr → MaybeExpr
maybe_put r e = put_maybe (Num r.from) (variable (Num r.to)) e

abbrev members_put : Rename → MemberTrees → MemberTrees
members_put r ms = put_members (Num r.from) (variable (Num r.to)) ms

abbrev steps_put : Rename → StepTrees → StepTrees
steps_put r ss = put_steps (Num r.from) (variable (Num r.to)) ss

abbrev links_put : Rename → LinkTrees → LinkTrees
links_put r ls = put_links (Num r.from) (variable (Num r.to)) ls

module _ (rs : List Rename) where
  abbrev New : List ExprTree → List ExprTree
  New es = map (put_each rs) es

  list_over : (es : ExprTrees) → over_list es (New (list_children es)) ≡ each all_put rs es
  list_over no_exprs = sym (still all_put no_exprs (λ r. refl) rs)
  list_over (expr_then e es) = ap (expr_then (put_each rs e)) (list_over es)
      ∙ sym (through_two renaming all_put all_put expr_then (λ r a b. refl) rs e es)

  members_over : (ms : MemberTrees) → over_members ms (New (member_children ms)) ≡ each members_put rs ms
  members_over no_members = sym (still members_put no_members (λ r. refl) rs)
  members_over (named_then name e ms) = ap (named_then name (put_each rs e)) (members_over ms)
      ∙ sym (through_two renaming members_put members_put (named_then name) (λ r a b. refl) rs e ms)
  members_over (computed_then n e ms) = ap (computed_then (put_each rs n) (put_each rs e)) (members_over ms)
      ∙ sym (through_three renaming renaming members_put members_put computed_then
      (λ r a b c. refl) rs n e ms)

  maybe_over : (e : MaybeExpr) (more : List ExprTree)
      → (over_maybe e (New (maybe_children e) ++ more) ≡ each maybe_put rs e)
      × (after_maybe e (New (maybe_children e) ++ more) ≡ more)
  maybe_over no_expr more = (sym (still maybe_put no_expr (λ r. refl) rs), refl)
  maybe_over (one_expr e) more = (sym (through renaming maybe_put one_expr (λ r a. refl) rs e), refl)

  steps_over : (ss : StepTrees) → over_steps ss (New (step_children ss)) ≡ each steps_put rs ss
  steps_over no_steps = sym (still steps_put no_steps (λ r. refl) rs)
  steps_over (name_then name ss) = ap (name_then name) (steps_over ss)
      ∙ sym (through steps_put steps_put (name_then name) (λ r a. refl) rs ss)
  steps_over (at_then e ss) = ap (at_then (put_each rs e)) (steps_over ss)
      ∙ sym (through_two renaming steps_put steps_put at_then (λ r a b. refl) rs e ss)
  steps_over (inline_then filter gives ss) =
      let rest = New (step_children ss) in
      let more = New (maybe_children gives) ++ rest in
      let f = maybe_over filter more in
      let g = maybe_over gives rest in
      ap (over_steps (inline_then filter gives ss))
      (map-append (put_each rs) (maybe_children filter) (maybe_children gives ++ step_children ss)
      ∙ ap (λ (ds : List ExprTree). New (maybe_children filter) ++ ds)
      (map-append (put_each rs) (maybe_children gives) (step_children ss)))
      ∙ ap₂ (λ a b. inline_then a b (over_steps ss (after_maybe gives (after_maybe filter
      (New (maybe_children filter) ++ more))))) f.0 (ap (over_maybe gives) f.1 ∙ g.0)
      ∙ ap (inline_then (each maybe_put rs filter) (each maybe_put rs gives))
      (ap (over_steps ss) (ap (after_maybe gives) f.1 ∙ g.1) ∙ steps_over ss)
      ∙ sym (through_three maybe_put maybe_put steps_put steps_put inline_then (λ r a b c. refl) rs filter
      gives ss)

  links_over : (ls : LinkTrees) → over_links ls (New (link_children ls)) ≡ each links_put rs ls
  links_over no_links = sym (still links_put no_links (λ r. refl) rs)
  links_over (link_then op e ls) = ap (link_then op (put_each rs e)) (links_over ls)
      ∙ sym (through_two renaming links_put links_put (link_then op) (λ r a b. refl) rs e ls)

  ternary_over : (test : ExprTree) (middle : MaybeExpr) (other : ExprTree)
      → over_children (ternary test middle other) (New (children (ternary test middle other)))
      ≡ ternary (put_each rs test) (each maybe_put rs middle) (put_each rs other)
  ternary_over test no_expr other =
      ap (λ m. ternary (put_each rs test) m (put_each rs other))
      (sym (still maybe_put no_expr (λ r. refl) rs))
  ternary_over test (one_expr e) other =
      ap (λ m. ternary (put_each rs test) m (put_each rs other))
      (sym (through renaming maybe_put one_expr (λ r a. refl) rs e))

  pub whole_each : (e : ExprTree) → IsPlain e → variable_in e ≡ None
      → over_children e (New (children e)) ≡ put_each rs e
  whole_each (literal v) h n = sym (still renaming (literal v) (λ r. refl) rs)
  whole_each (variable z) h n = cc
  whole_each current h n = sym (still renaming current (λ r. refl) rs)
  whole_each (array_literal es) h n = ap array_literal (list_over es)
      ∙ sym (through all_put renaming array_literal (λ r a. refl) rs es)
  whole_each (object_literal ms) h n = ap object_literal (members_over ms)
      ∙ sym (through members_put renaming object_literal (λ r a. refl) rs ms)
  whole_each (access e ss) h n = ap (access (put_each rs e)) (steps_over ss)
      ∙ sym (through_two renaming steps_put renaming access (λ r a b. refl) rs e ss)
  whole_each (function_call name es) h n = ap (function_call name) (list_over es)
      ∙ sym (through all_put renaming (function_call name) (λ r a. refl) rs es)
  whole_each (unary_of op e) h n = sym (through renaming renaming (unary_of op) (λ r a. refl) rs e)
  whole_each (chain e ls) h n = ap (chain (put_each rs e)) (links_over ls)
      ∙ sym (through_two renaming links_put renaming chain (λ r a b. refl) rs e ls)
  whole_each (array_comparison a kind op b) h n =
      sym (through_two renaming renaming renaming (λ c d. array_comparison c kind op d)
      (λ r c d. refl) rs a b)
  whole_each (ternary test middle other) h n = ternary_over test middle other
      ∙ sym (through_three renaming maybe_put renaming renaming ternary
      (λ r a b c. refl) rs test middle other)
  whole_each (range_of a b) h n = sym (through_two renaming renaming renaming range_of (λ r c d. refl) rs a b)
  whole_each (subquery s) h n = absurd h

-- where the parts stay as they are, so does the whole
pub whole_stays : (rs : List Rename) (e : ExprTree) → IsPlain e → variable_in e ≡ None
    → children e ≡ map (put_each rs) (children e) → e ≡ put_each rs e
whole_stays rs e h n k =
    sym (ap (over_children e) (sym (map-id (children e))) ∙ whole_each [] e h n)
    ∙ ap (over_children e) k ∙ whole_each rs e h n

-- a name is no number
pub name_stays : (rs : List Rename) (s : List ℕ) → put_each rs (variable (Name s)) ≡ variable (Name s)
name_stays rs s = still renaming (variable (Name s)) (λ r. refl) rs

pub of_variable : (e : ExprTree) (z : Ident) → variable_in e ≡ Some z → e ≡ variable z
of_variable (variable x) z h = let k : x ≡ z = cc in ap (λ (y : Ident). variable y) k
of_variable e z h = cc
