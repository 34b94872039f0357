-- The tree of each form of an expression of the program, its parts, and the form over other parts.
use Rattle.std.proofs.Common.{rules, ◌≡◌, ◌∙◌, ◌++◌, ◌∷◌, [], List, map, ap, ap₂, refl, option_map}
use Rattle.std.specs.Prelude.{Option, Some, None}
use Rattle.aql_tree.specs.Tree.{ExprTree, array_literal, object_literal, access, function_call, unary_of}
use Rattle.aql_tree.specs.Tree.{chain}
use Rattle.aql_tree.specs.Tree.{array_comparison, ternary, range_of, expr_then, no_expr, one_expr}
use Rattle.aql_tree.specs.Tree.{named_then, computed_then, name_then, at_then, inline_then, link_then}
use Rattle.aql_tree.specs.declared.syntax.Expr.{Expr, the_lemmas}
use Rattle.aql_tree.specs.declared.syntax.Expr as code
use Rattle.aql_tree.specs.View.{tree, trees, members, MemberPart, named, computed, member_part}
use Rattle.aql_tree.specs.View.{steps, StepPart, name, at, inline, step_part, links, LinkPart, link_part}
use Rattle.aql_tree.specs.View.{maybe}
use Rattle.aql_tree.specs.laws.Parts.{access_form, ternary_form, range_form}
use Rattle.aql_rewrite.specs.Children.{children, list_children, member_children, step_children, link_children, maybe_children}
use Rattle.aql_rewrite.specs.OverChildren.{first_or, after_first, over_list, over_maybe, after_maybe}
use Rattle.aql_rewrite.specs.OverChildren.{over_members, over_steps, over_links, over_children}
use Rattle.aql_rewrite.specs.ExprView.{each_over, option_over, after_option}
use Rattle.aql_rewrite.specs.ExprView.{members_over, steps_over, links_over}

-- ---- the trees

pub list_form : (e : Expr) (es : _) → e ≡ code.List es → tree e ≡ array_literal (trees (map tree es))
list_form e es h =
    ap tree h ∙ (let k : tree (code.List es) ≡ array_literal (trees (map tree es))
    = search (rules, the_lemmas) in k)

pub object_form : (e : Expr) (fs : _) → e ≡ code.Object fs → tree e ≡ object_literal (members (map member_part fs))
object_form e fs h =
    ap tree h ∙ (let k : tree (code.Object fs) ≡ object_literal (members (map member_part fs))
    = search (rules, the_lemmas) in k)

pub call_form : (e : Expr) (n es : _) → e ≡ code.Call n es → tree e ≡ function_call n (trees (map tree es))
call_form e n es h =
    ap tree h ∙ (let k : tree (code.Call n es) ≡ function_call n (trees (map tree es))
    = search (rules, the_lemmas) in k)

unary_form : (e : Expr) (op a : _) → e ≡ code.Unary op a → tree e ≡ unary_of op (tree a.value)
unary_form e op a h =
    ap tree h ∙ (let k : tree (code.Unary op a) ≡ unary_of op (tree a.value) = search (rules, the_lemmas) in k)

pub chain_form : (e : Expr) (a ls : _) → e ≡ code.Chain a ls
    → tree e ≡ chain (tree a.value) (links (map link_part ls))
chain_form e a ls h =
    ap tree h ∙ (let k : tree (code.Chain a ls) ≡ chain (tree a.value) (links (map link_part ls))
    = search (rules, the_lemmas) in k)

quant_form : (e : Expr) (a kind op b : _) → e ≡ code.Quant a kind op b
    → tree e ≡ array_comparison (tree a.value) kind op (tree b.value)
quant_form e a kind op b h =
    ap tree h ∙ (let k : tree (code.Quant a kind op b) ≡ array_comparison (tree a.value) kind op (tree b.value)
    = search (rules, the_lemmas) in k)

-- ---- the parts

trees_parts : (es : List ExprTree) → list_children (trees es) ≡ es
trees_parts [] = refl
trees_parts (e ∷ es) = ap (λ xs. e ∷ xs) (trees_parts es)

pub list_has : (e : Expr) (es : _) → e ≡ code.List es → children (tree e) ≡ map tree es
list_has e es h = ap children (list_form e es h) ∙ trees_parts (map tree es)

pub object_has : (e : Expr) (fs : _) → e ≡ code.Object fs
    → children (tree e) ≡ member_children (members (map member_part fs))
object_has e fs h = ap children (object_form e fs h)

pub access_has : (e : Expr) (a ss : _) → e ≡ code.Access a ss
    → children (tree e) ≡ tree a.value ∷ step_children (steps (map step_part ss))
access_has e a ss h = ap children (access_form e a ss h)

pub call_has : (e : Expr) (n es : _) → e ≡ code.Call n es → children (tree e) ≡ map tree es
call_has e n es h = ap children (call_form e n es h) ∙ trees_parts (map tree es)

pub unary_has : (e : Expr) (op a : _) → e ≡ code.Unary op a → children (tree e) ≡ tree a.value ∷ []
unary_has e op a h = ap children (unary_form e op a h)

pub chain_has : (e : Expr) (a ls : _) → e ≡ code.Chain a ls
    → children (tree e) ≡ tree a.value ∷ link_children (links (map link_part ls))
chain_has e a ls h = ap children (chain_form e a ls h)

pub quant_has : (e : Expr) (a k op b : _) → e ≡ code.Quant a k op b
    → children (tree e) ≡ tree a.value ∷ tree b.value ∷ []
quant_has e a k op b h = ap children (quant_form e a k op b h)

pub cond_has : (e : Expr) (t m o : _) → e ≡ code.Cond t m o
    → children (tree e) ≡ tree t.value
    ∷ (maybe_children (maybe (option_map (λ b. tree b.value) m)) ++ tree o.value ∷ [])
cond_has e t m o h = ap children (ternary_form e t m o h)

pub range_has : (e : Expr) (a b : _) → e ≡ code.Range a b
    → children (tree e) ≡ tree a.value ∷ tree b.value ∷ []
range_has e a b h = ap children (range_form e a b h)

-- ---- over other parts

list_over : (es ps : List ExprTree) → over_list (trees es) ps ≡ trees (each_over es ps)
list_over [] ps = refl
list_over (e ∷ es) ps = ap (λ ds. expr_then (first_or e ps) ds) (list_over es (after_first ps))

maybe_over : (o : Option ExprTree) (ps : List ExprTree) → over_maybe (maybe o) ps ≡ maybe (option_over o ps)
maybe_over None ps = refl
maybe_over (Some e) ps = refl

after_over : (o : Option ExprTree) (ps : List ExprTree) → after_maybe (maybe o) ps ≡ after_option o ps
after_over None ps = refl
after_over (Some e) ps = refl

fields_over : (ms : List MemberPart) (ps : List ExprTree)
    → over_members (members ms) ps ≡ members (members_over ms ps)
fields_over [] ps = refl
fields_over (named n e ∷ ms) ps = ap (λ ns. named_then n (first_or e ps) ns) (fields_over ms (after_first ps))
fields_over (computed n e ∷ ms) ps = ap (λ ns. computed_then (first_or n ps) (first_or e (after_first ps)) ns)
    (fields_over ms (after_first (after_first ps)))

all_steps_over : (ss : List StepPart) (ps : List ExprTree) → over_steps (steps ss) ps ≡ steps (steps_over ss ps)
all_steps_over [] ps = refl
all_steps_over (name n ∷ ss) ps = ap (λ rs. name_then n rs) (all_steps_over ss ps)
all_steps_over (at e ∷ ss) ps = ap (λ rs. at_then (first_or e ps) rs) (all_steps_over ss (after_first ps))
all_steps_over (inline None None ∷ ss) ps = ap (λ rs. inline_then no_expr no_expr rs) (all_steps_over ss ps)
all_steps_over (inline None (Some g) ∷ ss) ps =
    ap (λ rs. inline_then no_expr (one_expr (first_or g ps)) rs) (all_steps_over ss (after_first ps))
all_steps_over (inline (Some f) None ∷ ss) ps =
    ap (λ rs. inline_then (one_expr (first_or f ps)) no_expr rs) (all_steps_over ss (after_first ps))
all_steps_over (inline (Some f) (Some g) ∷ ss) ps =
    ap (λ rs. inline_then (one_expr (first_or f ps)) (one_expr (first_or g (after_first ps))) rs)
    (all_steps_over ss (after_first (after_first ps)))

all_links_over : (ls : List LinkPart) (ps : List ExprTree) → over_links (links ls) ps ≡ links (links_over ls ps)
all_links_over [] ps = refl
all_links_over (l ∷ ls) ps =
    ap (λ ks. link_then l.0 (first_or l.1 ps) ks) (all_links_over ls (after_first ps))

module _ (ps : List ExprTree) where
  pub over_a_list : (e : Expr) (es : _) → e ≡ code.List es
      → over_children (tree e) ps ≡ array_literal (trees (each_over (map tree es) ps))
  over_a_list e es h = ap (λ t. over_children t ps) (list_form e es h) ∙ ap array_literal (list_over (map tree es) ps)

  pub over_an_object : (e : Expr) (fs : _) → e ≡ code.Object fs
      → over_children (tree e) ps ≡ object_literal (members (members_over (map member_part fs) ps))
  over_an_object e fs h =
      ap (λ t. over_children t ps) (object_form e fs h)
      ∙ ap object_literal (fields_over (map member_part fs) ps)

  pub over_an_access : (e : Expr) (a ss : _) → e ≡ code.Access a ss → over_children (tree e) ps
      ≡ access (first_or (tree a.value) ps) (steps (steps_over (map step_part ss) (after_first ps)))
  over_an_access e a ss h = ap (λ t. over_children t ps) (access_form e a ss h)
      ∙ ap (access (first_or (tree a.value) ps)) (all_steps_over (map step_part ss) (after_first ps))

  pub over_a_call : (e : Expr) (n es : _) → e ≡ code.Call n es
      → over_children (tree e) ps ≡ function_call n (trees (each_over (map tree es) ps))
  over_a_call e n es h =
      ap (λ t. over_children t ps) (call_form e n es h) ∙ ap (function_call n) (list_over (map tree es) ps)

  pub over_a_unary : (e : Expr) (op a : _) → e ≡ code.Unary op a
      → over_children (tree e) ps ≡ unary_of op (first_or (tree a.value) ps)
  over_a_unary e op a h = ap (λ t. over_children t ps) (unary_form e op a h)

  pub over_a_chain : (e : Expr) (a ls : _) → e ≡ code.Chain a ls → over_children (tree e) ps
      ≡ chain (first_or (tree a.value) ps) (links (links_over (map link_part ls) (after_first ps)))
  over_a_chain e a ls h = ap (λ t. over_children t ps) (chain_form e a ls h)
      ∙ ap (chain (first_or (tree a.value) ps)) (all_links_over (map link_part ls) (after_first ps))

  pub over_a_quant : (e : Expr) (a k op b : _) → e ≡ code.Quant a k op b → over_children (tree e) ps
      ≡ array_comparison (first_or (tree a.value) ps) k op (first_or (tree b.value) (after_first ps))
  over_a_quant e a k op b h = ap (λ t. over_children t ps) (quant_form e a k op b h)

  pub over_a_cond : (e : Expr) (t m o : _) → e ≡ code.Cond t m o → over_children (tree e) ps
      ≡ ternary (first_or (tree t.value) ps) (maybe (option_over (option_map (λ b. tree b.value) m) (after_first ps)))
      (first_or (tree o.value) (after_option (option_map (λ b. tree b.value) m) (after_first ps)))
  over_a_cond e t m o h =
      let middle = option_map (λ b. tree b.value) m in
      ap (λ t. over_children t ps) (ternary_form e t m o h)
      ∙ ap₂ (λ x qs. ternary (first_or (tree t.value) ps) x (first_or (tree o.value) qs))
      (maybe_over middle (after_first ps)) (after_over middle (after_first ps))

  pub over_a_range : (e : Expr) (a b : _) → e ≡ code.Range a b → over_children (tree e) ps
      ≡ range_of (first_or (tree a.value) ps) (first_or (tree b.value) (after_first ps))
  over_a_range e a b h = ap (λ t. over_children t ps) (range_form e a b h)

-- ---- what is built

pub list_built : (xs : _) (ds : List ExprTree) → map tree xs ≡ ds → tree (code.List xs) ≡ array_literal (trees ds)
list_built xs ds h = list_form (code.List xs) xs refl ∙ ap (λ ts. array_literal (trees ts)) h

pub object_built : (fs : _) (ms : List MemberPart) → map member_part fs ≡ ms
    → tree (code.Object fs) ≡ object_literal (members ms)
object_built fs ms h = object_form (code.Object fs) fs refl ∙ ap (λ ns. object_literal (members ns)) h

pub call_built : (n m xs : _) (ds : List ExprTree) → n ≡ m → map tree xs ≡ ds
    → tree (code.Call n xs) ≡ function_call m (trees ds)
call_built n m xs ds h k =
    call_form (code.Call n xs) n xs refl ∙ ap₂ (λ name ts. function_call name (trees ts)) h k
