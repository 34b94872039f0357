-- The parts of a condition, and the items among them, as the program finds them.
use Rattle.std.proofs.Common.{◌≡◌, ◌∙◌, List, [], ◌∷◌, length, map, None, refl, ap, rules}
use Rattle.aql_tree.specs.declared.syntax.Expr.{Expr, the_lemmas}
use Rattle.aql_tree.specs.declared.syntax.Expr as code
use Rattle.aql_tree.specs.declared.syntax.Ident.{Ident}
use Rattle.aql_tree.specs.Tree.{ExprTree, chain}
use Rattle.aql_tree.specs.View.{tree, links, link_part, LinkPart, StepPart, name, at, inline, steps}
use Rattle.aql_rules_index.specs.Choice.{lone_name, item_of}

pub chain_form : (x : Expr) (a ls : _) → x ≡ code.Chain a ls
    → tree x ≡ chain (tree a.value) (links (map link_part ls))
chain_form x a ls h =
    ap tree h ∙ (let k : tree (code.Chain a ls) ≡ chain (tree a.value) (links (map link_part ls))
    = search (rules, the_lemmas) in k)

-- other than one step is no attribute
pub not_one_step : (ss : List StepPart) → (length ss ≡ 1 → ⊥) → lone_name (steps ss) ≡ None
not_one_step [] h = refl
not_one_step (s ∷ []) h = absurd (h refl)
not_one_step (name n ∷ name m ∷ ss) h = refl
not_one_step (name n ∷ at e ∷ ss) h = refl
not_one_step (name n ∷ inline f g ∷ ss) h = refl
not_one_step (at e ∷ s ∷ ss) h = refl
not_one_step (inline f g ∷ s ∷ ss) h = refl

-- other than one link is no comparison
pub not_one_link : (e : ExprTree) (ls : List LinkPart) → (length ls ≡ 1 → ⊥) → (x : Ident)
    → item_of x (chain e (links ls)) ≡ None
not_one_link e [] h x = refl
not_one_link e (l ∷ []) h x = absurd (h refl)
not_one_link e (l ∷ k ∷ ls) h x = refl
