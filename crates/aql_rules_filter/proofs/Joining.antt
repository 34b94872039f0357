-- Conditions that are joined where the first one stands.
use Rattle.std.proofs.Common.{◌≡◌, ◌∙◌, List, [], ◌∷◌, ◌++◌, map, Bool, true, false, cond, refl, ap, ap₂, sym, rules}
use Rattle.std.proofs.lemmas.Bool.{and_parts}
use Rattle.aql_value.specs.declared.operators.BinOp.TheVariants.{And}
use Rattle.aql_tree.specs.declared.syntax.Expr.{Expr, the_lemmas}
use Rattle.aql_tree.specs.declared.syntax.Expr as code
use Rattle.aql_tree.specs.Tree.{ExprTree, chain, no_expr, one_expr, LinkTrees, no_links, link_then}
use Rattle.aql_tree.specs.View.{tree, links, link_part, LinkPart}
use Rattle.aql_plan.specs.FirstPlan.{is_and, all_and, right_sides, conjuncts}
use Rattle.aql_rules_filter.specs.Conditions.{and_links, with_more, all_of, joined}
use Rattle.aql_rules_filter.specs.Readers.{and_link}
use Rattle.aql_rules_filter.specs.laws.Joined.{is_it}

pub chain_form : (x : Expr) (a ls : _) → x ≡ code.Chain a ls
    → tree x ≡ chain (tree a.value) (links (map link_part ls))
chain_form x a ls h =
    ap tree h ∙ (let k : tree (code.Chain a ls) ≡ chain (tree a.value) (links (map link_part ls))
    = search (rules, the_lemmas) in k)

-- an expression that is no chain has one part
pub one_part : (x : Expr) → ((a ls : _) → x ≡ code.Chain a ls → ⊥) → conjuncts (tree x) ≡ tree x ∷ []
one_part x not = search (rules, the_lemmas, not)

pub other_chain : (e : ExprTree) (ls : LinkTrees) → all_and ls ≡ false
    → conjuncts (chain e ls) ≡ chain e ls ∷ []
other_chain e ls h = ap (λ b. cond b (e ∷ right_sides ls) (chain e ls ∷ [])) h

-- ---- at least one item

links_linked : (es : List ExprTree) → links (map and_link es) ≡ and_links es
links_linked [] = refl
links_linked (e ∷ es) = ap (link_then And e) (links_linked es)

-- the right sides of `&&` links, and more of them
more_linked : (ls : List LinkPart) (es : List ExprTree) → all_and (links ls) ≡ true
    → links (ls ++ map and_link es) ≡ and_links (right_sides (links ls) ++ es)
more_linked [] es h = links_linked es
more_linked (l ∷ ls) es h =
    let k = and_parts (is_and l.0) (all_and (links ls)) h in
    ap₂ (λ op ms. link_then op l.1 ms) (is_it l.0 k.0) (more_linked ls es k.1)

-- with items of a condition, of which there is one at least
with_items : (e f : ExprTree) (ds : List ExprTree)
    → chain e (and_links (ds ++ conjuncts f)) ≡ with_more e (ds ++ conjuncts f)
with_items e f (d ∷ ds) = refl
with_items e (chain g ls) [] = by (all_and ls)
  where
    by : (b : Bool) → chain e (and_links (cond b (g ∷ right_sides ls) (chain g ls ∷ [])))
        ≡ with_more e (cond b (g ∷ right_sides ls) (chain g ls ∷ []))
    by true = refl
    by false = refl
with_items e f [] = refl

-- an `&&` chain with the items of a condition after its own
pub chain_joined : (t u e f : ExprTree) (ls ms : List LinkPart) → u ≡ chain e (links ls)
    → t ≡ chain e (links ms) → all_and (links ls) ≡ true → ms ≡ ls ++ map and_link (conjuncts f)
    → t ≡ joined (one_expr u) f
chain_joined t u e f ls ms h k ands more =
    k ∙ ap (λ ns. chain e (links ns)) more ∙ ap (chain e) (more_linked ls (conjuncts f) ands)
    ∙ with_items e f (right_sides (links ls))
    ∙ sym (ap (λ v. all_of (conjuncts v ++ conjuncts f)) h
    ∙ ap (λ b. all_of (cond b (e ∷ right_sides (links ls)) (chain e (links ls) ∷ []) ++ conjuncts f)) ands)

-- another condition with the items of one after it
pub one_joined : (t e f : ExprTree) (ms : List LinkPart) → conjuncts e ≡ e ∷ [] → t ≡ chain e (links ms)
    → ms ≡ map and_link (conjuncts f) → t ≡ joined (one_expr e) f
one_joined t e f ms h k more =
    k ∙ ap (λ ns. chain e (links ns)) more ∙ ap (chain e) (links_linked (conjuncts f)) ∙ with_items e f []
    ∙ sym (ap (λ es. all_of (es ++ conjuncts f)) h)

-- ---- a condition alone

pub alone : (e : ExprTree) → conjuncts e ≡ e ∷ [] → e ≡ joined no_expr e
alone e h = sym (ap all_of h)

sides_linked : (ls : LinkTrees) → all_and ls ≡ true → ls ≡ and_links (right_sides ls)
sides_linked no_links h = refl
sides_linked (link_then op e ls) h =
    let k = and_parts (is_and op) (all_and ls) h in
    ap₂ (λ o ms. link_then o e ms) (is_it op k.0) (sides_linked ls k.1)

pub chain_alone : (e : ExprTree) (ls : List LinkPart) → (ls ≡ [] → ⊥)
    → chain e (links ls) ≡ joined no_expr (chain e (links ls))
chain_alone e [] h = absurd (h refl)
chain_alone e (l ∷ ls) h = by (all_and (links (l ∷ ls))) refl
  where
    by : (b : Bool) → all_and (links (l ∷ ls)) ≡ b → chain e (links (l ∷ ls))
        ≡ all_of (cond b (e ∷ right_sides (links (l ∷ ls))) (chain e (links (l ∷ ls)) ∷ []))
    by true k = ap (chain e) (sides_linked (links (l ∷ ls)) k)
    by false k = refl
