-- The bounds of an index once its equalities are written.
use Rattle.std.proofs.Common.{◌≡◌, ◌∙◌, ℕ, ◌<◌, ◌≤◌, List, [], ◌∷◌, length, drop, suc, get_or, ap, sym, refl}
use Rattle.std.proofs.lemmas.List.{drop_all}
use Rattle.std.proofs.Math.Seq.{drop-cons}
use Rattle.aql_tree.specs.Tree.{ExprTree}
use Rattle.aql_tree.specs.declared.syntax.Expr.{Expr}
use Rattle.aql_meaning.specs.Documents.{Last}
use Rattle.aql_plan.specs.View.{expr_trees}
use Rattle.aql_show.specs.Nodes.{attribute_text, bound_texts, last_texts}

pub last_bound : (names : List (List ℕ)) (document : List ℕ) (attributes : List (List ℕ)) (equal : List Expr)
    (last : Last ExprTree) (i : ℕ) (a : List ℕ)
    → length equal ≤ i → i < length attributes → a ≡ get_or attributes i a
    → bound_texts names document (drop i attributes) (expr_trees (drop i equal)) last
    ≡ last_texts names (attribute_text document a) last
last_bound names document attributes equal last i a ended within there =
    let none : drop i equal ≡ [] = drop_all i equal ended in
    let here : drop i attributes ≡ a ∷ drop (suc i) attributes
    = drop-cons attributes i a within
    ∙ ap (λ x. x ∷ drop (suc i) attributes) (sym there) in
    rw (none, here) refl
