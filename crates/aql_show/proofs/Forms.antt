-- The texts of expressions with brackets, part by part.
use Rattle.std.proofs.Common.{◌≡◌, ℕ, List, ◌++◌, option_map, append_assoc}
use Rattle.std.specs.Prelude.{codes}
use Rattle.aql_tree.specs.declared.syntax.Expr.{Expr, the_lemmas}
use Rattle.aql_tree.specs.declared.syntax.Expr as code
use Rattle.aql_tree.specs.View.{tree, maybe}
use Rattle.aql_tree.specs.laws.Parts.{range_form, ternary_form}
use Rattle.aql_show.specs.Exprs.{expr_text, maybe_text}

pub range_written : (names : List (List ℕ)) (e : Expr) (a b : _) (low high : Expr) (out o1 o2 o3 : List ℕ)
    → e ≡ code.Range a b → low ≡ a.value → high ≡ b.value
    → o1 ≡ out ++ codes "(" ++ expr_text names (tree low)
    → o2 ≡ o1 ++ codes ".." ++ expr_text names (tree high)
    → o3 ≡ o2 ++ codes ")"
    → o3 ≡ out ++ expr_text names (tree e)
range_written names e a b low high out o1 o2 o3 he ha hb h1 h2 h3 =
    rw (h3, h2, h1, ha, hb, range_form e a b he) (simp append_assoc)

pub ternary_written : (names : List (List ℕ)) (e : Expr) (t m o : _) (test other : Expr)
    (out o1 o2 o3 o4 o5 : List ℕ)
    → e ≡ code.Cond t m o → test ≡ t.value → other ≡ o.value
    → o1 ≡ out ++ codes "(" ++ expr_text names (tree test)
    → o2 ≡ o1 ++ codes " ?"
    → o3 ≡ o2 ++ maybe_text names (codes " ") (maybe (option_map (λ b. tree b.value) m))
    → o4 ≡ o3 ++ codes " : " ++ expr_text names (tree other)
    → o5 ≡ o4 ++ codes ")"
    → o5 ≡ out ++ expr_text names (tree e)
ternary_written names e t m o test other out o1 o2 o3 o4 o5 he ht ho h1 h2 h3 h4 h5 =
    rw (h5, h4, h3, h2, h1, ht, ho, ternary_form e t m o he) (simp append_assoc)
