-- The renaming at a place of a list, and the expression at a place of a list that is lent.
use Rattle.std.proofs.Common.{◌≡◌, ◌∙◌, ◌<◌, ◌+◌, ℕ, List, [], ◌∷◌, ◌++◌, length, map, take, drop, get_or, ap, ap₂}
use Rattle.std.proofs.Common.{sym, subst}
use Rattle.std.specs.Borrow.{Bor}
use Rattle.std.specs.List.{AllByRecursion}
use Rattle.std.proofs.lemmas.List.{take_more, map-append}
use Rattle.aql_value.specs.laws.Alls.{all_parts}
use Rattle.aql_tree.specs.declared.syntax.Expr.{Expr}
use Rattle.aql_tree.specs.declared.syntax.Ident.TheVariants.{Num}
use Rattle.aql_tree.specs.Tree.{ExprTree, variable}
use Rattle.aql_meaning.specs.Plain.{IsPlain}
use Rattle.aql_rewrite.specs.ExprView.{lent}
use Rattle.aql_rewrite.specs.declared.swap.Rename.{Rename}
use Rattle.aql_rewrite.specs.Renames.{renaming, put_each}
use Rattle.aql_rewrite.specs.laws.LentExprs.{trees_next, trees_split}
use Rattle.aql_rewrite.specs.laws.Renamings.{each_more}

pub name_next : (rs : List Rename) (i : ℕ) (d : Rename) (number name next : ℕ) → i < length rs
    → put_each (take i rs) (variable (Num number)) ≡ variable (Num name)
    → renaming (get_or rs i d) (variable (Num name)) ≡ variable (Num next)
    → put_each (take (i + 1) rs) (variable (Num number)) ≡ variable (Num next)
name_next rs i d number name next within h k =
    ap (λ qs. put_each qs (variable (Num number))) (take_more rs i d within)
    ∙ each_more renaming (take i rs) (get_or rs i d) (variable (Num number))
    ∙ ap (renaming (get_or rs i d)) h ∙ k

module _ (all : List (Bor Expr)) (i : ℕ) (e : Bor Expr) (within : i < length all) (here : e ≡ get_or all i e) where
  pub is_plain : AllByRecursion IsPlain (map lent all) → IsPlain (lent e)
  is_plain h = (all_parts IsPlain (map lent (take i all)) (lent e ∷ map lent (drop (i + 1) all))
      (subst (λ (es : List ExprTree). AllByRecursion IsPlain es) (trees_split all i e within here) h)).1.0

  -- one more that is renamed; what stands in the place of those before may depend on what they are
  pub one_renamed : (f : ExprTree → ExprTree) (new : List ExprTree → List ExprTree) (old : List ExprTree)
      (d : ExprTree) → old ≡ map f (map lent (take i all)) → d ≡ f (lent e)
      → new (map lent (take i all) ++ lent e ∷ []) ≡ old ++ d ∷ []
      → new (map lent (take (i + 1) all)) ≡ map f (map lent (take (i + 1) all))
  one_renamed f new old d h k added =
      ap new (trees_next all i e within here) ∙ added ∙ ap₂ (λ ds c. ds ++ c ∷ []) h k
      ∙ sym (map-append f (map lent (take i all)) (lent e ∷ []))
      ∙ ap (map f) (sym (trees_next all i e within here))
