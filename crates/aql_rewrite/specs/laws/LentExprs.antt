-- A walk over expressions that are lent: what stands at a place of their list, and what was passed.
use Rattle.std.proofs.Common.{◌≡◌, ◌∙◌, ◌<◌, ◌≤◌, ◌+◌, ℕ, List, [], ◌∷◌, ◌++◌, length, map, take, drop}
use Rattle.std.proofs.Common.{get_or, append_assoc, ap, sym, arith}
use Rattle.std.specs.Borrow.{Bor}
use Rattle.std.proofs.lemmas.List.{take_more, take-append-drop, map-append}
use Rattle.aql_tree.specs.declared.syntax.Expr.{Expr}
use Rattle.aql_rewrite.specs.Size.{size, size_all}
use Rattle.aql_rewrite.specs.ExprView.{lent}
use Rattle.aql_rewrite.specs.laws.PartSizes.{append_size}

module _ (all : List (Bor Expr)) (i : ℕ) (e : Bor Expr) (within : i < length all) (here : e ≡ get_or all i e) where
  next : take (i + 1) all ≡ take i all ++ e ∷ []
  next = take_more all i e within ∙ ap (λ x. take i all ++ x ∷ []) (sym here)

  split : all ≡ take i all ++ e ∷ drop (i + 1) all
  split = sym (take-append-drop (i + 1) all) ∙ ap (λ xs. xs ++ drop (i + 1) all) next
      ∙ append_assoc (take i all) (e ∷ []) (drop (i + 1) all)

  pub trees_next : map lent (take (i + 1) all) ≡ map lent (take i all) ++ lent e ∷ []
  trees_next = ap (map lent) next ∙ map-append lent (take i all) (e ∷ [])

  pub trees_split : map lent all ≡ map lent (take i all) ++ lent e ∷ map lent (drop (i + 1) all)
  trees_split = ap (map lent) split ∙ map-append lent (take i all) (e ∷ drop (i + 1) all)

  pub is_smaller : size (lent e) ≤ size_all (map lent all)
  is_smaller = omega (
    arith,
    ap size_all trees_split,
    append_size (map lent (take i all)) (lent e ∷ map lent (drop (i + 1) all)),
  )
