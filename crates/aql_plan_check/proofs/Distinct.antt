-- Distinct variables.
use Rattle.std.proofs.Common.{◌≡◌, ◌∙◌, ap, sym, subst, ℕ, zero, suc, ◌<◌, ◌≤◌, ◌+◌, ◌-◌, List, [], ◌∷◌, ◌++◌, length, cond, eqb, get_or, drop, Bool, true, false, arith}
use Rattle.std.specs.Prelude.{not, ◌&&◌}
use Rattle.std.specs.List.{list_any}
use Rattle.std.proofs.lemmas.List.{drop_more}
use Rattle.std.proofs.lemmas.Bool.{and_left, and_right}
use Rattle.aql_tree.specs.declared.syntax.Ident.TheVariants.{Num}
use Rattle.aql_plan.specs.Variables.{are_distinct}
use Rattle.aql_plan_check.specs.inner.Rows.{variables, Same}
use Rattle.aql_plan_check.proofs.SameVariables.{any_of, any_variables, adds_number, same_along, same_after}

shorter : (ns : List ℕ) (i : ℕ) → are_distinct (variables (drop i ns)) ≡ false
    → are_distinct (variables ns) ≡ false
shorter ns zero h = h
shorter [] (suc i) h = h
shorter (n ∷ ns) (suc i) h =
    and_right (not (any_of (Num n) (variables ns))) (are_distinct (variables ns)) (shorter ns i h)

-- the number before a place is after it once more, or not
module _ (ns seen : List ℕ) (at : ℕ) (some : 0 < at) (within : at ≤ length ns)
    (same : Same (variables seen) (variables (drop at ns))) where
  place : (at - 1) + 1 ≡ at
  place = omega arith

  here : drop (at - 1) ns ≡ get_or ns (at - 1) 0 ∷ drop at ns
  here = drop_more ns (at - 1) 0 (omega arith)
      ∙ ap (λ (i : ℕ). get_or ns (at - 1) 0 ∷ drop i ns) place

  after : any_of (Num (get_or ns (at - 1) 0)) (variables (drop at ns))
      ≡ list_any (λ k. eqb (get_or ns (at - 1) 0) k) seen
  after = sym (same.same (Num (get_or ns (at - 1) 0))) ∙ any_variables (get_or ns (at - 1) 0) seen

  pub twice : (r : Bool) → r ≡ not (list_any (λ k. eqb (get_or ns (at - 1) 0) k) seen) → r ≡ false
      → false ≡ are_distinct (variables ns)
  twice r e f = sym (shorter ns (at - 1) (ap (λ (l : List ℕ). are_distinct (variables l)) here
      ∙ and_left (not (any_of (Num (get_or ns (at - 1) 0)) (variables (drop at ns))))
      (are_distinct (variables (drop at ns))) (ap not after ∙ sym e ∙ f)))

  pub once_more : (r : Bool) → r ≡ not (list_any (λ k. eqb (get_or ns (at - 1) 0) k) seen) → r ≡ true
      → are_distinct (variables (drop at ns)) ≡ true → are_distinct (variables (drop (at - 1) ns)) ≡ true
  once_more r e f d = ap (λ (l : List ℕ). are_distinct (variables l)) here
      ∙ ap (λ b. b && are_distinct (variables (drop at ns))) (ap not after ∙ sym e ∙ f) ∙ d

  pub seen_more : (new : List ℕ)
      → new ≡ cond (list_any (λ k. eqb (get_or ns (at - 1) 0) k) seen) seen (seen ++ get_or ns (at - 1) 0 ∷ [])
      → Same (variables new) (variables (drop (at - 1) ns))
  seen_more new e =
      let a = adds_number (get_or ns (at - 1) 0) seen new e in
      same_along (variables new) (Num (get_or ns (at - 1) 0) ∷ variables seen) (variables (drop (at - 1) ns)) a.same
      (subst (λ (l : List ℕ). Same (Num (get_or ns (at - 1) 0) ∷ variables seen) (variables l)) (sym here)
      (same_after (Num (get_or ns (at - 1) 0) ∷ []) (variables seen) (variables (drop at ns)) same))
