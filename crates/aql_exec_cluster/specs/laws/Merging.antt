-- Merges of so many lists: of empty lists, and with rows in front of one of them.
use Rattle.std.proofs.Common.{ℕ, zero, suc, ◌≡◌, ◌<◌, ◌++◌, inl, inr, List, [], ◌∷◌, Bool, false, refl, sym, ap, ◌∙◌, subst}
use mathlib.Core.Path.{fun_ext}
use Rattle.std.proofs.lemmas.Bool.{cases_eq}
use Rattle.aql_meaning.specs.Row.{Row}
use Rattle.aql_exec.specs.Operators.{MergedOf}

-- a family with another list at a place
abbrev with_list : ℕ → List Row → (ℕ → List Row) → ℕ → List Row
with_list zero list lists zero = list
with_list zero list lists (suc k) = lists (suc k)
with_list (suc at) list lists zero = lists zero
with_list (suc at) list lists (suc k) = with_list at list (λ j. lists (suc j)) k

list_there : (at : ℕ) (list : List Row) (lists : ℕ → List Row) → with_list at list lists at ≡ list
list_there zero list lists = refl
list_there (suc at) list lists = list_there at list (λ j. lists (suc j))

others_kept : (at : ℕ) (list : List Row) (lists : ℕ → List Row) (j : ℕ) → (j ≡ at → ⊥)
    → with_list at list lists j ≡ lists j
others_kept zero list lists zero d = absurd (d refl)
others_kept zero list lists (suc j) d = refl
others_kept (suc at) list lists zero d = refl
others_kept (suc at) list lists (suc j) d = others_kept at list (λ j. lists (suc j)) j (λ e. d (ap suc e))

-- two families are the same where they are at a place and at all others
pub same_family : {A : Type 0} (k : ℕ) (f g : ℕ → A) → f k ≡ g k → ((j : ℕ) → (j ≡ k → ⊥) → f j ≡ g j)
    → f ≡ g
same_family k f g e o = fun_ext (λ j. elim (cases_eq j k) [
  | inl q ↦ ap f q ∙ e ∙ ap g (sym q)
  | inr d ↦ o j d
])

module _ (before : Row → Row → Bool) where
  -- a merge of nothing is nothing
  pub none_merged : (n : ℕ) (lists : ℕ → List Row) (out : List Row) → ((k : ℕ) → k < n → lists k ≡ [])
      → MergedOf before n lists out → out ≡ []
  none_merged n lists [] h m = refl
  none_merged n lists (x ∷ out) h m =
      let none : [] ≡ x ∷ m.1 m.0 = sym (h m.0 m.2) ∙ m.3 in absurd (cc)

  -- in any order, rows that stand in front of a list may come first
  pub merged_front : ((x y : Row) → before x y ≡ false) → (n k : ℕ) (rows : List Row)
      (lists lists' : ℕ → List Row) (out : List Row) → k < n → lists k ≡ rows ++ lists' k
      → ((j : ℕ) → (j ≡ k → ⊥) → lists' j ≡ lists j) → MergedOf before n lists' out
      → MergedOf before n lists (rows ++ out)
  merged_front free n k [] lists lists' out l e o m =
      subst (λ (z : ℕ → List Row). MergedOf before n z out) (same_family k lists' lists (sym e) o) m
  merged_front free n k (x ∷ rows) lists lists' out l e o m =
      let left = with_list k (rows ++ lists' k) lists in
      let there = list_there k (rows ++ lists' k) lists in (
        k,
        left,
        l,
        e ∙ ap (λ z. x ∷ z) (sym there),
        others_kept k (rows ++ lists' k) lists,
        (λ j y ys i q. free y x),
        merged_front free n k rows left lists' out l there
            (λ j d. o j d ∙ sym (others_kept k (rows ++ lists' k) lists j d)) m,
      )
